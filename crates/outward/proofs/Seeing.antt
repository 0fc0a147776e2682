-- Where nothing new is seen it does not matter whether the vertex is a corner of the face: this is why `look` need not search the face
-- there.
use mathlib.Core.Path.{◌≡◌, refl, sym}
use mathlib.Core.Bool.{Bool, true, false, true≢false, ◌&&◌, beq, cond}
use Rattle.outward.specs.declared.Seen.{Seen}

-- whether the same was seen, as the derived equality tells it
abbrev pub same_seen : Seen → Seen → Bool
same_seen a b = beq a.above b.above && beq a.below b.below

both_same : (x y u v : Bool) → (beq x u && beq y v) ≡ true → (x ≡ u) × (y ≡ v)
both_same true true true true h = (refl, refl)
both_same true false true false h = (refl, refl)
both_same false true false true h = (refl, refl)
both_same false false false false h = (refl, refl)
both_same true true true false h = absurd (true≢false (sym h))
both_same true false true true h = absurd (true≢false (sym h))
both_same false true false false h = absurd (true≢false (sym h))
both_same false false false true h = absurd (true≢false (sym h))
both_same true y false v h = absurd (true≢false (sym h))
both_same false y true v h = absurd (true≢false (sym h))

same_is : (a b : Seen) → same_seen a b ≡ true → a ≡ b
same_is a b h = let e = both_same a.above a.below b.above b.below h in rw (e.0, e.1)

-- what was seen before is the answer
pub nothing_new : (corner : Bool) (next seen : Seen) → same_seen next seen ≡ true → seen ≡ cond corner seen next
nothing_new true next seen h = refl
nothing_new false next seen h = sym (same_is next seen h)
