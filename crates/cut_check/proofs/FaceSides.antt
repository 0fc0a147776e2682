-- The sides of a face of n corners are those of the ring of its places, which are different.
use mathlib.Core.Path.{◌≡◌, refl, sym, ◌∙◌, ap}
use mathlib.Core.Bool.{Bool, true, false, true≢false}
use Prim.Native.Nat.{ℕ, ◌<◌, ◌≤◌}
use native.Mathlib.Omega.{arith}
use borrow.Author.Tests.{ltb-true, lt-ltb, eqb-true, eq-eqb}
use lib.Dec.{eqb, ltb}
use lib.ListN.{length, get_or}
use Rattle.places.specs.Loops.{one_if}
use Rattle.places.specs.Ring.{sides, next_of, places_below}
use Rattle.places.proofs.Rings.{next_below, next_next, length_places, place_at}
use Rattle.exact.specs.Sides.{count}
use Rattle.exact.specs.Facing.{Single}
use Rattle.exact.proofs.Conditions.{and_is}
use Rattle.exact.proofs.RingSides.{SideOf, of_side, no_side, once_round}
use Rattle.cut_check.specs.CutCheck.{face_side}

pub face_side_lem : (n i j : ℕ) → face_side n i j ≡ true → (i < n) × (next_of i n ≡ j)
unfolding face_side
face_side_lem n i j e =
    let both = (and_is (ltb i n) (eqb (next_of i n) j)).0 e in
    (ltb-true i n both.0, eqb-true (next_of i n) j both.1)

is_face_side : (n i j : ℕ) → i < n → next_of i n ≡ j → face_side n i j ≡ true
unfolding face_side
is_face_side n i j h e = rw (lt-ltb i n h, eq-eqb (next_of i n) j e)

pub face_not_back : (n i j : ℕ) → 3 ≤ n → face_side n i j ≡ true → face_side n j i ≡ false
face_not_back n i j h e = go (face_side n j i) refl
  where
    go : (b : Bool) → face_side n j i ≡ b → b ≡ false
    go true q = absurd (next_next i n (face_side_lem n i j e).0 h (rw (face_side_lem n i j e).1 (face_side_lem n j i q).1))
    go false q = refl

pub single_places : (n : ℕ) → Single (places_below n)
single_places n p q a b e =
    let l : q < n = omega (arith, length_places n) in
    let g : p < n = omega arith in
    omega (arith, sym (place_at n p g) ∙ e ∙ place_at n q l)

-- each side of the face is one of the ring of its places, which has no other
pub count_face : (n i j : ℕ) → count i j (sides (places_below n)) ≡ one_if (face_side n i j)
count_face n i j = go (face_side n i j) refl
  where
    go : (b : Bool) → face_side n i j ≡ b → count i j (sides (places_below n)) ≡ one_if b
    go true e =
        let l : i < n = (face_side_lem n i j e).0 in
        let many = length_places n in
        let to : get_or (places_below n) (next_of i (length (places_below n))) 0 ≡ j =
        rw many (place_at n (next_of i n) (next_below i n l) ∙ (face_side_lem n i j e).1) in
        let s : SideOf i j (places_below n) = record { k = i; below = omega arith; start = place_at n i l; end = to } in
        omega (arith, of_side i j (places_below n) s, once_round (places_below n) (single_places n) i j)
    go false e = no_side i j (places_below n) (λ s.
        let many = length_places n in
        let l : s.k < n = omega (arith, s.below) in
        let from = sym (place_at n s.k l) ∙ s.start in
        let to = sym (place_at n (next_of s.k n) (next_below s.k n l)) ∙ (rw many at s.end) in
        true≢false (sym (is_face_side n i j (omega (arith, from)) (ap (λ x. next_of x n) (sym from) ∙ to)) ∙ e))
