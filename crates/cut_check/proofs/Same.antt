-- Three places are doubled exactly where the first is the second or the third, or the second is the third; so an answer that is no exactly
-- where no triangle's three places are doubled is whether the places of any are not different, as `any_same` asks.
use mathlib.Core.Path.{◌≡◌, refl, sym, ◌∙◌}
use mathlib.Core.Bool.{Bool, true, false, ◌||◌, cond}
use mathlib.Core.List.{List, [], ◌∷◌}
use Prim.Native.Nat.{ℕ, ◌+◌, ◌*◌, ◌/◌, ◌<◌, ◌≤◌}
use native.Mathlib.Nat.{add-zero}
use native.Mathlib.Omega.{arith}
use denote.Ref.{Bor}
use lib.Dec.{eqb}
use lib.ListN.{length, get_or}
use Rattle.std.proofs.Common.{Option, Some, None}
use Rattle.std.specs.Bool.{MatchBool, IsTrue}
use Rattle.std.specs.Iterator.Runs.{Run, AllItems, AnyItem, IsChunksExactRun}
use Rattle.std.specs.List.{IsSubsliceAt}
use Rattle.std.specs.Option.{IfSome, IsSomeAnd, option_map}
use Rattle.places.specs.Loops.{any_of}
use Rattle.places.specs.Stored.{in_threes}
use Rattle.places.proofs.Stored.{threes_at, length_threes}
use Rattle.exact.specs.Facing.{doubled}
use Rattle.exact.proofs.Conditions.{none_each}
use Rattle.cut_check.specs.CutCheck.{not_different}

pub doubled_three : (a b c : ℕ) → doubled (a ∷ b ∷ c ∷ []) ≡ cond (eqb a b) true (cond (eqb a c) true (eqb b c))
unfolding doubled any_of
doubled_three a b c = go (eqb a b) (eqb a c) (eqb b c)
  where
    go : (p q r : Bool) → (cond p true (cond q true false) || (cond r true false || (false || false))) ≡ cond p true (cond q true r)
    go true q r = refl
    go false true r = refl
    go false false true = refl
    go false false false = refl

-- whether the triangle t, whose places are x, y and z, has a place twice
pub not_different_at : {t x y z : ℕ} {r s : Bool} (c : List ℕ) → t < length c / 3 → x ≡ get_or c (t * 3) 0 → y ≡ get_or c (t * 3 + 1) 0
    → z ≡ get_or c (t * 3 + 2) 0 → r ≡ doubled (x ∷ y ∷ z ∷ []) → r ≡ s → not_different (get_or (in_threes c) t []) ≡ s
unfolding not_different
not_different_at {t} {x} {y} {z} c h ex ey ez e q = rw (threes_at c t 0 h, ← ex, ← ey, ← ez, ← e) q

-- the three places of a chunk
abbrev pub triple : List ℕ → List ℕ
triple x = get_or x 0 0 ∷ get_or x 1 0 ∷ get_or x 2 0 ∷ []

-- the chunk x is the triangle t of c
record At (c : List ℕ) (t : ℕ) (x : Bor (List ℕ)) : Type 0 where
  within : t < length c / 3
  same : not_different (get_or (in_threes c) t []) ≡ doubled (triple x.now)

chunk_at : (c : List ℕ) (t : ℕ) (x : Bor (List ℕ)) → t * 3 + 3 ≤ length c → IsSubsliceAt 3 c (t * 3) x.now → At c t x
unfolding not_different
chunk_at c t x h s =
    let within : t < length c / 3 = omega arith in
    let first : get_or x.now 0 0 ≡ get_or c (t * 3 + 0) 0 = s.2 0 0 (omega arith) in
    let second : get_or x.now 1 0 ≡ get_or c (t * 3 + 1) 0 = s.2 1 0 (omega arith) in
    let third : get_or x.now 2 0 ≡ get_or c (t * 3 + 2) 0 = s.2 2 0 (omega arith) in
    record { within = within; same = rw (threes_at c t 0 within, first, second, third, add-zero) refl }

-- one is enough for a yes
some_at : (c : List ℕ) (t : ℕ) → t < length c / 3 → not_different (get_or (in_threes c) t []) ≡ true
    → true ≡ any_of not_different (in_threes c)
some_at c t h e = go (any_of not_different (in_threes c)) refl
  where
    go : (b : Bool) → any_of not_different (in_threes c) ≡ b → true ≡ b
    go true q = refl
    go false q = sym e ∙ ((none_each not_different [] (in_threes c)).0 q).holds t (omega (arith, length_threes c))

module _ {S : Type 0} {steps : S → Option (Bor (List ℕ)) → S → Type 0} (p : Run steps) (c : List ℕ) (k : IsChunksExactRun p 3 c) where
  item : (t : ℕ) → IfSome (p.at t) (λ x. At c t x)
  item t = go (p.at t) (k.2 t)
    where
      go : (o : Option (Bor (List ℕ))) → IfSome o (λ x. (length x.now ≡ 3) × (t * 3 + 3 ≤ length c) × IsSubsliceAt 3 c (t * 3) x.now)
          → IfSome o (λ x. At c t x)
      go None i = i
      go (Some x) i = chunk_at c t x i.1 i.2

  -- a closure that says whether a chunk has a place twice is asked of the chunks: yes at one, or no at all
  pub any_chunks : {K : Type 0} {Yes No : Bor (List ℕ) → Type 0} {r : Bool} → K
      → ((x : Bor (List ℕ)) → Yes x → true ≡ doubled (triple x.now))
      → ((x : Bor (List ℕ)) → No x → false ≡ doubled (triple x.now))
      → MatchBool r (K → AnyItem p Yes) (IsTrue p.whole × (K → AllItems p No)) → r ≡ any_of not_different (in_threes c)
  any_chunks {Yes = Yes} {r = true} keeps there never m =
      let some = m keeps in go some.0 (p.at some.0) (item some.0) some.2
    where
      go : (t : ℕ) (o : Option (Bor (List ℕ))) → IfSome o (λ x. At c t x) → IsSomeAnd o Yes → true ≡ any_of not_different (in_threes c)
      go t None i a = absurd a
      go t (Some x) i a = some_at c t i.within (i.same ∙ sym (there x a))
  any_chunks {No = No} {r = false} keeps there never m =
      let nobody : Bor (List ℕ) = record { ref_ptr = (0, 0); now = [] } in
      let each : (t : ℕ) → t < length (in_threes c) → not_different (get_or (in_threes c) t []) ≡ false =
      λ t h. go t (p.at t) (p.reads t nobody (omega (arith, length_threes c, k.1 m.0))) (item t) (m.1 keeps t) in
      sym ((none_each not_different [] (in_threes c)).1 (record { holds = each }))
    where
      go : (t : ℕ) (o : Option (Bor (List ℕ))) {y : Bor (List ℕ)} → option_map (λ y. y) o ≡ Some y → IfSome o (λ x. At c t x) → IfSome o No
          → not_different (get_or (in_threes c) t []) ≡ false
      go t None e i a = (cc)
      go t (Some x) e i a = i.same ∙ sym (never x a)
