-- The sides of a ring. One that occurs runs from a place of the ring to the next; so in a ring of different vertices it occurs once, and
-- with three corners or more it is not run back.
use mathlib.Core.Path.{◌≡◌, refl, sym, ◌∙◌, ap}
use mathlib.Core.Logic.{◌≢◌, by_cases}
use mathlib.Core.Bool.{Bool, true, false}
use mathlib.Core.List.{List, [], ◌∷◌}
use Prim.Native.Nat.{ℕ, zero, suc, ◌+◌, ◌<◌, ◌≤◌}
use native.Mathlib.Decide.{dec_lt}
use native.Mathlib.Omega.{arith}
use lib.ListN.{length, get_or}
use Rattle.places.specs.Lists.{Each}
use Rattle.places.specs.Loops.{one_if}
use Rattle.places.specs.Ring.{sides, next_of}
use Rattle.places.proofs.Rings.{next_below, next_next, length_sides, side_at}
use Rattle.exact.specs.Sides.{from_to, count}
use Rattle.exact.specs.Facing.{Single}
use Rattle.exact.proofs.Balance.{from_to_eq, bit_self}

-- ---- the sides of a list
-- the side from i to j stands at place k of a list
pub record PlaceOf (i j : ℕ) (l : List (ℕ × ℕ)) : Type 0 where
  pub k : ℕ
  pub below : k < length l
  pub so : get_or l k (0, 0) ≡ (i, j)

-- a side that occurs in a list stands at a place of it
pub place_of : (i j : ℕ) (l : List (ℕ × ℕ)) → 0 < count i j l → PlaceOf i j l
place_of i j [] h = absurd (omega arith)
place_of i j (e ∷ l) h = go (place_of i j l) (from_to i j e) refl
  where
    go : (0 < count i j l → PlaceOf i j l) → (b : Bool) → from_to i j e ≡ b → PlaceOf i j (e ∷ l)
    go ih true q =
        let start = (from_to_eq i j e q).0 in
        let end = (from_to_eq i j e q).1 in
        record { k = 0; below = omega arith; so = λ m. (start m, end m) }
    go ih false q =
        let p = ih (omega (arith, rw q at h)) in
        record { k = suc p.k; below = omega (arith, p.below); so = p.so }

-- a side that stands at a place of a list occurs in it
pub of_place_lem : (i j : ℕ) (l : List (ℕ × ℕ)) (k : ℕ) → k < length l → get_or l k (0, 0) ≡ (i, j) → 0 < count i j l
of_place_lem i j [] k h e = absurd (omega arith)
of_place_lem i j (x ∷ l) zero h e = rw e (omega (arith, bit_self i j))
of_place_lem i j (x ∷ l) (suc k) h e = omega (arith, of_place_lem i j l k (omega arith) e)

-- sides that start at different places are different
once_in : (i j : ℕ) (l : List (ℕ × ℕ)) → ((p q : ℕ) → p < q → q < length l → (get_or l p (0, 0)).0 ≢ (get_or l q (0, 0)).0)
    → count i j l ≤ 1
once_in i j [] h = omega arith
once_in i j (e ∷ l) h = go (once_in i j l (λ p q a b. h (suc p) (suc q) (omega arith) (omega arith))) (from_to i j e) refl
  where
    go : count i j l ≤ 1 → (b : Bool) → from_to i j e ≡ b → one_if (from_to i j e) + count i j l ≤ 1
    go ih true q = by_cases (dec_lt 0 (count i j l)) (λ o.
        let p = place_of i j l o in
        absurd (h 0 (suc p.k) (omega arith) (omega (arith, p.below)) ((from_to_eq i j e q).0 ∙ ap (λ x. x.0) (sym p.so))))
        (λ n. rw q (omega arith))
    go ih false q = rw q (omega arith)

-- ---- the sides of a ring
-- the side from i to j is that of the ring at place k
pub record SideOf (i j : ℕ) (r : List ℕ) : Type 0 where
  pub k : ℕ
  pub below : k < length r
  pub start : get_or r k 0 ≡ i
  pub end : get_or r (next_of k (length r)) 0 ≡ j

pub side_of_lem : (i j : ℕ) (r : List ℕ) → 0 < count i j (sides r) → SideOf i j r
side_of_lem i j r h =
    let p = place_of i j (sides r) h in
    let l : p.k < length r = omega (arith, p.below, length_sides r) in
    let e = sym (side_at r p.k 0 l) ∙ p.so in
    record { k = p.k; below = l; start = ap (λ x. x.0) e; end = ap (λ x. x.1) e }

pub of_side : (i j : ℕ) (r : List ℕ) → SideOf i j r → 0 < count i j (sides r)
of_side i j r s =
    of_place_lem i j (sides r) s.k (omega (arith, s.below, length_sides r))
    (side_at r s.k 0 s.below ∙ (λ m. (s.start m, s.end m)))

pub no_side : (i j : ℕ) (r : List ℕ) → (SideOf i j r → ⊥) → count i j (sides r) ≡ 0
no_side i j r n = by_cases (dec_lt 0 (count i j (sides r))) (λ h. absurd (n (side_of_lem i j r h))) (λ h. omega arith)

-- a vertex that the ring does not have is at no side of it
pub no_start : (i j : ℕ) (r : List ℕ) → Each 0 (λ p. p ≢ i) r → count i j (sides r) ≡ 0
no_start i j r e = no_side i j r (λ s. e.holds s.k s.below s.start)

pub no_end : (i j : ℕ) (r : List ℕ) → Each 0 (λ p. p ≢ j) r → count i j (sides r) ≡ 0
no_end i j r e = no_side i j r (λ s. e.holds (next_of s.k (length r)) (next_below s.k (length r) s.below) s.end)

-- ---- of different vertices
pub one_place : (r : List ℕ) → Single r → (p q : ℕ) → p < length r → q < length r → get_or r p 0 ≡ get_or r q 0 → p ≡ q
one_place r s p q a b e =
    by_cases (dec_lt p q) (λ l. absurd (s p q l b e)) (λ n. by_cases (dec_lt q p) (λ l. absurd (s q p l a (sym e))) (λ m. omega arith))

pub once_round : (r : List ℕ) → Single r → (i j : ℕ) → count i j (sides r) ≤ 1
once_round r s i j = once_in i j (sides r) (λ p q a b e.
    let long = length_sides r in
    let l : q < length r = omega arith in
    let g : p < length r = omega arith in
    s p q a l (ap (λ x. x.0) (sym (side_at r p 0 g)) ∙ e ∙ ap (λ x. x.0) (side_at r q 0 l)))

pub not_back : (r : List ℕ) → Single r → 3 ≤ length r → (i j : ℕ) → 0 < count i j (sides r) → count j i (sides r) ≡ 0
not_back r s h i j o =
    let there = side_of_lem i j r o in
    no_side j i r (λ back.
    let below = next_below there.k (length r) there.below in
    let turn = one_place r s back.k (next_of there.k (length r)) back.below below (back.start ∙ sym there.end) in
    let back_below = next_below back.k (length r) back.below in
    let home = one_place r s (next_of back.k (length r)) there.k back_below there.below (back.end ∙ sym there.start) in
    next_next there.k (length r) there.below h (rw turn at home))
