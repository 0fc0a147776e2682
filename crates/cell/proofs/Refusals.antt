-- The rows of a refusal table one after the other, for every function that answers with one; and what is known of a cell that no row
-- refuses, for everybody who is given such a cell.
use mathlib.Core.Path.{◌≡◌, refl, sym}
use mathlib.Core.Bool.{Bool, true, false, not, ◌&&◌, ◌||◌, cond, true≢false}
use mathlib.Core.List.{List, [], ◌∷◌}
use Prim.Native.Nat.{ℕ, zero, suc, ◌-◌, ◌<◌, ◌≤◌, ◌/◌, ◌%◌, ◌^◌}
use native.Mathlib.Omega.{arith}
use lib.Dec.{ltb, eqb}
use lib.ListN.{length, get_or}
use lib.Seq.{slice, slice_empty, length-slice}
use lib.Ieee.{Float, nan, neg, le, of_bits}
use lib.Ieee.Exact.{HasValue}
use borrow.Author.Tests.{ltb-true, ltb-false, leb-false, eqb-true, eqb-false, not-false, ne_eqb, lt-ltb, le-ltb}
use Rattle.places.specs.Loops.{any_of}
use Rattle.places.specs.Lists.{Each}
use Rattle.places.specs.Refusals.{Check, no_refusal}
use Rattle.places.specs.declared.refusal.Refusal.{Refusal}
use Rattle.places.specs.declared.refusal.Refusal.TheVariants.{Size, Number, Ends, Index}
use Rattle.std.specs.Prelude.{Err}
use Rattle.places.proofs.Stored.{length_threes}
use Rattle.floats.proofs.Within.{Within, within_between}
use Rattle.flat.specs.Points.{vertices_of}
use Rattle.cell.specs.Faces.{rises}
use Rattle.cell.specs.Refusals.{first_row, limit, out_of_range, not_below, is_empty, points_refused, size_refused, number_refused}
use Rattle.cell.specs.Refusals.{ends_refused, index_refused, refusal_of}
use Rattle.cell.specs.Steps.{Sound}

-- ---- the first row that applies
module _ (why : Refusal) (rows : List (Refusal × Bool)) where
  -- a row that applies decides
  pub row_applies : {applies : Bool} → applies ≡ true → Err why ≡ first_row ((why, applies) ∷ rows)
  unfolding first_row
  row_applies e = rw e

  -- one that does not leaves it to the rows after it
  pub row_passed : {applies : Bool} {r : Check} → applies ≡ false → r ≡ first_row rows → r ≡ first_row ((why, applies) ∷ rows)
  unfolding first_row
  row_passed e q = rw (e, q)

  -- where the check passes, a row does not apply, and the rows after it pass
  pub row_known : (applies : Bool) → first_row ((why, applies) ∷ rows) ≡ no_refusal → (applies ≡ false) × (first_row rows ≡ no_refusal)
  unfolding first_row
  row_known true e = absurd (cc)
  row_known false e = (refl, e)

pub no_row : no_refusal ≡ first_row []
unfolding first_row
no_row = refl

-- a test of three, whichever two are put together
pub or_three : (a b c : Bool) → (a || b) || c ≡ a || (b || c)
or_three true b c = refl
or_three false b c = refl

-- neither of two
pub or_none : (a b : Bool) → a || b ≡ false → (a ≡ false) × (b ≡ false)
or_none true b e = (e, cc)
or_none false b e = (refl, e)

-- ---- where the test holds of none, it fails at each place
any_step : {A : Type 0} (test : A → Bool) (x : A) (l : List A) → cond (test x) true (any_of test l) ≡ false
    → (test x ≡ false) × (any_of test l ≡ false)
any_step test x l e = go (test x) e
  where
    go : (b : Bool) → cond b true (any_of test l) ≡ false → (b ≡ false) × (any_of test l ≡ false)
    go true e = (e, cc)
    go false e = (refl, e)

pub any_none : {A : Type 0} (test : A → Bool) (d : A) (l : List A) → any_of test l ≡ false
    → (k : ℕ) → k < length l → test (get_or l k d) ≡ false
unfolding any_of
any_none test d [] e k h = absurd (omega arith)
any_none test d (x ∷ l) e zero h = (any_step test x l e).0
any_none test d (x ∷ l) e (suc k) h = any_none test d l (any_step test x l e).1 k (omega arith)

-- where no number is refused, each is tame, or below n
pub all_in_range : (xs : List Float) → number_refused xs ≡ false → Each nan (λ x. out_of_range x ≡ false) xs
unfolding number_refused
all_in_range xs e = record { holds = λ k h. any_none out_of_range nan xs e k h }

-- and such a number is at most 2 ^ 40 in magnitude
pub limit_value : HasValue limit false (2 ^ 40) 1
unfolding of_bits
limit_value = (refl, refl)

both : (a b : Bool) → not (a && b) ≡ false → (a ≡ true) × (b ≡ true)
both true true e = (refl, refl)
both true false e = absurd (true≢false e)
both false b e = absurd (true≢false e)

pub tame_within : (x : Float) → out_of_range x ≡ false → Within 40 x
unfolding out_of_range
tame_within x e =
    let h = both (le (neg limit) x) (le x limit) e in
    within_between x limit 40 limit_value h.0 h.1

-- every number of a list that passes refusal 2
pub number_within : (xs : List Float) → number_refused xs ≡ false → (i : ℕ) → i < length xs → Within 40 (get_or xs i nan)
number_within xs t i h = tame_within (get_or xs i nan) ((all_in_range xs t).holds i h)

pub all_below : (n : ℕ) (cs : List ℕ) → index_refused n cs ≡ false → Each 0 (λ v. v < n) cs
unfolding index_refused
all_below n cs e = record { holds = λ k h. leb-false n (get_or cs k 0) (any_none (not_below n) 0 cs e k h) }

-- ---- the face from p up to e is empty exactly where p is e
module _ (p e : ℕ) (c : List ℕ) where
  pub empty_yes : p ≡ e → is_empty (slice p e c) ≡ true
  unfolding is_empty
  empty_yes h = rw (h, slice_empty)

  pub empty_no : p ≤ e → e ≤ length c → (p ≡ e → ⊥) → is_empty (slice p e c) ≡ false
  unfolding is_empty
  empty_no h g ne = rw (length-slice p e c g) (ne_eqb (e - p) 0 (λ z. ne (omega arith)))

-- ---- the size of a list of points, told by the number of coordinates
module _ (coords : List Float) where
  points_is : (n : ℕ) → n ≡ length coords → points_refused coords ≡ not (eqb (n % 3) 0) || (eqb (n / 3) 0 || ltb 256 (n / 3))
  unfolding points_refused
  points_is n e = rw (e, length_threes coords)

  pub not_in_threes : (length coords % 3 ≡ 0 → ⊥) → true ≡ points_refused coords
  unfolding points_refused
  not_in_threes h = rw (ne_eqb (length coords % 3) 0 h)

  -- in threes: none, or as many as they are
  pub no_vertex : length coords ≡ 0 → true ≡ points_refused coords
  no_vertex h = rw (points_is 0 (sym h))

  pub some_vertices : length coords % 3 ≡ 0 → (length coords ≡ 0 → ⊥) → ltb 768 (length coords) ≡ points_refused coords
  some_vertices e h = go (ltb 768 (length coords)) refl
    where
      go : (b : Bool) → ltb 768 (length coords) ≡ b → b ≡ points_refused coords
      go true t =
          let n = length coords in
          let m : 768 < n = ltb-true 768 n t in
          rw (points_is n refl, e, ne_eqb (n / 3) 0 (omega arith), lt-ltb 256 (n / 3) (omega arith))
      go false t =
          let n = length coords in
          let m : n ≤ 768 = ltb-false 768 n t in
          rw (points_is n refl, e, ne_eqb (n / 3) 0 (omega arith), le-ltb 256 (n / 3) (omega arith))

  -- so the tests of the number of coordinates are those of the vertices
  pub points_by_number : let n = length coords in (not (eqb (n % 3) 0) || eqb n 0) || ltb 768 n ≡ points_refused coords
  points_by_number = go (eqb (length coords % 3) 0) (eqb (length coords) 0) refl refl
    where
      go : (threes none : Bool) → eqb (length coords % 3) 0 ≡ threes → eqb (length coords) 0 ≡ none
          → (not threes || none) || ltb 768 (length coords) ≡ points_refused coords
      go false none e f = not_in_threes (eqb-false _ 0 e)
      go true true e f = no_vertex (eqb-true _ 0 f)
      go true false e f = some_vertices (eqb-true _ 0 e) (eqb-false _ 0 f)

at_least_one : (n : ℕ) → eqb n 0 ≡ false → 1 ≤ n
at_least_one n e = let h : n ≡ 0 → ⊥ = eqb-false n 0 e in omega arith

-- what is known of a list of points that is not refused
pub record Counted (coords : List Float) : Type 0 where
  pub threes : length coords % 3 ≡ 0
  pub some : 1 ≤ length (vertices_of coords)
  pub few : length (vertices_of coords) ≤ 256

pub counted : (coords : List Float) → points_refused coords ≡ false → Counted coords
unfolding points_refused
counted coords e =
    let threes = or_none _ _ e in
    let some = or_none _ _ threes.1 in
    record { threes = eqb-true _ _ (not-false _ threes.0); some = at_least_one _ some.0; few = ltb-false 256 _ some.1 }

-- what passes the sizes has few vertices and faces
pub few_points : (coords : List Float) → points_refused coords ≡ false → length coords / 3 < 4294967296
few_points coords h = omega (arith, (counted coords h).few, length_threes coords)

pub few_of_all : (coords : List Float) (corners ends : List ℕ) → size_refused coords corners ends ≡ false
    → (length coords / 3 < 4294967296) × (length ends < 4294967296)
unfolding size_refused
few_of_all coords corners ends h =
    let a = or_none (points_refused coords) (ltb 256 (length ends) || ltb 2048 (length corners)) h in
    let b = or_none (ltb 256 (length ends)) (ltb 2048 (length corners)) a.1 in
    (few_points coords a.0, omega (arith, ltb-false 256 (length ends) b.0))

-- ---- the rows, none of which applies
pub record Accepted (coords : List Float) (corners ends : List ℕ) (query : List Float) (asked : List ℕ) : Type 0 where
  pub size : size_refused coords corners ends ≡ false
  pub numbers : number_refused coords ≡ false
  pub queried : number_refused query ≡ false
  pub ordered : ends_refused corners ends ≡ false
  pub inside : index_refused (length (vertices_of coords)) corners ≡ false
  pub known : index_refused (length ends) asked ≡ false

module _ (coords : List Float) (corners ends : List ℕ) (query : List Float) (asked : List ℕ) where
  -- the check passes exactly where none of the rows applies
  pub accepted : refusal_of coords corners ends query asked ≡ no_refusal → Accepted coords corners ends query asked
  unfolding refusal_of
  accepted e =
      let one = row_known Size _ _ e in
      let two = row_known Number _ _ one.1 in
      let three = row_known Ends _ _ two.1 in
      let four = row_known Index _ _ three.1 in
      let numbers = or_none _ _ two.0 in
      let indices = or_none _ _ four.0 in
      record { size = one.0; numbers = numbers.0; queried = numbers.1; ordered = three.0; inside = indices.0; known = indices.1 }

  pub accepts : Accepted coords corners ends query asked → refusal_of coords corners ends query asked ≡ no_refusal
  unfolding refusal_of first_row
  accepts a = rw (a.size, a.numbers, a.queried, a.ordered, a.inside, a.known)

  -- ---- what is known of a cell that is not refused
  pub sound : refusal_of coords corners ends query asked ≡ no_refusal → Sound coords corners ends
  unfolding size_refused ends_refused
  sound e =
      let a = accepted e in
      let size = or_none _ _ a.size in
      let points = counted coords size.0 in
      let faces = or_none _ _ size.1 in
      record {
        threes = points.threes;
        some = points.some;
        few = points.few;
        few_faces = ltb-false 256 _ faces.0;
        few_corners = ltb-false 2048 _ faces.1;
        ordered = rw (not-false (rises 0 ends (length corners)) a.ordered) tt;
        inside = all_below _ corners a.inside;
      }

  pub tame : refusal_of coords corners ends query asked ≡ no_refusal → number_refused coords ≡ false
  tame e = (accepted e).numbers

  -- the faces that are asked for are there
  pub asked_known : refusal_of coords corners ends query asked ≡ no_refusal → Each 0 (λ k. k < length ends) asked
  asked_known e = all_below (length ends) asked (accepted e).known
