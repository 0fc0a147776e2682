-- The triangles are a cut exactly where, the face taken backward beside them, every side runs as often as it is run back and at most once:
-- a side of the face then meets the one triangle that has it. What the code asks, place by place, is the same: a place that no triangle has
-- is at no side.
use mathlib.Core.Path.{◌≡◌, refl, ap}
use mathlib.Core.Logic.{◌↔◌, ◌≢◌, by_cases}
use mathlib.Core.Bool.{Bool, true, false}
use mathlib.Core.List.{List, [], ◌∷◌}
use Prim.Native.Nat.{ℕ, zero, suc, ◌+◌, ◌<◌, ◌≤◌}
use native.Mathlib.Decide.{dec_lt}
use native.Mathlib.Omega.{arith}
use borrow.Author.Tests.{lt-ltb}
use lib.Dec.{ltb}
use lib.ListN.{length}
use Rattle.places.specs.Lists.{Each}
use Rattle.places.specs.Loops.{one_if}
use Rattle.places.proofs.Lists.{each_head, each_tail}
use Rattle.places.proofs.Rings.{next_below}
use Rattle.exact.specs.Sides.{runs}
use Rattle.exact.proofs.Reversed.{runs_none, runs_cons}
use Rattle.cut_check.specs.CutCheck.{Different, face_side, IsCut}
use Rattle.cut_check.specs.Steps.{runs_beside, Paired}
use Rattle.exact.proofs.RingSides.{no_start, no_end}
use Rattle.cut_check.proofs.FaceSides.{face_side_lem, face_not_back}

-- beside the face backward, every side runs as often as it is run back, and at most once
pub record OnceEachWay (n : ℕ) (ts : List (List ℕ)) : Type 0 where
  pub back : (i j : ℕ) → runs_beside n ts i j ≡ runs_beside n ts j i
  pub once : (i j : ℕ) → runs_beside n ts i j ≤ 1

-- what `IsCut` and `OnceEachWay` say of one side: f and g are whether it is the face's and whether its back is, a and b how often the
-- triangles have it and its back
cut_side : (f g : Bool) (a b : ℕ) → (f ≡ true → (a ≡ 1) × (b ≡ 0)) → (g ≡ true → (b ≡ 1) × (a ≡ 0))
    → (f ≡ false → g ≡ false → 0 < a + b → (a ≡ 1) × (b ≡ 1)) → (a + one_if g ≡ b + one_if f) × (a + one_if g ≤ 1)
cut_side true true a b own back other = absurd (omega (arith, own refl, back refl))
cut_side true false a b own back other = let p = own refl in (omega arith, omega arith)
cut_side false true a b own back other = let p = back refl in (omega arith, omega arith)
cut_side false false a b own back other =
    by_cases (dec_lt 0 (a + b)) (λ h. let p = other refl refl h in (omega arith, omega arith)) (λ h. (omega arith, omega arith))

module _ (n : ℕ) (ts : List (List ℕ)) where
  pub cut_even : IsCut n ts → OnceEachWay n ts
  unfolding runs_beside
  cut_even c = record { back = λ i j. (side i j).0; once = λ i j. (side i j).1 }
    where
      side : (i j : ℕ) → (runs_beside n ts i j ≡ runs_beside n ts j i) × (runs_beside n ts i j ≤ 1)
      side i j = cut_side (face_side n i j) (face_side n j i) (runs i j ts) (runs j i ts) (c.own i j) (c.own j i) (c.other i j)

  pub even_cut : 3 ≤ n → length ts + 2 ≡ n → Each [] Different ts → OnceEachWay n ts → IsCut n ts
  unfolding runs_beside
  even_cut h m d e = record {
    number = m;
    different = d;
    own = λ i j f.
        let back = rw (f, face_not_back n i j h f) at (e.back i j) in
        let once = rw f at (e.once j i) in
        (omega arith, omega arith);
    other = λ i j f g o.
        let back = rw (f, g) at (e.back i j) in
        let once = rw g at (e.once i j) in
        (omega arith, omega arith);
  }

-- ---- a place that no triangle has
no_runs : (n i j : ℕ) (ts : List (List ℕ)) → Each [] (Each 0 (λ p. p < n)) ts → n ≤ i → (runs i j ts ≡ 0) × (runs j i ts ≡ 0)
no_runs n i j [] e h = (runs_none i j, runs_none j i)
no_runs n i j (t ∷ ts) e h =
    let away : Each 0 (λ p. p ≢ i) t = record { holds = λ k l q. omega (arith, (each_head e).holds k l) } in
    let rest = no_runs n i j ts (each_tail e) h in
    (omega (arith, runs_cons i j t ts, no_start i j t away), omega (arith, runs_cons j i t ts, no_end j i t away))

no_face_side : (n i j : ℕ) → n ≤ i → (face_side n i j ≡ false) × (face_side n j i ≡ false)
no_face_side n i j h = (start (face_side n i j) refl, end (face_side n j i) refl)
  where
    start : (b : Bool) → face_side n i j ≡ b → b ≡ false
    start true e = absurd (omega (arith, (face_side_lem n i j e).0))
    start false e = refl

    end : (b : Bool) → face_side n j i ≡ b → b ≡ false
    end true e = absurd (omega (arith, next_below j n (face_side_lem n j i e).0, (face_side_lem n j i e).1))
    end false e = refl

nothing_beside : (n i j : ℕ) (ts : List (List ℕ)) → Each [] (Each 0 (λ p. p < n)) ts → n ≤ i
    → (runs_beside n ts i j ≡ 0) × (runs_beside n ts j i ≡ 0)
unfolding runs_beside
nothing_beside n i j ts b h =
    let r = no_runs n i j ts b h in
    let f = no_face_side n i j h in
    (rw f.1 (omega arith), rw f.0 (omega arith))

-- ---- place by place
-- each of two numbers is at most one, and 0 where the other is, exactly where they are the same and at most one
pair_is : (a b : ℕ) → ((a ≤ one_if (ltb 0 b)) × (b ≤ one_if (ltb 0 a))) ↔ ((a ≡ b) × (a ≤ 1))
pair_is zero zero = (λ p. (refl, omega arith), λ p. (omega arith, omega arith))
pair_is zero (suc b) = (λ p. absurd (omega arith), λ p. absurd (omega arith))
pair_is (suc a) zero = (λ p. absurd (omega arith), λ p. absurd (omega arith))
pair_is (suc a) (suc b) =
    let first = ap one_if (lt-ltb 0 (suc a) (omega arith)) in
    let second = ap one_if (lt-ltb 0 (suc b) (omega arith)) in
    (λ p. (omega arith, omega arith), λ p. (omega arith, omega arith))

module _ (n : ℕ) (ts : List (List ℕ)) where
  pairs_even : Each [] (Each 0 (λ p. p < n)) ts → Paired n ts → OnceEachWay n ts
  pairs_even b p = record { back = λ i j. (side i j).0; once = λ i j. (side i j).1 }
    where
      side : (i j : ℕ) → (runs_beside n ts i j ≡ runs_beside n ts j i) × (runs_beside n ts i j ≤ 1)
      side i j = by_cases (dec_lt i n) (λ l. by_cases (dec_lt j n)
          (λ m. (pair_is (runs_beside n ts i j) (runs_beside n ts j i)).0 ((p.paired i l).pairs j, (p.paired j m).pairs i))
          (λ m. let z = nothing_beside n j i ts b (omega arith) in (omega arith, omega arith)))
          (λ l. let z = nothing_beside n i j ts b (omega arith) in (omega arith, omega arith))

  even_pairs : OnceEachWay n ts → Paired n ts
  even_pairs e = record {
    paired = λ i _. record { pairs = λ j. ((pair_is (runs_beside n ts i j) (runs_beside n ts j i)).1 (e.back i j, e.once i j)).0 };
  }

pub paired_cut : (n : ℕ) (ts : List (List ℕ)) → 3 ≤ n → Each [] (Each 0 (λ p. p < n)) ts → length ts + 2 ≡ n → Each [] Different ts
    → Paired n ts ↔ IsCut n ts
paired_cut n ts h b m d = (λ p. even_cut n ts h m d (pairs_even n ts b p), λ c. even_pairs n ts (cut_even n ts c))
