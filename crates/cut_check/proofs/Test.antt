-- The test of specs/CutCheck.antt answers yes exactly where the triangles are a cut: a side of the face is one of the ring of its places,
-- a side that occurs is among all sides of the triangles, and what holds of every side of a list holds of each that occurs in it.
use mathlib.Core.Path.{◌≡◌, refl}
use mathlib.Core.Logic.Iff
use mathlib.Core.Logic.{◌↔◌, by_cases}
use mathlib.Core.Bool.{Bool, true, false, not, ◌&&◌, ◌||◌, true≢false}
use mathlib.Core.List.{List, []}
use Prim.Native.Nat.{ℕ, ◌+◌, ◌<◌}
use native.Mathlib.Decide.{dec_lt}
use native.Mathlib.Omega.{arith}
use borrow.Author.Tests.{eqb-true, eq-eqb, not-true, not-false}
use lib.Dec.{eqb}
use lib.ListN.{length, get_or}
use Rattle.places.specs.Lists.{Each}
use Rattle.places.specs.Loops.{any_of}
use Rattle.places.specs.Ring.{sides, places_below}
use Rattle.places.proofs.Loops.{one_if_lem}
use Rattle.exact.specs.Sides.{all_sides, runs, every_side}
use Rattle.exact.specs.Facing.{occurs, doubled}
use Rattle.exact.proofs.Test.{every_is}
use Rattle.exact.proofs.Conditions.{and_is, or_is, none_each, doubled_is}
use Rattle.cut_check.specs.CutCheck.{Different, face_side, not_different, own_way, each_way, is_cut_of, CutTest}
use Rattle.cut_check.proofs.FaceSides.{count_face}

-- ---- yes and no
number_is : (a n : ℕ) → (eqb a n ≡ true) ↔ (a ≡ n)
number_is a n = (eqb-true a n, eq-eqb a n)

-- two numbers are both as they should be
two_are : (a b m n : ℕ) → (eqb a m && eqb b n ≡ true) ↔ ((a ≡ m) × (b ≡ n))
two_are a b m n = Iff.trans (and_is (eqb a m) (eqb b n)) (Iff.and (number_is a m) (number_is b n))

-- one of three says yes exactly where the third does unless one of the first two does
third_is : (a b c : Bool) → ((a || b) || c ≡ true) ↔ (a ≡ false → b ≡ false → c ≡ true)
third_is true b c = (λ e p q. absurd (true≢false p), λ h. refl)
third_is false true c = (λ e p q. absurd (true≢false q), λ h. refl)
third_is false false c = (λ e p q. e, λ h. h refl refl)

-- ---- the parts of `IsCut`
pub different_is : (t : List ℕ) → (not_different t ≡ false) ↔ Different t
unfolding not_different
different_is t = (
  λ e. let p = (or_is (not (eqb (length t) 3)) (doubled t)).0 e in
      record { three = eqb-true (length t) 3 (not-false (eqb (length t) 3) p.0); single = (doubled_is t).0 p.1 },
  λ d. rw (eq-eqb (length t) 3 d.three, (doubled_is t).1 d.single),
)

all_different : (ts : List (List ℕ)) → (not (any_of not_different ts) ≡ true) ↔ Each [] Different ts
all_different ts = (
  λ e. record {
    holds = λ k h. (different_is (get_or ts k [])).0 (((none_each not_different [] ts).0 (not-true (any_of not_different ts) e)).holds k h);
  },
  λ d. rw ((none_each not_different [] ts).1 (record { holds = λ k h. (different_is (get_or ts k [])).1 (d.holds k h) })),
)

module _ (n : ℕ) (ts : List (List ℕ)) where
  abbrev Own : Type 0
  Own = (i j : ℕ) → face_side n i j ≡ true → (runs i j ts ≡ 1) × (runs j i ts ≡ 0)

  abbrev Other : Type 0
  Other = (i j : ℕ) → face_side n i j ≡ false → face_side n j i ≡ false → 0 < occurs i j ts → (runs i j ts ≡ 1) × (runs j i ts ≡ 1)

  own_is : (every_side (own_way ts) (sides (places_below n)) ≡ true) ↔ Own
  unfolding own_way
  own_is =
      let every = every_is (own_way ts) (sides (places_below n)) in (
        λ e i j f. (two_are (runs i j ts) (runs j i ts) 1 0).0 (every.0 e i j (rw (count_face n i j, f) (omega arith))),
        λ h. every.1 (λ i j o.
            (two_are (runs i j ts) (runs j i ts) 1 0).1 (h i j (one_if_lem (face_side n i j) (rw count_face at o)))),
      )

  other_is : (every_side (each_way n ts) (all_sides ts) ≡ true) ↔ Other
  unfolding each_way runs
  other_is =
      let every = every_is (each_way n ts) (all_sides ts) in (
        λ e i j f g o. by_cases (dec_lt 0 (runs i j ts)) (λ h. once i j (every.0 e i j h) f g)
            (λ h. let p = once j i (every.0 e j i (omega arith)) g f in (p.1, p.0)),
        λ h. every.1 (λ i j o. (third_is (face_side n i j) (face_side n j i) (eqb (runs i j ts) 1 && eqb (runs j i ts) 1)).1 (λ f g.
            (two_are (runs i j ts) (runs j i ts) 1 1).1 (h i j f g (omega arith)))),
      )
    where
      once : (i j : ℕ) → each_way n ts i j ≡ true → face_side n i j ≡ false → face_side n j i ≡ false
          → (runs i j ts ≡ 1) × (runs j i ts ≡ 1)
      once i j e f g =
          (two_are (runs i j ts) (runs j i ts) 1 1).0
          ((third_is (face_side n i j) (face_side n j i) (eqb (runs i j ts) 1 && eqb (runs j i ts) 1)).0 e f g)

pub cut_test : CutTest
unfolding is_cut_of
cut_test n ts =
    let number = and_is (eqb (length ts + 2) n) (not (any_of not_different ts)) in
    let ways = and_is (every_side (own_way ts) (sides (places_below n))) (every_side (each_way n ts) (all_sides ts)) in
    let first = Iff.trans number (Iff.and (number_is (length ts + 2) n) (all_different ts)) in
    let second = Iff.trans ways (Iff.and (own_is n ts) (other_is n ts)) in
    let all = Iff.trans (and_is (eqb (length ts + 2) n && not (any_of not_different ts)) _) (Iff.and first second) in (
      λ e. let p = all.0 e in record { number = p.0.0; different = p.0.1; own = p.1.0; other = p.1.1 },
      λ c. all.1 ((c.number, c.different), (c.own, c.other)),
    )
