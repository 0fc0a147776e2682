-- A coordinate of at most 2 ^ 40 moved by a whole number of at most 2 ^ 40: whether the difference is an f64 is seen by adding the whole
-- number back, since that sum is exact (proofs/AddedBack.antt). The whole number itself is a coordinate's whole part
-- (proofs/WholePart.antt).
use Rattle.std.proofs.Common.{◌≡◌, ℕ, ◌*◌, ◌^◌, ◌<◌, ◌≤◌, Bool, true, false, not, ◌&&◌, T, eqb, ℤ, pos, ◌-ℤ◌, nat_abs, sym, refl, ap, ◌∙◌}
use Rattle.std.proofs.Common.{subst, le_trans, lt_of_le_of_lt, lit<, lit≤, pow_mono, eq-eqb, eqb-true}
use borrow.Author.Tests.{not-false}
use lib.IntN.{+ℤ_invr}
use lib.Ieee.{Float, nan, inf, fin, binary64, neg, le, lt, ne, of_bits, of_int, fits}
use lib.Ieee.Scale.{finite}
use Rattle.floats.specs.F64.{◌+f◌, ◌-f◌, zero64}
use Rattle.floats.proofs.Nans.{holds}
use Rattle.floats.proofs.Grid.{OnGrid}
use Rattle.floats.proofs.Within.{Within, within_to}
use Rattle.exact.specs.Scaled.{signed, exact_in, exact_of}
use Rattle.exact.proofs.Scaled.{size_of}
use Rattle.exact.proofs.Ring.{no_difference}
use Rattle.cell.specs.Refusals.{limit, out_of_range}
use Rattle.cell.proofs.Refusals.{limit_value, tame_within}
use Rattle.local.specs.Local.{whole_of, lost_of, inexact}
use Rattle.local.specs.Steps.{Whole}
use Rattle.local.proofs.Integers.{size_zero}
use Rattle.local.proofs.InUnits.{size_on_grid}
use Rattle.local.proofs.AddedBack.{difference_exact, back_tells}
use Rattle.local.proofs.Itself.{less_zero_is}
use Rattle.local.proofs.WholePart.{whole_part, part_within, part_is, part_near, part_small, whole_exact, whole_within, within_top}
use Rattle.local.proofs.WholePart.{within_bottom, within_under}

-- ---- a number of at most 2 ^ 40 is in range
range_in : (x : Float) → Within 40 x → out_of_range x ≡ false
unfolding out_of_range
range_in x h = λ i. not (within_bottom x limit 40 limit_value h i && within_top x limit 40 limit_value h i)

-- a number that is in range is an i64 when its fraction is dropped
pub in_i64 : (x : Float) → out_of_range x ≡ false → T (le (fin true 1 (pos 63)) x) × T (lt x (fin false 1 (pos 63)))
unfolding neg
in_i64 x h =
    let top = fin false 1 (pos 63) in
    let w = tame_within x h in (
      holds (within_bottom x top 63 (refl, refl) (within_to x 40 63 (lit≤ tt) w)),
      holds (within_under x top 40 63 (lit< tt) (refl, refl) w),
    )

-- ---- the whole part
few : 40 ≤ 53
few = lit≤ tt

whole_of_lem : (s : Bool) (m : ℕ) (e : ℤ) → Within 40 (fin s m e) → whole_of (fin s m e) ≡ of_int binary64 (signed s (whole_part m e))
unfolding whole_of
whole_of_lem s m e h = ap (of_int binary64) (part_is 63 s m e (lt_of_le_of_lt (part_within s m e 40 h) (lit< tt)))

whole_part_lem : (x : Float) → Within 40 x → Whole (whole_of x)
unfolding exact_of
whole_part_lem nan h = absurd h
whole_part_lem (inf s) h = absurd h
whole_part_lem (fin s m e) h =
    let small = part_within s m e 40 h in
    let digits = le_trans small (pow_mono few) in
    subst Whole (sym (whole_of_lem s m e h))
    (record {
      sign = s;
      size = whole_part m e;
      value = whole_exact binary64 s (whole_part m e) digits;
      within = range_in (of_int binary64 (signed s (whole_part m e))) (whole_within binary64 s (whole_part m e) 40 digits small);
    })

pub whole_is : (x : Float) → out_of_range x ≡ false → Whole (whole_of x)
whole_is x h = whole_part_lem x (tame_within x h)

-- the fraction is less than 1
near_part : (x : Float) → T (fits binary64 x) → Within 40 x → nat_abs (exact_of x -ℤ exact_of (whole_of x)) < 2 ^ 1074
unfolding exact_of
near_part nan t h = absurd h
near_part (inf s) t h = absurd h
near_part (fin s m e) t h =
    let digits = le_trans (part_within s m e 40 h) (pow_mono few) in
    let is = ap (exact_in binary64) (whole_of_lem s m e h) ∙ whole_exact binary64 s (whole_part m e) digits in
    subst (λ (v : ℤ). nat_abs (exact_in binary64 (fin s m e) -ℤ v) < 2 ^ 1074) (sym is) (part_near binary64 s m e t)

pub whole_near : (x : Float) → T (fits binary64 x) → out_of_range x ≡ false → nat_abs (exact_of x -ℤ exact_of (whole_of x)) < 2 ^ 1074
whole_near x t h = near_part x t (tame_within x h)

-- the whole part of a number that is less than 1 is +0
pub whole_small : (x : Float) → T (fits binary64 x) → T (finite x) → nat_abs (exact_of x) < 2 ^ 1074 → whole_of x ≡ zero64
unfolding exact_of whole_of of_int of_bits
whole_small nan t g h = absurd g
whole_small (inf s) t g h = absurd g
whole_small (fin s m e) t g h =
    let none : whole_part m e ≡ 0 = part_small binary64 s m e t h in
    ap (of_int binary64) (part_is 63 s m e (subst (λ (c : ℕ). c < 2 ^ 63) (sym none) (lit< tt)) ∙ ap (signed s) none ∙ one_zero s)
  where
    one_zero : (s : Bool) → signed s 0 ≡ pos 0
    one_zero true = refl
    one_zero false = refl

-- ---- the difference
module _ (x o : Float) (hx : T (fits binary64 x)) (ho : T (fits binary64 o)) (rx : out_of_range x ≡ false) (w : Whole o) where
  units_of_whole : nat_abs (exact_of o) ≡ w.size * 2 ^ 1074
  units_of_whole = ap nat_abs w.value ∙ size_of w.sign (w.size * 2 ^ 1074)

  -- adding the whole number back tells whether it was rounded
  pub inexact_test : ne (x -f o +f o) x ≡ inexact x o
  unfolding ne inexact lost_of exact_of
  inexact_test =
      ap not (back_tells binary64 x o 40 (lit≤ tt) (lit≤ tt) hx ho (tame_within x rx) (tame_within o w.within) w.size units_of_whole)

  -- a difference that is an f64 is not rounded
  pub moved_exactly : (d : Float) → T (fits binary64 d) → exact_of d ≡ exact_of x -ℤ exact_of o → inexact x o ≡ false
  unfolding inexact lost_of exact_of
  moved_exactly d hd e =
      let exactly = exact_in binary64 x -ℤ exact_in binary64 o in
      let is = difference_exact binary64 x o 40 (lit≤ tt) (lit≤ tt) hx ho (tame_within x rx) (tame_within o w.within)
      (subst (λ (v : ℤ). OnGrid binary64 (nat_abs v)) e (size_on_grid binary64 d hd)) in
      ap not (eq-eqb _ 0 (ap (λ (v : ℤ). nat_abs (exactly -ℤ v)) is ∙ ap nat_abs (+ℤ_invr exactly)))

-- where nothing is lost, the difference is exact
pub not_lost : (x o : Float) → inexact x o ≡ false → exact_of (x -f o) ≡ exact_of x -ℤ exact_of o
unfolding inexact lost_of
not_lost x o h =
    let nothing = eqb-true (lost_of x o) 0 (not-false (eqb (lost_of x o) 0) h) in
    sym (no_difference (exact_of x -ℤ exact_of o) (exact_of (x -f o)) (size_zero _ nothing))

-- taking +0 off moves nothing, bit for bit
pub less_zero_moves_nothing : (x : Float) → T (fits binary64 x) → T (finite x) → x -f zero64 ≡ x
unfolding of_bits
less_zero_moves_nothing x h g = less_zero_is binary64 x h g
