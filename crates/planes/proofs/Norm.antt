-- The norm hypot(hypot(x, y), z) of three f64 of at most 2 ^ 93 in magnitude is finite and no less than any of the three, since hypot is no
-- shorter than either operand and no longer than a value that the exact length does not pass. So it is 0 only where all three are.
use mathlib.Core.Path.{◌≡◌, refl, sym, ◌∙◌, subst}
use mathlib.Core.Bool.{Bool, true, false, ◌&&◌, ◌||◌, beq, true≢false}
use Prim.Native.Nat.{ℕ, ◌+◌, ◌*◌, ◌^◌, ◌≤◌, ◌<◌}
use native.Mathlib.Nat.{le_trans, le_of_eq, lt_of_not-le, le_of_mul-le-mul_right, mul-le-mul, mul-le-mul_right, zero-mul}
use native.Mathlib.Omega.{arith}
use lib.Dec.{T, eqb, lit≤, lit<}
use lib.Pow.{pow_pos}
use borrow.Author.Tests.{eqb-true}
use lib.Ieee.{Float, nan, inf, fin, Format, binary64, low, up, down, fits, eq, lt, le, of_bits}
use lib.Ieee.Bits.{is_true}
use lib.Ieee.Fits.{down_pos}
use lib.Ieee.Exact.{HasValue}
use lib.Ieee.Order.{le_of_values}
use lib.Ieee.Scale.{finite}
use Rattle.floats.specs.F64.{zero64}
use Rattle.floats.specs.Pick.{magnitude_of}
use Rattle.floats.proofs.Grid.{OnGrid, on_grid, one_value}
use Rattle.floats.proofs.Monotone.{unsigned}
use Rattle.floats.proofs.Order.{lt_not_le}
use Rattle.floats.proofs.AtMost.{AtMost, at_most_finite, at_most_to, at_most_below}
use Rattle.hypot.specs.Hypot.{hypot_of}
use Rattle.hypot.specs.Nearest.{IsUnits}
use Rattle.hypot.proofs.Nearest.{has_magnitude}
use Rattle.hypot.proofs.Bounds.{hypot_fits, no_shorter, no_longer}
use Rattle.flat.specs.Points.{Point, at}
use Rattle.planes.specs.Planes.{all_zero}
use Rattle.planes.specs.Finite.{too_short}

-- ---- what is a units is at most g units exactly where a is at most g
bound_of_units : (f : Format) (x : Float) (a g : ℕ) → IsUnits f x a → a ≤ g → AtMost g (2 ^ low f) x
unfolding magnitude_of
bound_of_units f nan a g v h = absurd v
bound_of_units f (inf s) a g v h = absurd v
bound_of_units f (fin s m e) a g v h = le_trans (le_of_eq v.1) (mul-le-mul_right (down e) h)

units_of_bound : (f : Format) (x : Float) (a g : ℕ) → IsUnits f x a → AtMost g (2 ^ low f) x → a ≤ g
unfolding magnitude_of
units_of_bound f nan a g v h = absurd v
units_of_bound f (inf s) a g v h = absurd v
units_of_bound f (fin s m e) a g v h = le_of_mul-le-mul_right (le_trans (le_of_eq (sym v.1)) h) (down_pos e)

-- ---- a value with the sign clear
own_magnitude : (x : Float) (a c : ℕ) → HasValue x false a c → HasValue (magnitude_of x) false a c
unfolding magnitude_of
own_magnitude nan a c v = absurd v
own_magnitude (inf s) a c v = absurd v
own_magnitude (fin s m e) a c v = (refl, v.1)

value_unsigned : (x : Float) (a c : ℕ) → HasValue x false a c → T (unsigned x)
value_unsigned nan a c v = absurd v
value_unsigned (inf s) a c v = absurd v
value_unsigned (fin true m e) a c v = absurd (true≢false v.0)
value_unsigned (fin false m e) a c v = tt

pub value_finite : (x : Float) (a c : ℕ) → HasValue x false a c → T (finite x)
value_finite nan a c v = absurd v
value_finite (inf s) a c v = absurd v
value_finite (fin s m e) a c v = tt

-- ---- a zero of either sign is 0 units
zero_of_bound : (x : Float) → AtMost 0 (2 ^ 1074) x → eq x zero64 ≡ true
unfolding eq of_bits
zero_of_bound nan h = absurd h
zero_of_bound (inf s) h = absurd h
zero_of_bound (fin s m e) h = go (m * up e) (0 * down e) s (none (m * up e) (2 ^ 1074) (down e) (pow_pos 1074) h) (zero-mul (down e))
  where
    none : (x u d : ℕ) → 0 < u → x * u ≤ 0 * d → x ≡ 0
    none x u d U g = let l : x ≤ 0 = le_of_mul-le-mul_right (le_trans g (le_of_eq (zero-mul d ∙ sym (zero-mul u)))) U in omega arith

    go : (x z : ℕ) (s : Bool) → x ≡ 0 → z ≡ 0 → eqb (x * 1) z && (beq s false || eqb (x * 1) 0) ≡ true
    go x z true p q = rw (p, q)
    go x z false p q = rw (p, q)

units_of_zero : (x : Float) → eq x zero64 ≡ true → IsUnits binary64 x 0
unfolding eq magnitude_of of_bits
units_of_zero nan h = absurd (true≢false (sym h))
units_of_zero (inf s) h = absurd (true≢false (sym h))
units_of_zero (fin s m e) h = (refl, go (m * up e) (down e) _ _ (eqb-true (m * up e * 1) (0 * 1 * down e)) h)
  where
    go : (x d : ℕ) (same other : Bool) → (same ≡ true → x * 1 ≡ 0 * 1 * d) → same && other ≡ true → x * 2 ^ 1074 ≡ 0 * d
    go x d true other f h = let z : x ≡ 0 = omega (arith, f refl) in rw z (zero-mul (2 ^ 1074) ∙ sym (zero-mul d))
    go x d false other f h = absurd (true≢false (sym h))

-- ---- n units against 2 ^ -1024, which is 2 ^ 50 units
too_short_value : HasValue too_short false (2 ^ 50) (2 ^ 1074)
unfolding of_bits
too_short_value = (refl, refl)

module _ (x : Float) (n : ℕ) (v : HasValue x false n (2 ^ 1074)) where
  pub above_too_short : lt too_short x ≡ true → 2 ^ 50 < n
  above_too_short h = lt_of_not-le (λ g. absurd (true≢false (sym (is_true _ (back g)) ∙ lt_not_le too_short x h)))
    where
      back : n ≤ 2 ^ 50 → T (le x too_short)
      back g =
          le_of_values x too_short n (2 ^ 1074) (2 ^ 50) (2 ^ 1074) (pow_pos 1074) (pow_pos 1074) v too_short_value
          (mul-le-mul_right (2 ^ 1074) g)

  pub not_above_too_short : le x too_short ≡ true → n ≤ 2 ^ 50
  not_above_too_short h =
      units_of_bound binary64 x n (2 ^ 50) (own_magnitude x n (2 ^ 1074) v)
      (at_most_below x too_short (2 ^ 50) (2 ^ 1074) (value_unsigned x n (2 ^ 1074) v) too_short_value (subst T (sym h) tt))

-- ---- the norm
abbrev norm : Float → Float → Float → Float
norm x y z = hypot_of binary64 (hypot_of binary64 x y) z

-- it is n units, at most 2 ^ 95, and none of the three is more
pub record Normed (x y z : Float) : Type 0 where
  pub n : ℕ
  pub value : HasValue (norm x y z) false n (2 ^ 1074)
  pub grid : OnGrid binary64 n
  pub bound : n ≤ 2 ^ 1169
  pub x_bound : AtMost n (2 ^ 1074) x
  pub y_bound : AtMost n (2 ^ 1074) y
  pub z_bound : AtMost n (2 ^ 1074) z

-- two that are at most u have a length of at most 2 * u
twice : (a b u : ℕ) → a ≤ u → b ≤ u → a * a + b * b ≤ 2 * u * (2 * u)
twice a b u h k =
    let p : a * a ≤ u * u = mul-le-mul h h in
    let q : b * b ≤ u * u = mul-le-mul k k in
    omega arith

module _ (x y z : Float) (X : T (fits binary64 x)) (Y : T (fits binary64 y)) (Z : T (fits binary64 z)) where
  pub normed : AtMost (2 ^ 93) 1 x → AtMost (2 ^ 93) 1 y → AtMost (2 ^ 93) 1 z → Normed x y z
  normed p q r =
      let a = has_magnitude binary64 x X (at_most_finite x (2 ^ 93) 1 p) in
      let b = has_magnitude binary64 y Y (at_most_finite y (2 ^ 93) 1 q) in
      let c = has_magnitude binary64 z Z (at_most_finite z (2 ^ 93) 1 r) in
      let flat = hypot_of binary64 x y in
      let F = hypot_fits binary64 x y in
      let l =
      no_longer binary64 x y a.0 b.0 (2 ^ 1168) X Y a.1 b.1 (1, 1168, lit< tt, refl) (lit< tt)
      (twice a.0 b.0 (2 ^ 1167) (few x a.0 a.1 p) (few y b.0 b.1 q)) in
      let flat-units = own_magnitude flat l.0 (2 ^ 1074) l.1 in
      let n =
      no_longer binary64 flat z l.0 c.0 (2 ^ 1169) F Z flat-units c.1 (1, 1169, lit< tt, refl) (lit< tt)
      (twice l.0 c.0 (2 ^ 1168) l.2 (le_trans (few z c.0 c.1 r) (lit≤ tt))) in
      let sides = no_shorter binary64 x y a.0 b.0 l.0 X Y a.1 b.1 l.1 in
      let all = no_shorter binary64 flat z l.0 c.0 n.0 F Z flat-units c.1 n.1 in
      record {
        n = n.0;
        value = n.1;
        grid = on_grid binary64 (norm x y z) n.0 (hypot_fits binary64 flat z) n.1;
        bound = n.2;
        x_bound = bound_of_units binary64 x a.0 n.0 a.1 (le_trans sides.0 all.0);
        y_bound = bound_of_units binary64 y b.0 n.0 b.1 (le_trans sides.1 all.0);
        z_bound = bound_of_units binary64 z c.0 n.0 c.1 all.1;
      }
    where
      few : (x : Float) (a : ℕ) → IsUnits binary64 x a → AtMost (2 ^ 93) 1 x → a ≤ 2 ^ 1167
      few x a v h = units_of_bound binary64 x a (2 ^ 1167) v (at_most_to x (2 ^ 93) 1 (2 ^ 1167) (2 ^ 1074) (lit< tt) (lit≤ tt) h)

  -- where all three are 0, so is the norm
  pub norm_of_zeros : eq x zero64 ≡ true → eq y zero64 ≡ true → eq z zero64 ≡ true → eq (norm x y z) zero64 ≡ true
  norm_of_zeros p q r =
      let flat = of_zeros x y X Y (units_of_zero x p) (units_of_zero y q) in
      let whole = of_zeros (hypot_of binary64 x y) z (hypot_fits binary64 x y) Z flat (units_of_zero z r) in
      zero_of_bound (norm x y z) (bound_of_units binary64 (norm x y z) 0 0 whole (lit≤ tt))
    where
      at_zero : (r : ℕ) → r ≤ 0 → r ≡ 0
      at_zero r h = omega arith

      of_zeros : (x y : Float) → T (fits binary64 x) → T (fits binary64 y) → IsUnits binary64 x 0 → IsUnits binary64 y 0
          → IsUnits binary64 (hypot_of binary64 x y) 0
      of_zeros x y X Y v w =
          let r = no_longer binary64 x y 0 0 0 X Y v w (0, 0, lit< tt, refl) (lit< tt) (lit≤ tt) in
          own_magnitude (hypot_of binary64 x y) 0 (2 ^ 1074)
          (subst (λ (k : ℕ). HasValue (hypot_of binary64 x y) false k (2 ^ 1074)) (at_zero r.0 r.2) r.1)

-- where the norm is 0, so are all three
pub zeros_of_norm : (x y z : Float) → Normed x y z → eq (norm x y z) zero64 ≡ true
    → (eq x zero64 ≡ true) × (eq y zero64 ≡ true) × (eq z zero64 ≡ true)
zeros_of_norm x y z d h = (zero x d.x_bound, zero y d.y_bound, zero z d.z_bound)
  where
    none : d.n ≡ 0
    none =
        one_value (magnitude_of (norm x y z)) false d.n 0 (2 ^ 1074) (own_magnitude (norm x y z) d.n (2 ^ 1074) d.value)
        (units_of_zero (norm x y z) h)

    zero : (x : Float) → AtMost d.n (2 ^ 1074) x → eq x zero64 ≡ true
    zero x b = zero_of_bound x (subst (λ (k : ℕ). AtMost k (2 ^ 1074) x) none b)

-- ---- three sums that are all 0, one by one
pub zeros_together : (n : Point) → (eq (at n 0) zero64 ≡ true) × (eq (at n 1) zero64 ≡ true) × (eq (at n 2) zero64 ≡ true)
    → all_zero n ≡ true
unfolding all_zero
zeros_together n z = rw (z.0, z.1, z.2)

pub zeros_apart : (n : Point) → all_zero n ≡ true
    → (eq (at n 0) zero64 ≡ true) × (eq (at n 1) zero64 ≡ true) × (eq (at n 2) zero64 ≡ true)
unfolding all_zero
zeros_apart n h = go (eq (at n 0) zero64) (eq (at n 1) zero64) (eq (at n 2) zero64) h
  where
    go : (a b c : Bool) → a && (b && c) ≡ true → (a ≡ true) × (b ≡ true) × (c ≡ true)
    go true true c h = (refl, refl, h)
    go true false c h = absurd (true≢false (sym h))
    go false b c h = absurd (true≢false (sym h))
