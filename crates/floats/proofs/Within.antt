-- Sums, differences and products of finite numbers with bounded magnitudes are finite and bounded, so none of them is a NaN.
-- The bounds are powers of two, which are values of the format, so that rounding keeps them (AtMost.antt).
use mathlib.Core.Path.{◌≡◌, refl, sym, subst}
use mathlib.Core.Bool.{Bool, true, false, not, ◌||◌, true≢false}
use Prim.Native.Nat.{ℕ, zero, suc, ◌+◌, ◌*◌, ◌^◌, ◌≤◌}
use native.Mathlib.Nat.{le_refl, le_trans, le_of_eq, mul-one, mul-le-mul_right}
use native.Mathlib.Omega.{arith}
use lib.Dec.{T, lit<}
use borrow.Author.Tests.{lt-ltb, le-ltb, ne_eqb}
use lib.Pow.{pow-add, pow_mono}
use lib.Ieee.{Float, nan, inf, fin, Format, emax, up, down, neg, add, sub, mul, below, level, lt, le, is_nan, of_bits}
use lib.Ieee.Exact.{HasValue}
use lib.Ieee.Scale.{finite}
use Rattle.floats.specs.F64.{zero64, one64}
use Rattle.floats.proofs.AtMost.{AtMost, IsValue, power_value, at_most_between, at_most_add, at_most_mul}

-- x is finite, and its magnitude is at most 2 ^ a
abbrev pub Within : ℕ → Float → Type 0
Within a nan = ⊥
Within a (inf s) = ⊥
Within a (fin s m e) = m * up e ≤ 2 ^ a * down e

pub within_to : (x : Float) (a b : ℕ) → a ≤ b → Within a x → Within b x
within_to nan a b l h = absurd h
within_to (inf s) a b l h = absurd h
within_to (fin s m e) a b l h = le_trans h (mul-le-mul_right (down e) (pow_mono l))

-- that is a bound of 2 ^ a / 1
pub within_at_most : (x : Float) (a : ℕ) → Within a x → AtMost (2 ^ a) 1 x
within_at_most nan a h = absurd h
within_at_most (inf s) a h = absurd h
within_at_most (fin s m e) a h = rw (mul-one (m * up e)) h

at_most_within : (x : Float) (a : ℕ) → AtMost (2 ^ a) 1 x → Within a x
at_most_within nan a h = absurd h
at_most_within (inf s) a h = absurd h
at_most_within (fin s m e) a h = rw (mul-one (m * up e)) at h

-- with either sign, from −2 ^ a to 2 ^ a
pub within_between : (x top : Float) (a : ℕ) → HasValue top false (2 ^ a) 1 → le (neg top) x ≡ true → le x top ≡ true → Within a x
within_between x top a v l h = at_most_within x a (at_most_between x top (2 ^ a) 1 v l h)

-- ---- the operations
pub within_neg : (x : Float) (a : ℕ) → Within a x → Within a (neg x)
unfolding neg
within_neg nan a h = absurd h
within_neg (inf s) a h = absurd h
within_neg (fin s m e) a h = h

module _ (f : Format) where
  pub within_add : (x y : Float) (a : ℕ) → a + 1 ≤ emax f → Within a x → Within a y → Within (a + 1) (add f x y)
  within_add x y a h v w =
      at_most_within (add f x y) (a + 1)
      (subst (λ (z : ℕ). AtMost z 1 (add f x y)) twice
      (at_most_add f x y (2 ^ a) (2 ^ a) 1 (lit< tt) (subst (λ (z : ℕ). IsValue f z 1) (sym twice) (power_value f (a + 1) h))
      (within_at_most x a v) (within_at_most y a w)))
    where
      twice : 2 ^ a + 2 ^ a ≡ 2 ^ (a + 1)
      twice = let e = pow-add 2 a 1 in omega arith

  pub within_sub : (x y : Float) (a : ℕ) → a + 1 ≤ emax f → Within a x → Within a y → Within (a + 1) (sub f x y)
  unfolding sub
  within_sub x y a h v w = within_add x (neg y) a h v (within_neg y a w)

  pub within_mul : (x y : Float) (a b : ℕ) → a + b ≤ emax f → Within a x → Within b y → Within (a + b) (mul f x y)
  within_mul x y a b h v w =
      at_most_within (mul f x y) (a + b)
      (at_most_mul f x y (2 ^ a) 1 (2 ^ b) 1 (2 ^ (a + b)) 1 (lit< tt) (lit< tt) (lit< tt) (power_value f (a + b) h)
      (mul-le-mul_right 1 (le_of_eq (sym (pow-add 2 a b)))) (within_at_most x a v) (within_at_most y b w))

pub within_one : Within 0 one64
unfolding of_bits
within_one = le_refl 1

-- ---- what is finite is no NaN, and what is no NaN is at least 0 exactly where it is not below 0
pub within_number : (x : Float) (a : ℕ) → Within a x → is_nan x ≡ false
unfolding is_nan
within_number nan a h = absurd h
within_number (inf s) a h = absurd h
within_number (fin s m e) a h = refl

pub within_finite : (x : Float) (a : ℕ) → Within a x → T (finite x)
within_finite nan a h = absurd h
within_finite (inf s) a h = absurd h
within_finite (fin s m e) a h = tt

against_zero : (s : Bool) (z b : ℕ) → z ≡ 0 → (below false z s b || level false z s b) ≡ not (below s b false z)
against_zero false z zero e = rw e
against_zero false z (suc b) e = rw (e, lt-ltb 0 (suc b) (omega arith), le-ltb (suc b) 0 (omega arith))
against_zero true z zero e = rw e
against_zero true z (suc b) e = rw (e, ne_eqb 0 (suc b) (λ g. omega arith), lt-ltb 0 (suc b + 0) (omega arith))

pub at_least_zero : (x : Float) → is_nan x ≡ false → le zero64 x ≡ not (lt x zero64)
unfolding is_nan le lt of_bits
at_least_zero nan h = absurd (true≢false h)
at_least_zero (inf true) h = refl
at_least_zero (inf false) h = refl
at_least_zero (fin s m e) h = against_zero s (0 * down e) (m * up e * 1) (omega arith)
