-- 1 / x of an f64 x with the sign clear. Above 2 ^ -1024 it is rounded to at most the next power of two, so a number of at most k times x,
-- times 1 / x, is at most 2 k. Up to 2 ^ -1024 it is an infinity, and no product with an infinity is finite.
use mathlib.Core.Path.{◌≡◌, refl, sym, ap, ◌∙◌, subst}
use mathlib.Core.Logic.{inl, inr}
use mathlib.Core.Bool.{Bool, true, false, not, cond, true≢false}
use Prim.Native.Nat.{ℕ, zero, suc, ◌-◌, ◌*◌, ◌^◌, ◌≤◌, ◌<◌}
use native.Mathlib.Nat.{le_trans, le_of_eq, le_of_lt, lt_of_not-le, lt_irrefl, zero-lt-suc, eq-zero-or-pos, zero-mul, mul-pos}
use native.Mathlib.Nat.{mul-le-mul_left, mul-le-mul_right, pow-succ'}
use native.Mathlib.Decide.{dec_le}
use native.Mathlib.Omega.{arith}
use lib.Dec.{T, eqb, lit≤, lit<}
use lib.Pow.{pow-add, pow_pos, pow_mono, pow-lt}
use lib.Ieee.{Float, nan, inf, fin, Format, binary64, up, down, unlike, size, round, mul, div, le, of_bits}
use lib.Ieee.Digits.{size-lt, size_reaches, back}
use lib.Ieee.Fits.{up_pos, down_pos}
use lib.Ieee.Exact.{HasValue}
use lib.Ieee.Order.{round_mono}
use lib.Ieee.Positive.{first_pos}
use lib.Ieee.Scale.{finite, round_same}
use borrow.Author.Tests.{ne_eqb}
use Rattle.floats.specs.F64.{◌*f◌, ◌/f◌, one64}
use Rattle.floats.proofs.Grid.{pow_le_back}
use Rattle.floats.proofs.Rounded.{size_gt}
use Rattle.floats.proofs.AtMost.{AtMost, IsValue, whole_value, at_most_to, round_at_most, at_most_mul}

-- ---- 1 over n units, of 2 ^ -1074 each, is 2 ^ 1074 / n
inverse_is : (x : Float) (n : ℕ) → 0 < n → HasValue x false n (2 ^ 1074) → one64 /f x ≡ round binary64 false (2 ^ 1074) n
unfolding div of_bits
inverse_is nan n N v = absurd v
inverse_is (inf s) n N v = absurd v
inverse_is (fin true m e) n N v = absurd (true≢false v.0)
inverse_is (fin false m e) n N v =
    rw (ne_eqb m 0 (λ z. omega (arith, M)))
    (round_same binary64 false (1 * 1 * down e) (m * up e * 1) (2 ^ 1074) n (mul-pos some (omega arith)) N
    (cross (2 ^ 1074) (m * up e) (down e) v.1))
  where
    some : 0 < m * up e
    some = first_pos (m * up e) (2 ^ 1074) (subst (λ (z : ℕ). 0 < z) (sym v.1) (mul-pos N (down_pos e)))

    M : 0 < m
    M = first_pos m (up e) some

    cross : (u x d : ℕ) → x * u ≡ n * d → 1 * 1 * d * n ≡ u * (x * 1)
    cross u x d h = omega arith

-- ---- above 2 ^ -1024
-- the largest power of two that n reaches
leading_power : (n : ℕ) → 0 < n → (j : ℕ) × (2 ^ j ≤ n) × (n ≤ 2 * 2 ^ j)
leading_power n N = go (size n) (size_gt n 0 N) (size-lt n) (size_reaches n)
  where
    go : (z : ℕ) → 0 < z → n < 2 ^ z → ((j : ℕ) → j < z → 2 ^ j ≤ n) → (j : ℕ) × (2 ^ j ≤ n) × (n ≤ 2 * 2 ^ j)
    go zero Z l r = absurd (omega arith)
    go (suc z) Z l r = (z, r z (omega arith), le_trans (le_of_lt l) (le_of_eq (pow-succ' 2 z)))

-- 2 ^ 1074 / 2 ^ j is 2 ^ (2148 − j) units
power_quotient : (j : ℕ) → 50 < j → j ≤ 2148 → IsValue binary64 (2 ^ 1074) (2 ^ j)
power_quotient j l h = record {
  count = 2 ^ (2148 - j);
  on_grid = (1, 2148 - j, lit< tt, omega arith);
  not_beyond = let l : 2148 - j < 2098 = omega arith in pow-lt l;
  same = sym (ap (λ (z : ℕ). 2 ^ z) (back 2148 j h)) ∙ pow-add 2 (2148 - j) j;
}

-- the largest f64
abbrev largest : ℕ
largest = (2 ^ 53 - 1) * 2 ^ 971

-- from 2 ^ 50 + 1 units on the quotient is at most that
under_largest : (n : ℕ) → 2 ^ 50 < n → AtMost largest 1 (round binary64 false (2 ^ 1074) n)
under_largest n h =
    round_at_most binary64 false (2 ^ 1074) n largest 1 (le_trans (lit≤ tt) h) (lit< tt)
    (whole_value binary64 (2 ^ 53 - 1) 971 (lit< tt) (lit< tt)) (le_trans (lit≤ tt) (mul-le-mul_left largest h))

-- x is n units
module _ (x : Float) (n : ℕ) (v : HasValue x false n (2 ^ 1074)) where
  inverse_at_most : (j : ℕ) → 2 ^ 50 < n → 2 ^ j ≤ n → j ≤ 2148 → AtMost (2 ^ 1074) (2 ^ j) (one64 /f x)
  inverse_at_most j h J l = rw (inverse_is x n (le_trans (lit≤ tt) h) v) (go (dec_le j 50))
    where
      go : Dec (j ≤ 50) → AtMost (2 ^ 1074) (2 ^ j) (round binary64 false (2 ^ 1074) n)
      go (yes g) =
          at_most_to (round binary64 false (2 ^ 1074) n) largest 1 (2 ^ 1074) (2 ^ j) (lit< tt)
          (le_trans (mul-le-mul_left largest (pow_mono g)) (lit≤ tt)) (under_largest n h)
      go (no g) =
          round_at_most binary64 false (2 ^ 1074) n (2 ^ 1074) (2 ^ j) (le_trans (lit≤ tt) h) (pow_pos j)
          (power_quotient j (lt_of_not-le g) l) (mul-le-mul_left (2 ^ 1074) J)

  -- where z is at most k times x, z * (1 / x) is at most 2 k
  pub times_inverse : (z : Float) (k : ℕ) → 2 ^ 50 < n → n ≤ 2 ^ 2148 → IsValue binary64 (2 * k) 1 → AtMost (n * k) (2 ^ 1074) z
      → AtMost (2 * k) 1 (z *f (one64 /f x))
  times_inverse z k h l w b =
      let power = leading_power n (le_trans (lit≤ tt) h) in
      let j = power.0 in
      at_most_mul binary64 z (one64 /f x) (n * k) (2 ^ 1074) (2 ^ 1074) (2 ^ j) (2 * k) 1 (pow_pos 1074) (pow_pos j) (lit< tt) w
      (cross (2 ^ 1074) (2 ^ j) power.2) b (inverse_at_most j h power.1 (pow_le_back j 2148 (le_trans power.1 l)))
    where
      cross : (u w : ℕ) → n ≤ 2 * w → n * k * u * 1 ≤ 2 * k * (u * w)
      cross u w g = let a : n * (k * u) ≤ 2 * w * (k * u) = mul-le-mul_right (k * u) g in omega arith

-- ---- up to 2 ^ -1024
-- what is at least an infinity is one
at_least_infinity : (x : Float) → T (le (inf false) x) → x ≡ inf false
unfolding le
at_least_infinity nan h = absurd h
at_least_infinity (inf true) h = absurd h
at_least_infinity (inf false) h = refl
at_least_infinity (fin s m e) h = absurd h

two_to_1024 : round binary64 false (2 ^ 1024) 1 ≡ inf false
unfolding round
two_to_1024 = refl

inverse_of_zero : (x : Float) → HasValue x false 0 (2 ^ 1074) → one64 /f x ≡ inf false
unfolding div of_bits
inverse_of_zero nan v = absurd v
inverse_of_zero (inf s) v = absurd v
inverse_of_zero (fin true m e) v = absurd (true≢false v.0)
inverse_of_zero (fin false zero e) v = refl
inverse_of_zero (fin false (suc m) e) v =
    absurd (lt_irrefl 0 (subst (λ (z : ℕ). 0 < z) (v.1 ∙ zero-mul (down e)) (mul-pos (mul-pos (zero-lt-suc m) (up_pos e)) (pow_pos 1074))))

pub inverse_overflows : (x : Float) (n : ℕ) → HasValue x false n (2 ^ 1074) → n ≤ 2 ^ 50 → one64 /f x ≡ inf false
inverse_overflows x n v h =
    elim (eq-zero-or-pos n) [
      | inl z ↦ inverse_of_zero x (subst (λ (k : ℕ). HasValue x false k (2 ^ 1074)) z v)
      | inr N ↦
          inverse_is x n N v
          ∙ at_least_infinity (round binary64 false (2 ^ 1074) n)
          (subst (λ (y : Float). T (le y (round binary64 false (2 ^ 1074) n))) two_to_1024
          (round_mono binary64 (2 ^ 1024) 1 (2 ^ 1074) n (lit< tt) N (le_trans (mul-le-mul_left (2 ^ 1024) h) (lit≤ tt))))
    ]

-- no product with an infinity is finite
pub times_infinity : (f : Format) (x : Float) (t : Bool) → T (not (finite (mul f x (inf t))))
unfolding mul
times_infinity f nan t = tt
times_infinity f (inf s) t = tt
times_infinity f (fin s m e) t = go (eqb m 0) (unlike s t)
  where
    go : (b u : Bool) → T (not (finite (cond b nan (inf u))))
    go true u = tt
    go false u = tt
