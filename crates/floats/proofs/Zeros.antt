-- What comes of zeros. A zero times any number is a zero or a NaN, and so is a sum of such; 1 over a zero is an infinity; and a zero or a
-- NaN times an infinity is a NaN.
use mathlib.Core.Path.{◌≡◌, refl, sym, ◌∙◌, subst}
use mathlib.Core.Bool.{Bool, true, false, ◌&&◌, cond, beq, true≢false}
use Prim.Native.Nat.{ℕ, zero, suc, ◌+◌, ◌-◌, ◌*◌, ◌<◌}
use native.Mathlib.Nat.{zero-lt-suc, mul-pos}
use native.Mathlib.Omega.{arith}
use lib.Dec.{ltb, lit<}
use lib.IntN.{ℤ, pos}
use borrow.Author.Tests.{eqb-true}
use lib.Ieee.{Float, nan, inf, fin, Format, binary32, binary64, up, down, unlike, round, neg, sum, add, mul, div, eq, of_bits}
use lib.Ieee.Fits.{up_pos, down_pos}
use lib.Ieee.Scale.{round_same}
use Rattle.floats.specs.F64.{◌/f◌, zero64, one64}

-- a zero of either sign, or a NaN
pub data ZeroOrNan : Float → Type 0 where
  a_zero : (s : Bool) (e : ℤ) → ZeroOrNan (fin s zero e)
  a_nan : ZeroOrNan nan

-- ---- what equals 0 is a zero
not_equal : (s : Bool) (m : ℕ) (e : ℤ) → eq (fin s (suc m) e) zero64 ≡ true → ⊥
unfolding eq of_bits
not_equal s m e = go _ _ (eqb-true (suc m * up e * 1) (0 * 1 * down e))
  where
    go : (same other : Bool) → (same ≡ true → suc m * up e * 1 ≡ 0 * 1 * down e) → same && other ≡ true → ⊥
    go true other f h = omega (arith, f refl, mul-pos (zero-lt-suc m) (up_pos e))
    go false other f h = true≢false (sym h)

pub equals_zero : (x : Float) → eq x zero64 ≡ true → ZeroOrNan x
unfolding eq of_bits
equals_zero nan h = absurd (true≢false (sym h))
equals_zero (inf s) h = absurd (true≢false (sym h))
equals_zero (fin s zero e) h = a_zero s e
equals_zero (fin s (suc m) e) h = absurd (not_equal s m e h)

pub over_zero : (x : Float) → eq x zero64 ≡ true → (s : Bool) × (one64 /f x ≡ inf s)
unfolding eq div of_bits
over_zero nan h = absurd (true≢false (sym h))
over_zero (inf s) h = absurd (true≢false (sym h))
over_zero (fin s zero e) h = (unlike false s, refl)
over_zero (fin s (suc m) e) h = absurd (not_equal s m e h)

-- ---- the operations
nothing_rounded : (f : Format) (s : Bool) → round f s 0 1 ≡ fin s zero (pos zero)
unfolding round
nothing_rounded binary32 s = refl
nothing_rounded binary64 s = refl

round_of_zero : (f : Format) (s : Bool) (num den : ℕ) → num ≡ 0 → 0 < den → round f s num den ≡ fin s zero (pos zero)
round_of_zero f s num den e h = round_same f s num den 0 1 h (lit< tt) (omega (arith, e)) ∙ nothing_rounded f s

module _ (f : Format) where
  rounded_zero : (s : Bool) (num den : ℕ) → num ≡ 0 → 0 < den → ZeroOrNan (round f s num den)
  rounded_zero s num den e h = subst ZeroOrNan (sym (round_of_zero f s num den e h)) (a_zero s (pos zero))

  pub zero_times : {x : Float} (y : Float) → ZeroOrNan x → ZeroOrNan (mul f x y)
  unfolding mul
  zero_times y a_nan = a_nan
  zero_times nan (a_zero s e) = a_nan
  zero_times (inf t) (a_zero s e) = a_nan
  zero_times (fin t n d) (a_zero s e) =
      rounded_zero (unlike s t) (0 * up e * (n * up d)) (down e * down d) (omega arith) (mul-pos (down_pos e) (down_pos d))

  pub zero_plus : {x y : Float} → ZeroOrNan x → ZeroOrNan y → ZeroOrNan (add f x y)
  unfolding add sum
  zero_plus a_nan h = a_nan
  zero_plus (a_zero s e) a_nan = a_nan
  zero_plus (a_zero s e) (a_zero t d) = go (beq s t) (ltb a b)
    where
      a : ℕ
      a = 0 * up e * down d

      b : ℕ
      b = 0 * up d * down e

      rounded : (s : Bool) (num : ℕ) → num ≡ 0 → ZeroOrNan (round f s num (down e * down d))
      rounded s num h = rounded_zero s num (down e * down d) h (mul-pos (down_pos e) (down_pos d))

      go : (same less : Bool)
          → ZeroOrNan (cond same (round f s (a + b) (down e * down d))
          (cond less (round f t (b - a) (down e * down d)) (round f (s && ltb b a) (a - b) (down e * down d))))
      go true less = rounded s (a + b) (omega arith)
      go false true = rounded t (b - a) (omega arith)
      go false false = rounded (s && ltb b a) (a - b) (omega arith)

  pub zero_times_infinity : {x : Float} (t : Bool) → ZeroOrNan x → mul f x (inf t) ≡ nan
  unfolding mul
  zero_times_infinity t a_nan = refl
  zero_times_infinity t (a_zero s e) = refl

pub zero_negated : {x : Float} → ZeroOrNan x → ZeroOrNan (neg x)
unfolding neg
zero_negated a_nan = a_nan
zero_negated (a_zero s e) = a_zero _ e
