-- The pattern k * 2 ^ (prec - 1) + q, for a q of prec digits, or for 2 ^ prec, is that of q * 2 ^ k units; and so it is for any q of fewer
-- digits where k is 0. So where rounding carries into a new digit, the sum carries into the exponent's field.
use mathlib.Core.Path.{◌≡◌, refl, sym, ap, ◌∙◌}
use mathlib.Core.Logic.{inl, inr}
use Prim.Native.Nat.{ℕ, zero, suc, ◌+◌, ◌-◌, ◌*◌, ◌/◌, ◌%◌, ◌^◌, ◌≤◌, ◌<◌}
use native.Mathlib.Nat.{le_trans, le_of_eq, le_refl, lt_of_lt_of_le, lt_of_le_of_lt, eq-or-lt_of_le, mul-le-mul_right, mul-div_cancel}
use native.Mathlib.Nat.{mul-lt-mul_of_pos_right, mul-one, zero-add, zero-lt-suc, lt_of_not-le, pow-succ'}
use native.Mathlib.Decide.{dec_le}
use native.Mathlib.Omega.{arith}
use mathlib.Core.Bool.{Bool, true, false, cond}
use lib.Dec.{T, ltb, ltb→lt}
use lib.Pow.{pow-add, pow_pos, pow-lt}
use lib.Ieee.{Float, nan, inf, fin, Format, prec, emax, low, up, down, size, odd, units, fits, is_nan, hid, ones, top, of_bits, nan_bits}
use lib.Ieee.{to_bits}
use lib.Ieee.Digits.{size-le}
use lib.Ieee.Fits.{two, two-le_pos, down_pos, odd-fits, inf-fits}
use lib.Ieee.Exact.{HasValue, units_val}
use lib.Ieee.Bits.{of_bits-to_bits, nan_bits_is}
use Rattle.floats.proofs.Rounded.{drops}

-- a whole number of smallest values, with few enough digits, is a value of the format
pub units_fits : (f : Format) (s : Bool) (q k : ℕ) → q ≤ 2 ^ prec f → T (fits f (units f s q k))
unfolding units
units_fits f s q k a = go (ltb (q * 2 ^ k) (2 ^ (low f + suc (emax f)))) (ltb→lt (q * 2 ^ k) (2 ^ (low f + suc (emax f))))
  where
    go : (b : Bool) → (T b → q * 2 ^ k < 2 ^ (low f + suc (emax f))) → T (fits f (cond b (odd (suc (prec f)) s q k (low f)) (inf s)))
    go true h = odd-fits f (suc (prec f)) s q k (lt_of_le_of_lt a (pow-lt (le_refl (suc (prec f))))) a (h tt)
    go false h = inf-fits f s

-- ---- the bits of a value that is n smallest values
abbrev pub written : Format → ℕ → ℕ
written f n = (size n - prec f) * hid f + n / 2 ^ (size n - prec f)

pub bits_of : (f : Format) (x : Float) (n : ℕ) → HasValue x false n (2 ^ low f) → to_bits f x ≡ written f n
unfolding to_bits
bits_of f nan n v = absurd v
bits_of f (inf s) n v = absurd v
bits_of f (fin s m e) n v =
    ap (λ (b : Bool). cond b (top f) 0 + (size (m * up e * 2 ^ low f / down e) - prec f) * hid f + m * up e * 2 ^ low f / down e / 2 ^
    (size (m * up e * 2 ^ low f / down e) - prec f)) v.0
    ∙ ap (λ (z : ℕ). 0 + (size z - prec f) * hid f + z / 2 ^ (size z - prec f))
    (ap (λ (z : ℕ). z / down e) v.1 ∙ mul-div_cancel n (down_pos e))
    ∙ ap (λ (z : ℕ). z + n / 2 ^ (size n - prec f)) (zero-add ((size n - prec f) * hid f))

pub pow_pred : (p : ℕ) → 0 < p → 2 ^ p ≡ 2 * 2 ^ (p - 1)
pow_pred p h = ap (λ (x : ℕ). 2 ^ x) (sym (back p h)) ∙ pow-succ' 2 (p - 1)
  where
    back : (p : ℕ) → 0 < p → suc (p - 1) ≡ p
    back p h = omega arith

-- q has prec digits
written_in : (f : Format) (q k : ℕ) → hid f ≤ q → q < 2 ^ prec f → written f (q * 2 ^ k) ≡ k * hid f + q
written_in f q k lo hi =
    ap (λ (d : ℕ). d * hid f + q * 2 ^ k / 2 ^ d)
    (drops (prec f) k (q * 2 ^ k) (two-le_pos (prec f) (two f)) (mul-le-mul_right (2 ^ k) lo) (mul-lt-mul_of_pos_right hi (pow_pos k)))
    ∙ ap (λ (x : ℕ). k * hid f + x) (mul-div_cancel q (pow_pos k))

-- 2 ^ prec units of 2 ^ k are hid units of 2 ^ (k + 1)
carried : (f : Format) (q k : ℕ) → q ≡ 2 ^ prec f → written f (q * 2 ^ k) ≡ k * hid f + q
carried f q k e =
    let P : 0 < prec f = two-le_pos (prec f) (two f) in
    let t : q ≡ 2 * hid f = e ∙ pow_pred (prec f) P in
    ap (written f) (same q k (hid f) t)
    ∙ written_in f (hid f) (suc k) (le_refl (hid f)) (lt_of_lt_of_le (grows (hid f) (pow_pos (prec f - 1)))
    (le_of_eq (sym (pow_pred (prec f) P))))
    ∙ regroup k (hid f) q t
  where
    grows : (h : ℕ) → 0 < h → h < 2 * h
    grows h p = omega arith

    same : (q k h : ℕ) → q ≡ 2 * h → q * 2 ^ k ≡ h * 2 ^ suc k
    same q k h e = ap (λ (x : ℕ). x * 2 ^ k) e ∙ omega_same (2 ^ k) h ∙ ap (λ (x : ℕ). h * x) (sym (pow-succ' 2 k))
      where
        omega_same : (s h : ℕ) → 2 * h * s ≡ h * (2 * s)
        omega_same s h = omega arith

    regroup : (k h q : ℕ) → q ≡ 2 * h → suc k * h + h ≡ k * h + q
    regroup k h q e = omega arith

written_as : (f : Format) (q k : ℕ) → hid f ≤ q → q ≤ 2 ^ prec f → written f (q * 2 ^ k) ≡ k * hid f + q
written_as f q k lo hi = elim (eq-or-lt_of_le hi) [ inl e ↦ carried f q k e | inr l ↦ written_in f q k lo l ]

-- below the leading digit's weight all digits are written
written_small : (f : Format) (q : ℕ) → q < hid f → written f (q * 2 ^ 0) ≡ 0 * hid f + q
written_small f q h =
    ap (written f) (mul-one q)
    ∙ ap (λ (d : ℕ). d * hid f + q / 2 ^ d) (none (size q) (prec f) (size-le q (prec f - 1) h))
    ∙ whole q (hid f)
  where
    none : (z p : ℕ) → z ≤ p - 1 → z - p ≡ 0
    none z p h = omega arith

    whole : (q h : ℕ) → 0 * h + q / 2 ^ 0 ≡ 0 * h + q
    whole q h = omega arith

written_any : (f : Format) (q k : ℕ) → (0 < k → hid f ≤ q) → q ≤ 2 ^ prec f → written f (q * 2 ^ k) ≡ k * hid f + q
written_any f q zero lo hi = either (dec_le (hid f) q)
  where
    either : Dec (hid f ≤ q) → written f (q * 2 ^ zero) ≡ zero * hid f + q
    either (yes h) = written_as f q zero h hi
    either (no n) = written_small f q (lt_of_not-le n)
written_any f q (suc k) lo hi = written_as f q (suc k) (lo (zero-lt-suc k)) hi

-- so the last digit of the pattern is that of q, since hid is even
pub written_last : (f : Format) (q k : ℕ) → (0 < k → hid f ≤ q) → q ≤ 2 ^ prec f → written f (q * 2 ^ k) % 2 ≡ q % 2
written_last f q k lo hi =
    ap (λ (b : ℕ). b % 2) (written_any f q k lo hi) ∙ even (hid f) (2 ^ (prec f - 1 - 1)) (pow_pred (prec f - 1) (more (prec f) (two f)))
  where
    more : (p : ℕ) → 2 ≤ p → 0 < p - 1
    more p h = omega arith

    even : (h g : ℕ) → h ≡ 2 * g → (k * h + q) % 2 ≡ q % 2
    even h g e = let a : k * h ≡ k * (2 * g) = ap (λ (x : ℕ). k * x) e in omega arith

room : (p e k : ℕ) → 2 ≤ p → suc (suc k) < 2 * e + 1 → p + k < e + p - 2 + suc e
room p e k a b = omega arith

pub in_range : (f : Format) (q k : ℕ) → q ≤ 2 ^ prec f → suc (suc k) < ones f → q * 2 ^ k < 2 ^ (low f + suc (emax f))
in_range f q k hi h =
    lt_of_le_of_lt (le_trans (mul-le-mul_right (2 ^ k) hi) (le_of_eq (sym (pow-add 2 (prec f) k))))
    (pow-lt (room (prec f) (emax f) k (two f) h))

pub pack : (f : Format) (q k : ℕ) → (0 < k → hid f ≤ q) → q ≤ 2 ^ prec f → q * 2 ^ k < 2 ^ (low f + suc (emax f))
    → of_bits f (k * hid f + q) ≡ units f false q k
pack f q k lo hi h =
    ap (of_bits f) (sym (bits_of f (units f false q k) (q * 2 ^ k) (units_val f false q k h) ∙ written_any f q k lo hi))
    ∙ of_bits-to_bits f (units f false q k) (units_fits f false q k hi)

pub valued : (x : Float) (s : Bool) (a c : ℕ) → HasValue x s a c → is_nan x ≡ false
unfolding is_nan
valued nan s a c v = absurd v
valued (inf t) s a c v = absurd v
valued (fin t m e) s a c v = refl

pub pack_no_nan : (f : Format) (q k : ℕ) → (0 < k → hid f ≤ q) → q ≤ 2 ^ prec f → q * 2 ^ k < 2 ^ (low f + suc (emax f))
    → nan_bits f (k * hid f + q) ≡ false
pack_no_nan f q k lo hi h =
    nan_bits_is f (k * hid f + q) ∙ ap is_nan (pack f q k lo hi h)
    ∙ valued (units f false q k) false (q * 2 ^ k) (2 ^ low f) (units_val f false q k h)
