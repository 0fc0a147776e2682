-- What rounding does to a whole number of units: its `prec` leading digits are kept, and k are dropped. So the result is a multiple of
-- 2 ^ k and off by at most 2 ^ k, and a whole number of at most `prec` digits is not rounded at all.
use Rattle.std.proofs.Common.{◌≡◌, ℕ, suc, ◌+◌, ◌-◌, ◌*◌, ◌/◌, ◌%◌, ◌^◌, ◌<◌, ◌≤◌, Bool, T, ℤ, ◌+ℤ◌, ◌-ℤ◌, nat_abs, sym, ap, ◌∙◌, subst}
use Rattle.std.proofs.Common.{le_trans, le_of_eq, lt_of_le_of_lt, mul-le-mul_right, mul_assoc, mul-pos, div-mul-le_self, mul-div_cancel}
use Rattle.std.proofs.Common.{arith, pow_pos, pow-add}
use Prim.Native.Nat.{compare}
use native.Mathlib.Nat.{lt-div-mul-add}
use lib.Pow.{pow-lt}
use lib.Ieee.{Float, Format, prec, emax, low, size, units, round, add, fits}
use lib.Ieee.Digits.{size-le}
use lib.Ieee.Fits.{round_is, kept-lt, nearest-le, two, reach}
use lib.Ieee.Exact.{HasValue, round_exact, units_val}
use lib.Ieee.Nearest.{closest, closest_same, nearest-ge}
use Rattle.exact.specs.Scaled.{signed, exact_in}
use Rattle.exact.proofs.Scaled.{size_of}
use Rattle.floats.proofs.Grid.{OnGrid}
use Rattle.floats.proofs.Within.{Within, within_finite}
use Rattle.local.proofs.Integers.{size_sum, size_minus, Multiple}
use Rattle.local.proofs.InUnits.{exact_of_lem, size_within, Rounding, add_in_units}

module _ (f : Format) where
  -- ---- what rounding does to a whole number of units
  -- it keeps the `prec` leading digits, and drops k
  dropped : (s : Bool) (n : ℕ)
      → round f s n (2 ^ low f) ≡ units f s (closest n (2 ^ (size n - prec f))) (size n - prec f)
  dropped s n =
      let l = 2 ^ low f in
      let k = size n - prec f in
      round_is f s n l
      ∙ ap (λ (w : ℕ). units f s (closest (n * l) (l * 2 ^ (size w - prec f))) (size w - prec f)) (mul-div_cancel n (pow_pos (low f)))
      ∙ ap (λ (q : ℕ). units f s q k)
      (closest_same (n * l) (l * 2 ^ k) n (2 ^ k) (mul-pos (pow_pos (low f)) (pow_pos k)) (pow_pos k) (mul_assoc n l (2 ^ k)))

  -- the kept digits are below 2 ^ (emax + 1)
  kept_under : (n q : ℕ) → n < 2 ^ (low f + emax f) → q ≤ 2 ^ prec f → q * 2 ^ (size n - prec f) < 2 ^ (low f + suc (emax f))
  kept_under n q h g =
      let k = size n - prec f in
      lt_of_le_of_lt (le_trans (mul-le-mul_right (2 ^ k) g) (le_of_eq (sym (pow-add 2 (prec f) k))))
      (pow-lt (room (prec f) (size n) (emax f) (two f) (reach f) (size-le n (low f + emax f) h)))
    where
      room : (p z e : ℕ) → 2 ≤ p → p ≤ suc e → z ≤ e + p - 2 + e → p + (z - p) < e + p - 2 + suc e
      room p z e a b h = omega arith

  -- x is a multiple of 2 ^ k, and off z by at most that
  pub record Near (k : ℕ) (x : Float) (z : ℤ) : Type 0 where
    pub multiple : Multiple (2 ^ k) (exact_in f x)
    pub close : nat_abs (exact_in f x -ℤ z) ≤ 2 ^ k

  pub near : (x : Float) (z : ℤ) → Rounding f x z → nat_abs z < 2 ^ (low f + emax f) → Near (size (nat_abs z) - prec f) x z
  near x z r h =
      let s = r.sign in
      let n = r.magnitude in
      let same : nat_abs z ≡ n = ap nat_abs (sym r.value) ∙ size_of s n in
      let k = size n - prec f in
      let q = closest n (2 ^ k) in
      let least : n / 2 ^ k ≤ q = nearest-ge (n / 2 ^ k) (compare (n % 2 ^ k * 2) (2 ^ k)) in
      let most : q ≤ suc (n / 2 ^ k) = nearest-le (n / 2 ^ k) (compare (n % 2 ^ k * 2) (2 ^ k)) in
      let under = kept_under n q (subst (λ (v : ℕ). v < 2 ^ (low f + emax f)) same h) (le_trans most (kept-lt (prec f) n)) in
      let is : exact_in f x ≡ signed s (q * 2 ^ k) =
      exact_of_lem f x s (q * 2 ^ k)
      (subst (λ (v : Float). HasValue v s (q * 2 ^ k) (2 ^ low f)) (sym (r.rounded ∙ dropped s n)) (units_val f s q k under)) in
      let lower = above n (n / 2 ^ k) q (2 ^ k) (lt-div-mul-add (pow_pos k)) least in
      let upper = below n (n / 2 ^ k) q (2 ^ k) (div-mul-le_self n (2 ^ k)) most in
      subst (λ (v : ℕ). Near (size v - prec f) x z) (sym same)
      (record {
        multiple = (q, ap nat_abs is ∙ size_of s (q * 2 ^ k));
        close = subst (λ (v : ℤ). nat_abs (exact_in f x -ℤ v) ≤ 2 ^ k) r.value
            (subst (λ (v : ℤ). nat_abs (v -ℤ signed s n) ≤ 2 ^ k) (sym is) (size_minus s (q * 2 ^ k) n (2 ^ k) upper lower));
      })
    where
      above : (n w q k : ℕ) → n < w * k + k → w ≤ q → n ≤ q * k + k
      above n w q k h g = let i = mul-le-mul_right k g in omega arith

      below : (n w q k : ℕ) → w * k ≤ n → q ≤ suc w → q * k ≤ n + k
      below n w q k h g = let i = mul-le-mul_right k g in omega arith

  -- a whole number of at most `prec` digits is not rounded
  unrounded : (x : Float) (z : ℤ) → Rounding f x z → nat_abs z < 2 ^ (low f + suc (emax f)) → OnGrid f (nat_abs z) → exact_in f x ≡ z
  unrounded x z r h (m, j, M, e) =
      let s = r.sign in
      let n = r.magnitude in
      let l = 2 ^ low f in
      let is : n ≡ m * 2 ^ j = sym (size_of s n) ∙ ap nat_abs r.value ∙ e in
      let v = round_exact f s n l m j (pow_pos (low f)) M (subst (λ (v : ℕ). v < 2 ^ (low f + suc (emax f))) e h)
      (ap (λ (v : ℕ). v * l) is) in
      exact_of_lem f x s n (subst (λ (v : Float). HasValue v s n l) (sym r.rounded) v) ∙ r.value

  -- ---- sums and differences of numbers of at most 2 ^ a
  -- the exact sum is at most 2 ^ (a + 1)
  pub size_both : (x y : Float) (a : ℕ) → T (fits f x) → T (fits f y) → Within a x → Within a y
      → nat_abs (exact_in f x +ℤ exact_in f y) ≤ 2 ^ (a + 1 + low f)
  size_both x y a h k v w =
      le_trans (size_sum (exact_in f x) (exact_in f y))
      (le_trans (twice _ _ (2 ^ a) (2 ^ low f) (size_within f x a h v) (size_within f y a k w))
      (le_of_eq (ap (λ (z : ℕ). z * 2 ^ low f) (sym (pow-add 2 a 1)) ∙ sym (pow-add 2 (a + 1) (low f)))))
    where
      twice : (m n p l : ℕ) → m ≤ p * l → n ≤ p * l → m + n ≤ p * 2 * l
      twice m n p l h k = omega arith

  -- a sum of at most `prec` digits is exact
  pub sum_exact : (x y : Float) (a : ℕ) → a + 1 ≤ emax f → T (fits f x) → T (fits f y) → Within a x → Within a y
      → OnGrid f (nat_abs (exact_in f x +ℤ exact_in f y)) → exact_in f (add f x y) ≡ exact_in f x +ℤ exact_in f y
  sum_exact x y a n h k v w g =
      let l : a + 1 + low f < low f + suc (emax f) = omega arith in
      unrounded (add f x y) (exact_in f x +ℤ exact_in f y) (add_in_units f x y h k (within_finite x a v) (within_finite y a w))
      (lt_of_le_of_lt (size_both x y a h k v w) (pow-lt l)) g
