-- The values of a format, in units of its smallest positive value, 2 ^ -low: which whole numbers they are,
-- and that none lies between two neighbours.
use mathlib.Core.Path.{◌≡◌, refl, sym, ap, ◌∙◌, subst}
use mathlib.Core.Logic.{◌⊎◌, inl, inr}
use Prim.Native.Nat.{ℕ, zero, suc, ◌+◌, ◌-◌, ◌*◌, ◌%◌, ◌^◌, ◌≤◌, ◌<◌}
use native.Mathlib.Nat.{le_trans, le_of_eq, le_of_lt, lt_of_not-le, not-le_of_lt, eq_of_mul-eq-mul_right, mul-one, mul_assoc}
use native.Mathlib.Nat.{mul-le-mul_right, zero-mul}
use native.Mathlib.Decide.{dec_le}
use native.Mathlib.Omega.{arith}
use mathlib.Core.Bool.{Bool, true, false, ◌&&◌}
use lib.IntN.{ℤ, pos, negsuc}
use lib.Dec.{T, leb, ltb, eqb, leb→le, ltb→lt}
use lib.Pow.{pow-add, pow_pos, pow_mono, pow-lt}
use lib.Ieee.{Float, nan, inf, fin, Format, prec, emax, low, up, down, fits}
use lib.Ieee.Digits.{back}
use lib.Ieee.Fits.{two, two-le_pos, down_pos, and_l, and_r}
use lib.Ieee.Exact.{HasValue}
use lib.Ieee.Positive.{positive}

-- ---- a value has one size
pub one_value : (x : Float) (s : Bool) (a b c : ℕ) → HasValue x s a c → HasValue x s b c → a ≡ b
one_value nan s a b c v w = absurd v
one_value (inf t) s a b c v w = absurd v
one_value (fin t m e) s a b c v w = eq_of_mul-eq-mul_right (down e) (down_pos e) a b (sym v.1 ∙ w.1)

-- ---- what `fits` says of a number other than zero
pub in_format : (f : Format) (s : Bool) (m : ℕ) (e : ℤ) → T (fits f (fin s (suc m) e))
    → (suc m < 2 ^ prec f) × (down e ≤ 2 ^ low f) × (suc m * up e < 2 ^ suc (emax f) * down e)
unfolding fits
in_format f s m e h =
    let a = eqb (suc m % 2) 1 in
    let b = ltb (suc m) (2 ^ prec f) in
    let c = leb (down e) (2 ^ low f) in
    let d = ltb (suc m * up e) (2 ^ suc (emax f) * down e) in (
      ltb→lt (suc m) (2 ^ prec f) (and_r a b (and_l (a && b) c (and_l (a && b && c) d h))),
      leb→le (down e) (2 ^ low f) (and_r (a && b) c (and_l (a && b && c) d h)),
      ltb→lt (suc m * up e) (2 ^ suc (emax f) * down e) (and_r (a && b && c) d h),
    )

-- ---- a value of the format is m * 2 ^ j units, for an m of at most prec digits
pub pow_le_back : (a l : ℕ) → 2 ^ a ≤ 2 ^ l → a ≤ l
pow_le_back a l h = let k : a < suc l = lt_of_not-le (λ (g : suc l ≤ a). not-le_of_lt (pow-lt g) h) in omega arith

in_units : (f : Format) (m : ℕ) (e : ℤ) → down e ≤ 2 ^ low f → (j : ℕ) × (m * up e * 2 ^ low f ≡ m * 2 ^ j * down e)
in_units f m (pos a) h =
    (a + low f, mul_assoc m (2 ^ a) (2 ^ low f) ∙ ap (λ (x : ℕ). m * x) (sym (pow-add 2 a (low f))) ∙ sym (mul-one (m * 2 ^ (a + low f))))
in_units f m (negsuc a) h =
    let l = low f in (
      l - suc a,
      ap (λ (x : ℕ). x * 2 ^ l) (mul-one m)
          ∙ ap (λ (x : ℕ). m * x) (ap (λ (x : ℕ). 2 ^ x) (sym (back l (suc a) (pow_le_back (suc a) l h))) ∙ pow-add 2 (l - suc a) (suc a))
          ∙ sym (mul_assoc m (2 ^ (l - suc a)) (2 ^ suc a)),
    )

abbrev pub OnGrid : Format → ℕ → Type 0
OnGrid f y = (m : ℕ) × (j : ℕ) × (m < 2 ^ prec f) × (y ≡ m * 2 ^ j)

pub on_grid : (f : Format) (x : Float) (y : ℕ) → T (fits f x) → HasValue x false y (2 ^ low f) → OnGrid f y
on_grid f nan y h v = absurd v
on_grid f (inf s) y h v = absurd v
on_grid f (fin s zero e) y h v = (
  0,
  0,
  pow_pos (prec f),
  eq_of_mul-eq-mul_right (down e) (down_pos e) y (0 * 1) (sym v.1 ∙ ap (λ (z : ℕ). z * 2 ^ low f) (zero-mul (up e))
      ∙ zero-mul (2 ^ low f) ∙ sym (zero-mul (down e))),
)
on_grid f (fin s (suc m) e) y h v =
    let p = in_format f s m e h in
    let u = in_units f (suc m) e p.1 in
    (suc m, u.0, p.0, eq_of_mul-eq-mul_right (down e) (down_pos e) y (suc m * 2 ^ u.0) (sym v.1 ∙ u.1))

pub has_units : (f : Format) (x : Float) → T (fits f x) → T (positive x) → (y : ℕ) × HasValue x false y (2 ^ low f)
has_units f nan h p = absurd p
has_units f (inf s) h p = absurd p
has_units f (fin true m e) h p = absurd p
has_units f (fin false zero e) h p = absurd p
has_units f (fin false (suc m) e) h p = let u = in_units f (suc m) e (in_format f false m e h).1 in (suc m * 2 ^ u.0, (refl, u.1))

-- ---- none lies between q * 2 ^ k and (q + 1) * 2 ^ k units, where k is 0 or q has prec digits
whole_or_fewer : (z q s : ℕ) → (z * s ≤ q * s) ⊎ ((q + 1) * s ≤ z * s)
whole_or_fewer z q s = either (dec_le z q)
  where
    up_one : (z q : ℕ) → q < z → q + 1 ≤ z
    up_one z q h = omega arith

    either : Dec (z ≤ q) → (z * s ≤ q * s) ⊎ ((q + 1) * s ≤ z * s)
    either (yes h) = inl (mul-le-mul_right s h)
    either (no n) = inr (mul-le-mul_right s (up_one z q (lt_of_not-le n)))

pub gap : (f : Format) (k q y : ℕ) → (0 < k → 2 ^ (prec f - 1) ≤ q) → OnGrid f y → (y ≤ q * 2 ^ k) ⊎ ((q + 1) * 2 ^ k ≤ y)
gap f k q y Q (m, j, M, e) = either (dec_le k j)
  where
    later : (p j k : ℕ) → 0 < p → j < k → p + j ≤ p - 1 + k
    later p j k P h = omega arith

    some : (j k : ℕ) → j < k → 0 < k
    some j k h = omega arith

    either : Dec (k ≤ j) → (y ≤ q * 2 ^ k) ⊎ ((q + 1) * 2 ^ k ≤ y)
    either (yes h) =
        let same : m * 2 ^ (j - k) * 2 ^ k ≡ y =
        mul_assoc m (2 ^ (j - k)) (2 ^ k) ∙ ap (λ (x : ℕ). m * x) (sym (pow-add 2 (j - k) k) ∙ ap (λ (x : ℕ). 2 ^ x) (back j k h))
        ∙ sym e in
        subst (λ (x : ℕ). (x ≤ q * 2 ^ k) ⊎ ((q + 1) * 2 ^ k ≤ x)) same (whole_or_fewer (m * 2 ^ (j - k)) q (2 ^ k))
    either (no n) =
        let l : j < k = lt_of_not-le n in
        inl
        (le_trans (le_of_eq e)
        (le_trans (mul-le-mul_right (2 ^ j) (le_of_lt M))
        (le_trans (le_of_eq (sym (pow-add 2 (prec f) j)))
        (le_trans (pow_mono (later (prec f) j k (two-le_pos (prec f) (two f)) l))
        (le_trans (le_of_eq (pow-add 2 (prec f - 1) k)) (mul-le-mul_right (2 ^ k) (Q (some j k l))))))))
