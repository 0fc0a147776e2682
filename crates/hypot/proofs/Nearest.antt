-- `CorrectlyRounded` of specs/Nearest.antt holds. What is rounded is below the power of two that is beyond the format exactly where the
-- root is below the mid-point of that power and the largest value: neither of the two is nearer to the root than what it is rounded to,
-- and at the mid-point itself the largest value is not taken, since its last digit is 1.
use mathlib.Core.Path.{◌≡◌, refl, sym, ap, ◌∙◌, subst}
use mathlib.Core.Logic.{inl, inr, ⊎_elim}
use Prim.Native.Nat.{ℕ, zero, suc, ◌+◌, ◌-◌, ◌*◌, ◌%◌, ◌^◌, ◌≤◌, ◌<◌}
use native.Mathlib.Nat.{le_trans, le_of_eq, le_of_lt, lt_of_lt_of_le, lt_of_not-le, lt_irrefl, not-le_of_lt, eq-or-lt_of_le, mul-le-mul}
use native.Mathlib.Nat.{one-mul, sub-add_cancel}
use native.Mathlib.Decide.{dec_le}
use native.Mathlib.Omega.{arith}
use mathlib.Core.Bool.{false}
use lib.Dec.{T, lt→ltb}
use lib.Pow.{pow-add, pow_pos, pow-lt}
use lib.Ieee.{Float, nan, inf, fin, Format, prec, emax, low, fits, hid}
use lib.Ieee.Fits.{two, reach, two-le_pos}
use lib.Ieee.Scale.{finite, overflow}
use Rattle.floats.specs.Pick.{magnitude_of}
use Rattle.floats.specs.Nearest.{EquallyNear}
use Rattle.floats.proofs.Grid.{OnGrid, on_grid, has_units, gap}
use Rattle.floats.proofs.Writing.{written, written_last, bits_of, pow_pred}
use Rattle.floats.proofs.Taken.{Rounded, rounded}
use Rattle.hypot.specs.Hypot.{hypot_of}
use Rattle.hypot.specs.Nearest.{IsUnits, largest_units, last_middle, NearestValue, RoundedRoot, CorrectlyRounded}
use Rattle.hypot.proofs.Sum.{hypot_of_units}
use Rattle.hypot.proofs.Signless.{no_signs}

-- ---- values and their units, the sign aside
magnitude_fits : (f : Format) (x : Float) → T (fits f x) → T (fits f (magnitude_of x))
unfolding fits magnitude_of
magnitude_fits f nan h = tt
magnitude_fits f (inf s) h = tt
magnitude_fits f (fin s zero e) h = h
magnitude_fits f (fin s (suc m) e) h = h

pub units_on_grid : (f : Format) (x : Float) (a : ℕ) → T (fits f x) → IsUnits f x a → OnGrid f a
units_on_grid f x a h v = on_grid f (magnitude_of x) a (magnitude_fits f x h) v

-- every finite value of the format is a whole number of units
pub has_magnitude : (f : Format) (x : Float) → T (fits f x) → T (finite x) → (a : ℕ) × IsUnits f x a
unfolding fits magnitude_of
has_magnitude f nan h p = absurd p
has_magnitude f (inf s) h p = absurd p
has_magnitude f (fin s zero e) h p = (0, (refl, omega arith))
has_magnitude f (fin s (suc m) e) h p = has_units f (fin false (suc m) e) h (lt→ltb 0 (suc m) (omega arith))

-- the length of a units and b units is the root of a * a + b * b, rounded
pub rounded_hypot : (f : Format) (x y : Float) (a b : ℕ) → IsUnits f x a → IsUnits f y b → Rounded f (a * a + b * b) (hypot_of f x y)
rounded_hypot f x y a b v w =
    let l = hypot_of_units f (magnitude_of x) (magnitude_of y) false false a b v w in
    subst (Rounded f (a * a + b * b)) (sym l.root ∙ no_signs f x y) (rounded f l.num l.den (a * a + b * b) l.some l.in_units)

-- ---- the largest value and the power of two after it
module _ (f : Format) where
  -- the largest value has `prec` digits 1, and the last of them counts 2 ^ shift units
  abbrev digits : ℕ
  digits = 2 ^ prec f - 1

  abbrev shift : ℕ
  shift = low f + suc (emax f) - prec f

  next_digits : digits + 1 ≡ 2 ^ prec f
  next_digits = sub-add_cancel (pow_pos (prec f))

  overflow_is : overflow f ≡ (digits + 1) * 2 ^ shift
  overflow_is =
      ap (λ (x : ℕ). 2 ^ x) (apart (prec f) (emax f) (two f) (reach f)) ∙ pow-add 2 (prec f) shift
      ∙ ap (λ (x : ℕ). x * 2 ^ shift) (sym next_digits)
    where
      apart : (p e : ℕ) → 2 ≤ p → p ≤ suc e → e + p - 2 + suc e ≡ p + (e + p - 2 + suc e - p)
      apart p e a b = omega arith

  largest_is : largest_units f ≡ digits * 2 ^ shift
  largest_is = ap (λ (x : ℕ). x - 2 ^ shift) overflow_is ∙ less digits (2 ^ shift)
    where
      less : (d w : ℕ) → (d + 1) * w - w ≡ d * w
      less d w = omega arith

  largest_below : largest_units f < overflow f
  largest_below = less (overflow f) (2 ^ shift) (pow_pos (low f + suc (emax f))) (pow_pos shift)
    where
      less : (a b : ℕ) → 0 < a → 0 < b → a - b < a
      less a b A B = omega arith

  digits_few : digits < 2 ^ prec f
  digits_few = lt_of_lt_of_le (next digits) (le_of_eq next_digits)
    where
      next : (d : ℕ) → d < d + 1
      next d = omega arith

  twice_hid : digits + 1 ≡ 2 * hid f
  twice_hid = next_digits ∙ pow_pred (prec f) (two-le_pos (prec f) (two f))

  digits_all : 0 < shift → hid f ≤ digits
  digits_all k = less digits (hid f) (pow_pos (prec f - 1)) twice_hid
    where
      less : (d h : ℕ) → 0 < h → d + 1 ≡ 2 * h → h ≤ d
      less d h H e = omega arith

  largest_on_grid : OnGrid f (largest_units f)
  largest_on_grid = (digits, shift, digits_few, largest_is)

  overflow_on_grid : OnGrid f (overflow f)
  overflow_on_grid = (1, low f + suc (emax f), pow-lt (two-le_pos (prec f) (two f)), sym (one-mul (overflow f)))

  largest_odd : written f (largest_units f) % 2 ≡ 1
  largest_odd =
      ap (λ (x : ℕ). written f x % 2) largest_is
      ∙ written_last f digits shift digits_all (le_of_lt digits_few)
      ∙ odd digits (hid f) twice_hid
    where
      odd : (d h : ℕ) → d + 1 ≡ 2 * h → d % 2 ≡ 1
      odd d h e = omega arith

  at_most_largest : (y : ℕ) → OnGrid f y → y < overflow f → y ≤ largest_units f
  at_most_largest y g l =
      ⊎_elim
      (λ a. le_trans a (le_of_eq (sym largest_is)))
      (λ a. absurd (not-le_of_lt l (le_trans (le_of_eq overflow_is) a)))
      (gap f shift digits y digits_all g)

  -- ---- the range
  module _ (n : ℕ) (v : Float) (t : Rounded f n v) where
    below : t.r < overflow f → 4 * n < last_middle f * last_middle f
    below l =
        elim (eq-or-lt_of_le (at_most_largest t.r (on_grid f v t.r t.in_format (t.in_range l)) l)) [
          | inl e ↦ elim (eq-or-lt_of_le (subst (λ (z : ℕ). 4 * n ≤ (z + over) * (z + over)) e near)) [
            | inl p ↦ absurd (tie e (ap (λ (z : ℕ). (z + over) * (z + over)) e ∙ sym p))
            | inr k ↦ k
          ]
          | inr k ↦ squared t.r (largest_units f) over near k
        ]
      where
        over : ℕ
        over = overflow f

        near : 4 * n ≤ (t.r + over) * (t.r + over)
        near = (t.no_nearer over overflow_on_grid).1 l

        not_even : (b : ℕ) → b ≡ 1 → b ≡ 0 → ⊥
        not_even b p q = omega arith

        tie : t.r ≡ largest_units f → EquallyNear n t.r over → ⊥
        tie e p =
            not_even (written f t.r % 2) (ap (λ (z : ℕ). written f z % 2) e ∙ largest_odd)
            (t.tie_to_even over overflow_on_grid (λ q. lt_irrefl over (subst (λ (z : ℕ). z < over) (sym q) l)) p)

        squared : (r last o : ℕ) → 4 * n ≤ (r + o) * (r + o) → r < last → 4 * n < (last + o) * (last + o)
        squared r last o h k = let a : r + o + 1 ≤ last + o = omega arith in omega (arith, mul-le-mul a a)

    above : overflow f ≤ t.r → last_middle f * last_middle f ≤ 4 * n
    above l =
        let a = sum_le (largest_units f) (overflow f) t.r l in
        le_trans (mul-le-mul a a) ((t.no_nearer (largest_units f) largest_on_grid).0 (lt_of_lt_of_le largest_below l))
      where
        sum_le : (last o r : ℕ) → o ≤ r → last + o ≤ r + last
        sum_le last o r h = omega arith

    nearest_value : t.r < overflow f → NearestValue f n v t.r
    nearest_value l =
        record {
          in_format = t.in_format;
          value = t.in_range l;
          no_nearer = λ z c h u. t.no_nearer c (units_on_grid f z c h u);
          tie_to_even = λ z c h u ne e.
              ap (λ (b : ℕ). b % 2) (bits_of f v t.r (t.in_range l)) ∙ t.tie_to_even c (units_on_grid f z c h u) ne e;
        }

    rounded_root : RoundedRoot f n v
    rounded_root = go (dec_le (overflow f) t.r)
      where
        go : Dec (overflow f ≤ t.r) → RoundedRoot f n v
        go (yes l) = inr (above l, t.beyond l)
        go (no g) = let l : t.r < overflow f = lt_of_not-le g in inl (below l, (t.r, nearest_value l))

pub correctly_rounded : CorrectlyRounded
correctly_rounded f x y hx hy p q =
    let (a, v) = has_magnitude f x hx p in
    let (b, w) = has_magnitude f y hy q in
    (a, b, v, w, rounded_root f (a * a + b * b) (hypot_of f x y) (rounded_hypot f x y a b v w))
