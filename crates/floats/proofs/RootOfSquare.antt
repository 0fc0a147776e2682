-- The root of the rounded square of x is the magnitude of x, wherever that square is finite and above the least normal value.
-- Rounding moves the square by half the spacing of the values about it, at most, and so its root by less than half the spacing of those
-- about x. Below a power of two the values are twice as dense; but its square is a power of two too, and rounding leaves it as it is.
use mathlib.Core.Path.{◌≡◌, sym, ap, ◌∙◌, subst}
use mathlib.Core.Logic.{inl, inr}
use mathlib.Core.Bool.{true, false}
use Prim.Native.Nat.{ℕ, zero, suc, ◌+◌, ◌-◌, ◌*◌, ◌/◌, ◌%◌, ◌^◌, ◌≤◌, ◌<◌, zero-le}
use native.Mathlib.Decide.{dec_lt}
use native.Mathlib.Nat.{le_trans, le_of_eq, lt_of_lt_of_le, lt_of_le_of_lt, not-le_of_lt, eq-or-lt_of_le, lt_irrefl, add-sub_of_le}
use native.Mathlib.Nat.{le_of_mul-le-mul_right, lt_of_mul-lt-mul_right, le-div_iff_mul-le, div-add-mod', mod-lt, mul-pos, mul_assoc}
use native.Mathlib.Nat.{mul-le-mul, mul-le-mul_left, mul-le-mul_right}
use native.Mathlib.Omega.{arith}
use lib.IntN.{ℤ}
use lib.Dec.{T, lt→ltb, lit<}
use lib.Pow.{pow-add, pow_pos, pow_mono, shl_lt}
use lib.Ieee.{Float, nan, inf, fin, Format, binary64, prec, emax, low, hid, up, down, size, round, mul, le, fits, of_bits}
use lib.Ieee.Digits.{size-lt, size-le, back}
use lib.Ieee.Fits.{two, two-le_pos, reach, down_pos, mul-fits}
use lib.Ieee.Exact.{HasValue, round_exact}
use lib.Ieee.Nearest.{closest}
use lib.Ieee.Order.{drop, kept}
use lib.Ieee.Scale.{grid, finite, round_val, round_under, normal_of_rounded}
use lib.Ieee.Positive.{num, den, positive, positive-finite, positive_of_value, value_pos, first_pos, own_value, values_of_le, between}
use lib.Ieee.Positive.{mul_at}
use Rattle.floats.specs.F64.{◌*f◌}
use Rattle.floats.specs.Pick.{magnitude_of}
use Rattle.floats.specs.Root.{root_of}
use Rattle.floats.specs.Nearest.{NoNearer}
use Rattle.floats.proofs.Nans.{holds}
use Rattle.floats.proofs.Squares.{sq_lt_back}
use Rattle.floats.proofs.Rounded.{size_gt, leading}
use Rattle.floats.proofs.Writing.{pow_pred}
use Rattle.floats.proofs.Grid.{one_value, OnGrid, on_grid, has_units, gap, pow_le_back}
use Rattle.floats.proofs.Taken.{Picked, picked}
use Rattle.floats.proofs.Nearest.{units_squared, correctly_rounded}
use Rattle.floats.proofs.Monotone.{same_number}

-- ---- the square, rounded
-- a fraction rounded to the nearest whole number moves by a half at most
off_by_half : (a b : ℕ) → 0 < b → (2 * (closest a b * b) ≤ 2 * a + b) × (2 * a ≤ 2 * (closest a b * b) + b)
off_by_half a b B = go (a / b) (a % b) (closest a b) (div-add-mod' a b) (mod-lt a B) (picked (a / b) (a % b * 2) b)
  where
    go : (q m r : ℕ) → q * b + m ≡ a → m < b → Picked q (m * 2) b r → (2 * (r * b) ≤ 2 * a + b) × (2 * a ≤ 2 * (r * b) + b)
    go q m r e l (inl (is, h)) = rw is (omega arith, omega arith)
    go q m r e l (inr (is, h)) = rw is (omega arith, omega arith)

-- n is c times the spacing 2 ^ i, and off from y * y by half the spacing at most; y * y is 2 ^ (prec - 1) times the spacing or more, and
-- the spacing is a unit or more
record RoundedSquare (f : Format) (y n : ℕ) : Type 0 where
  i : ℕ
  c : ℕ
  multiple : n ≡ c * 2 ^ i
  not_over : 2 * n ≤ 2 * (y * y) + 2 ^ i
  not_under : 2 * (y * y) ≤ 2 * n + 2 ^ i
  fine : hid f * 2 ^ i ≤ y * y
  coarse : low f ≤ i

-- y units squared, rounded to more than the least normal value
rounded_square : (f : Format) (y : ℕ) → hid f < grid f (y * y) (2 ^ low f * 2 ^ low f)
    → RoundedSquare f y (grid f (y * y) (2 ^ low f * 2 ^ low f) * 2 ^ low f)
rounded_square f y h =
    let l = 2 ^ low f in
    let L : 0 < l = pow_pos (low f) in
    let a = y * y * l in
    let d = drop (prec f) a (l * l) in
    let k = kept (prec f) a (l * l) in
    let spacing : 2 ^ (d + low f) ≡ 2 ^ d * l = pow-add 2 d (low f) in
    let off = off_by_half a (l * l * 2 ^ d) (mul-pos (mul-pos L L) (pow_pos d)) in
    let normal = normal_of_rounded f (y * y) (l * l) h in
    let whole : hid f * 2 ^ d * (l * l) ≤ a =
    (le-div_iff_mul-le (mul-pos L L)).0 (leading (prec f) (a / (l * l)) (two-le_pos (prec f) (two f)) normal) in
    record {
      i = d + low f;
      c = k;
      multiple = mul_assoc k (2 ^ d) l ∙ ap (λ (z : ℕ). k * z) (sym spacing);
      not_over = subst (λ (z : ℕ). 2 * (k * 2 ^ d * l) ≤ 2 * (y * y) + z) (sym spacing) (over k (2 ^ d) l (y * y) L off.0);
      not_under = subst (λ (z : ℕ). 2 * (y * y) ≤ 2 * (k * 2 ^ d * l) + z) (sym spacing) (under k (2 ^ d) l (y * y) L off.1);
      fine = subst (λ (z : ℕ). hid f * z ≤ y * y) (sym spacing) (scaled (hid f) (2 ^ d) l (y * y) L whole);
      coarse = omega arith;
    }
  where
    over : (c d l s : ℕ) → 0 < l → 2 * (c * (l * l * d)) ≤ 2 * (s * l) + l * l * d → 2 * (c * d * l) ≤ 2 * s + d * l
    over c d l s L h = let g : 2 * (c * d * l) * l ≤ (2 * s + d * l) * l = omega arith in le_of_mul-le-mul_right g L

    under : (c d l s : ℕ) → 0 < l → 2 * (s * l) ≤ 2 * (c * (l * l * d)) + l * l * d → 2 * s ≤ 2 * (c * d * l) + d * l
    under c d l s L h = let g : 2 * s * l ≤ (2 * (c * d * l) + d * l) * l = omega arith in le_of_mul-le-mul_right g L

    scaled : (p d l s : ℕ) → 0 < l → p * d * (l * l) ≤ s * l → p * (d * l) ≤ s
    scaled p d l s L h = let g : p * (d * l) * l ≤ s * l = omega arith in le_of_mul-le-mul_right g L

-- ---- where n is y * y rounded to multiples of u, none of the values next to y is as near to the root of n as y
-- none above y, which is c times the spacing s
not_above : (p c s y n u r : ℕ) → 0 < p → 0 < s → c ≤ 2 * p → y ≡ c * s → 2 * n ≤ 2 * (y * y) + u → p * u ≤ y * y → (c + 1) * s ≤ r
    → (r + y) * (r + y) ≤ 4 * n → ⊥
not_above p c s y n u r some S C e over fine l near =
    let square : y * y ≡ c * s * (c * s) = ap (λ (z : ℕ). z * z) e in
    let far : (2 * c + 1) * s ≤ r + y = omega arith in
    let far-squared : (2 * c + 1) * s * ((2 * c + 1) * s) ≤ (r + y) * (r + y) = mul-le-mul far far in
    let wide : (4 * c + 1) * (s * s) ≤ 2 * u = omega arith in
    let too_wide : p * ((4 * c + 1) * (s * s)) ≤ p * (2 * u) = mul-le-mul_left p wide in
    let small : c * (c * (s * s)) ≤ 2 * p * (c * (s * s)) = mul-le-mul_right (c * (s * s)) C in
    let not_zero : 0 < p * (s * s) = mul-pos some (mul-pos S S) in
    omega arith

-- none below y, which is c + 1 times the spacing s
not_below_lem : (p c s y n u r : ℕ) → 0 < s → c + 2 ≤ 2 * p → y ≡ (c + 1) * s → 2 * (y * y) ≤ 2 * n + u → p * u ≤ y * y → r ≤ c * s
    → 4 * n ≤ (r + y) * (r + y) → ⊥
not_below_lem p c s y n u r S C e under fine l near =
    let square : y * y ≡ (c + 1) * s * ((c + 1) * s) = ap (λ (z : ℕ). z * z) e in
    let far : r + y ≤ (2 * c + 1) * s = omega arith in
    let far-squared : (r + y) * (r + y) ≤ (2 * c + 1) * s * ((2 * c + 1) * s) = mul-le-mul far far in
    let wide : (4 * c + 3) * (s * s) ≤ 2 * u = omega arith in
    let too_wide : p * ((4 * c + 3) * (s * s)) ≤ p * (2 * u) = mul-le-mul_left p wide in
    let small : (c + 2) * ((4 * c + 3) * (s * s)) ≤ 2 * p * ((4 * c + 3) * (s * s)) = mul-le-mul_right ((4 * c + 3) * (s * s)) C in
    let not_zero : 0 < s * s = mul-pos S S in
    omega arith

-- none below a y whose square is a multiple of u, so that rounding leaves it as it is
not_below_exact : (y n u c d r : ℕ) → 0 < u → n ≡ c * u → y * y ≡ d * u → 2 * (y * y) ≤ 2 * n + u → r < y → 4 * n ≤ (r + y) * (r + y) → ⊥
not_below_exact y n u c d r U e square under l near =
    let by-half : 2 * d * u ≤ (2 * c + 1) * u = omega arith in
    let by-half-of-one : 2 * d ≤ 2 * c + 1 = le_of_mul-le-mul_right by-half U in
    let no-fewer : d ≤ c = omega arith in
    let not-less : d * u ≤ c * u = mul-le-mul_right u no-fewer in
    let far : r + y + 1 ≤ y + y = omega arith in
    let far-squared : (r + y + 1) * (r + y + 1) ≤ (y + y) * (y + y) = mul-le-mul far far in
    omega arith

-- ---- y, a value of the format
-- at 2 ^ (prec - 1) units or more it has prec digits, and zeros after them
all_digits : (f : Format) (y : ℕ) → OnGrid f y → hid f ≤ y → (c : ℕ) × (k : ℕ) × (hid f ≤ c) × (c < 2 ^ prec f) × (y ≡ c * 2 ^ k)
all_digits f y (m, j, M, e) h =
    let p = prec f in
    let P : 0 < p = two-le_pos p (two f) in
    let enough : p ≤ size y = reached p (size y) P (size_gt y (p - 1) h) in
    let k = size y - p in
    let no_more : k ≤ j = spare (size y) p j (size-le y (p + j) (subst (λ (z : ℕ). z < 2 ^ (p + j)) (sym e) (shl_lt p j M))) in
    let c = m * 2 ^ (j - k) in
    let zeros : 2 ^ j ≡ 2 ^ (j - k) * 2 ^ k = ap (λ (z : ℕ). 2 ^ z) (sym (back j k no_more)) ∙ pow-add 2 (j - k) k in
    let is : y ≡ c * 2 ^ k = e ∙ ap (λ (z : ℕ). m * z) zeros ∙ sym (mul_assoc m (2 ^ (j - k)) (2 ^ k)) in
    let top : 2 ^ size y ≡ 2 ^ p * 2 ^ k = ap (λ (z : ℕ). 2 ^ z) (sym (add-sub_of_le enough)) ∙ pow-add 2 p k in
    let lo : hid f * 2 ^ k ≤ c * 2 ^ k = le_trans (leading p y P enough) (le_of_eq is) in
    let hi : c * 2 ^ k < 2 ^ p * 2 ^ k = lt_of_le_of_lt (le_of_eq (sym is)) (lt_of_lt_of_le (size-lt y) (le_of_eq top)) in
    (c, k, le_of_mul-le-mul_right lo (pow_pos k), lt_of_mul-lt-mul_right (2 ^ k) hi, is)
  where
    reached : (p z : ℕ) → 0 < p → p - 1 < z → p ≤ z
    reached p z P g = omega arith

    spare : (z p j : ℕ) → z ≤ p + j → z - p ≤ j
    spare z p j g = omega arith

module _ (f : Format) (y n r : ℕ) (q : RoundedSquare f y n) where
  -- y is 2 ^ (prec - 1) units or more, since its square is large
  large : hid f ≤ y
  large =
      let i = q.i in
      let few : prec f - 1 ≤ i = omega (arith, two f, reach f, q.coarse) in
      let a : hid f * hid f ≤ y * y = le_trans (mul-le-mul_left (hid f) (pow_mono few)) q.fine in
      at_most (hid f) a
    where
      at_most : (p : ℕ) → p * p ≤ y * y → p ≤ y
      at_most p h = let l : p < y + 1 = sq_lt_back p (y + 1) (omega arith) in omega arith

  -- where y is 2 ^ t units, its square is a multiple of the spacing
  whole_multiple : (t : ℕ) → y ≡ 2 ^ t → (d : ℕ) × (y * y ≡ d * 2 ^ q.i)
  whole_multiple t e =
      let i = q.i in
      let is : y * y ≡ 2 ^ (t + t) = ap (λ (z : ℕ). z * z) e ∙ sym (pow-add 2 t t) in
      let l : 2 ^ i ≤ 2 ^ (t + t) = le_trans (once (hid f) (2 ^ i) (pow_pos (prec f - 1))) (le_trans q.fine (le_of_eq is)) in
      let b = back (t + t) i (pow_le_back i (t + t) l) in
      (2 ^ (t + t - i), is ∙ ap (λ (z : ℕ). 2 ^ z) (sym b) ∙ pow-add 2 (t + t - i) i)
    where
      once : (p u : ℕ) → 0 < p → u ≤ p * u
      once p u P = let h : 1 * u ≤ p * u = mul-le-mul_right u P in omega arith

  module _ (c k : ℕ) (lo : hid f ≤ c) (hi : c < 2 ^ prec f) (e : y ≡ c * 2 ^ k) (g : OnGrid f r) (near : NoNearer n r y) where
    digits : 2 ^ prec f ≡ 2 * hid f
    digits = pow_pred (prec f) (two-le_pos (prec f) (two f))

    none_above : y < r → ⊥
    none_above l =
        elim (gap f k c r (λ z. lo) g) [
          | inl h ↦ not-le_of_lt l (le_trans h (le_of_eq (sym e)))
          | inr h ↦ not_above (hid f) c (2 ^ k) y n (2 ^ q.i) r (pow_pos (prec f - 1)) (pow_pos k) (omega (arith, digits)) e q.not_over
              q.fine h (near.0 l)
        ]

    none_below : r < y → ⊥
    none_below l =
        elim (eq-or-lt_of_le lo) [
          | inl p ↦
              let w = whole_multiple (prec f - 1 + k) (e ∙ ap (λ (z : ℕ). z * 2 ^ k) (sym p) ∙ sym (pow-add 2 (prec f - 1) k)) in
              not_below_exact y n (2 ^ q.i) q.c w.0 r (pow_pos q.i) q.multiple w.1 q.not_under l (near.1 l)
          | inr h ↦ from_next (c - 1) (omega arith) (omega arith)
        ]
      where
        from_next : (d : ℕ) → c ≡ d + 1 → hid f ≤ d → ⊥
        from_next d s h =
            let is : y ≡ (d + 1) * 2 ^ k = e ∙ ap (λ (z : ℕ). z * 2 ^ k) s in
            elim (gap f k d r (λ z. h) g) [
              | inl b ↦ not_below_lem (hid f) d (2 ^ k) y n (2 ^ q.i) r (pow_pos k) (omega (arith, digits)) is q.not_under q.fine b
                  (near.1 l)
              | inr b ↦ not-le_of_lt l (le_trans (le_of_eq is) b)
            ]

    is_it : r ≡ y
    is_it = go (dec_lt y r) (dec_lt r y)
      where
        go : Dec (y < r) → Dec (r < y) → r ≡ y
        go (yes l) d = absurd (none_above l)
        go (no a) (yes l) = absurd (none_below l)
        go (no a) (no b) = omega arith

  -- so no value but y itself is as near to the root of its rounded square
  nearest_is : OnGrid f y → OnGrid f r → NoNearer n r y → r ≡ y
  nearest_is h g near = let (c, k, lo, hi, e) = all_digits f y h large in is_it c k lo hi e g near

-- ---- the law
-- for a value above zero
of_positive : (f : Format) (x : Float) (g : ℕ) → T (fits f x) → T (positive x) → HasValue (mul f x x) false g (2 ^ low f) → hid f < g
    → root_of f (mul f x x) ≡ x
of_positive f x g h p v G =
    let l = 2 ^ low f in
    let L : 0 < l = pow_pos (low f) in
    let s = mul f x x in
    let (y, x-is) = has_units f x h p in
    let s-is : s ≡ round f false (y * y) (l * l) = mul_at f x x y l y l p p L L x-is x-is in
    let above : T (positive s) = positive_of_value s g l v (lt_of_le_of_lt zero-le G) in
    let room = round_under f (y * y) (l * l) (subst (λ (z : Float). T (finite z)) s-is (positive-finite s above)) in
    let rounded : HasValue s false (grid f (y * y) (l * l)) l =
    subst (λ (z : Float). HasValue z false (grid f (y * y) (l * l)) l) (sym s-is) (round_val f (y * y) (l * l) room) in
    let g-is : g ≡ grid f (y * y) (l * l) = one_value s false g (grid f (y * y) (l * l)) l v rounded in
    let (n, r, root) = correctly_rounded f s (mul-fits f x x) above in
    let n_is : n ≡ grid f (y * y) (l * l) * l =
    one_value s false n (grid f (y * y) (l * l) * l) (l * l) root.number (units_squared f s (grid f (y * y) (l * l)) rounded) in
    let square : RoundedSquare f y n =
    subst (λ (z : ℕ). RoundedSquare f y z) (sym n_is) (rounded_square f y (subst (λ (z : ℕ). hid f < z) g-is G)) in
    let r-is : r ≡ y =
    nearest_is f y n r square (on_grid f x y h x-is) (on_grid f (root_of f s) r root.in_format root.root)
    (root.no_nearer x y h x-is) in
    same_number f (root_of f s) x y l L root.in_format h (subst (λ (z : ℕ). HasValue (root_of f s) false z l) r-is root.root) x-is

-- the square of a zero is not above zero
not_of_zero : (f : Format) (e : ℤ) (g : ℕ) → HasValue (round f false (0 * up e * (0 * up e)) (down e * down e)) false g (2 ^ low f) → 0 < g
    → ⊥
not_of_zero f e g v G =
    let a = 0 * up e * (0 * up e) in
    let c = down e * down e in
    let C : 0 < c = mul-pos (down_pos e) (down_pos e) in
    let s = round f false a c in
    let exact : HasValue s false a c =
    round_exact f false a c 0 0 C (pow_pos (prec f)) (pow_pos (low f + suc (emax f))) (omega arith) in
    let above : 0 < a = value_pos s a c (positive_of_value s g (2 ^ low f) v G) C exact in
    lt_irrefl 0 (first_pos 0 (up e) (first_pos (0 * up e) (0 * up e) above))

-- for any value whose square is finite, g units, and above 2 ^ (prec - 1) of them, the least normal value
pub root_of_square : (f : Format) (x : Float) (g : ℕ) → T (fits f x) → HasValue (mul f x x) false g (2 ^ low f) → hid f < g
    → root_of f (mul f x x) ≡ magnitude_of x
unfolding mul fits magnitude_of
root_of_square f nan g h v G = absurd v
root_of_square f (inf true) g h v G = absurd v
root_of_square f (inf false) g h v G = absurd v
root_of_square f (fin true zero e) g h v G = absurd (not_of_zero f e g v (lt_of_le_of_lt zero-le G))
root_of_square f (fin false zero e) g h v G = absurd (not_of_zero f e g v (lt_of_le_of_lt zero-le G))
root_of_square f (fin true (suc m) e) g h v G = of_positive f (fin false (suc m) e) g h (lt→ltb 0 (suc m) (omega arith)) v G
root_of_square f (fin false (suc m) e) g h v G = of_positive f (fin false (suc m) e) g h (lt→ltb 0 (suc m) (omega arith)) v G

-- ---- f64: a square from 1e-300 to 1e300
abbrev least_square : Float
least_square = of_bits binary64 0x01a5_6e1f_c2f8_f359

abbrev largest_square : Float
largest_square = of_bits binary64 0x7e37_e43c_8800_759c

least_positive : T (positive least_square)
unfolding of_bits
least_positive = tt

largest_positive : T (positive largest_square)
unfolding of_bits
largest_positive = tt

least_normal : hid binary64 * den least_square < num least_square * 2 ^ low binary64
unfolding of_bits
least_normal = lit< tt

pub usual_square : (x : Float) → T (fits binary64 x) → le least_square (x *f x) ≡ true → le (x *f x) largest_square ≡ true
    → magnitude_of x ≡ root_of binary64 (x *f x)
usual_square x h lo hi =
    let s = x *f x in
    let above : T (positive s) = between least_square s largest_square least_positive largest_positive (holds lo) (holds hi) in
    let (g, s-is) = has_units binary64 s (mul-fits binary64 x x) above in
    let at_least : num least_square * 2 ^ low binary64 ≤ g * den least_square =
    values_of_le least_square s (num least_square) (den least_square) g (2 ^ low binary64) least_positive above
    (own_value least_square least_positive) s-is (holds lo) in
    sym (root_of_square binary64 x g h s-is (lt_of_mul-lt-mul_right (den least_square) (lt_of_lt_of_le least_normal at_least)))
