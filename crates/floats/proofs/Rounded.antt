-- Of a number that is m * 4 ^ k / 4 units squared `root_of` gives the whole root of m, its last digit rounded off, times 2 ^ k units, since
-- both compare with the same mid-point (`root_rounded`). `round_root_is` says it of `round_root`, where something is behind m * 4 ^ k too,
-- and for subnormal roots.
use mathlib.Core.Path.{◌≡◌, refl, sym, ap, ◌∙◌, subst}
use Prim.Native.Nat.{ℕ, zero, suc, ◌+◌, ◌-◌, ◌*◌, ◌/◌, ◌%◌, ◌^◌, ◌≤◌, ◌<◌, compare}
use native.Mathlib.Nat.{le_trans, le_of_eq, lt_of_lt_of_le, lt_of_not-le, not-le_of_lt, mul-le-mul, mul-le-mul_right, mul-pos}
use native.Mathlib.Nat.{div-eq_of_lt-le, mul-div_cancel, zero-mul, zero-lt-suc, mul-one, add-zero, lt_irrefl}
use native.Mathlib.Decide.{ℕ_discrete}
use native.Mathlib.Omega.{arith}
use mathlib.Core.Bool.{Bool, true, false, cond, true≢false}
use lib.IntN.{ℤ}
use lib.Pow.{pow-add, pow_pos, pow_mono}
use borrow.Author.Tests.{ne_eqb}
use lib.Ieee.{Float, nan, inf, fin, Format, prec, low, up, down, size, nearest, units}
use lib.Ieee.Digits.{size-lt, size-le, size_reaches}
use lib.Ieee.Fits.{two, two-le_pos, down_pos}
use lib.Ieee.Exact.{HasValue}
use Rattle.floats.specs.Root.{WholeRoot, floor_root, round_root, root_of}
use Rattle.floats.specs.Schoolbook.{rounded_off}
use Rattle.floats.proofs.Squares.{floor_root_lem, root_ge, root_lt, half_under, half_over, compare_lt, compare_gt, compare_same}
use Rattle.floats.proofs.Squares.{compare_times}
use Rattle.floats.proofs.ThreeLaws.{rounded_by}

-- ---- a number's digits
pub size_gt : (n j : ℕ) → 2 ^ j ≤ n → j < size n
size_gt n j h = lt_of_not-le (λ (g : size n ≤ j). not-le_of_lt (lt_of_lt_of_le (size-lt n) (pow_mono g)) h)

-- a number of p digits or more is at least 2 ^ (p - 1) times what the last of the p counts
pub leading : (p w : ℕ) → 0 < p → p ≤ size w → 2 ^ (p - 1) * 2 ^ (size w - p) ≤ w
leading p w P h =
    le_trans (le_of_eq (sym (pow-add 2 (p - 1) (size w - p)))) (size_reaches w (p - 1 + (size w - p)) (last (size w) h))
  where
    last : (z : ℕ) → p ≤ z → p - 1 + (z - p) < z
    last z g = omega arith

join : (p k z : ℕ) → 0 < p → z ≤ p + k → p - 1 + k < z → z - p ≡ k
join p k z P a b = omega arith

-- a number from 2 ^ (p - 1 + k) up and below 2 ^ (p + k) has k digits more than p
pub drops : (p k w : ℕ) → 0 < p → 2 ^ (p - 1) * 2 ^ k ≤ w → w < 2 ^ p * 2 ^ k → size w - p ≡ k
drops p k w P lo hi =
    join p k (size w) P
    (size-le w (p + k) (lt_of_lt_of_le hi (le_of_eq (sym (pow-add 2 p k)))))
    (size_gt w (p - 1 + k) (le_trans (le_of_eq (pow-add 2 (p - 1) k)) lo))

-- ---- `round_root`, from its whole part w on, and from the digits that are kept and dropped on
abbrev pub from_digits : Format → ℕ → ℕ → ℕ → ℕ → Float
from_digits f n den k q = units f false (nearest q (compare (4 * n) ((2 * q + 1) * 2 ^ k * ((2 * q + 1) * 2 ^ k) * den))) k

abbrev from_whole : Format → ℕ → ℕ → ℕ → Float
from_whole f n den w = from_digits f n den (size w - prec f) (w / 2 ^ (size w - prec f))

pub from_whole_lem : (f : Format) (num den n : ℕ) → 0 < den → num * (2 ^ low f * 2 ^ low f) ≡ n * den
    → round_root f num den ≡ from_whole f (num * (2 ^ low f * 2 ^ low f)) den (floor_root n)
unfolding round_root
from_whole_lem f num den n D e =
    ap (λ (x : ℕ). from_whole f (num * (2 ^ low f * 2 ^ low f)) den (floor_root x)) (ap (λ (x : ℕ). x / den) e ∙ mul-div_cancel n D)

-- a number below 2 ^ (p + k) has k digits more than p, or no more than p where k is 0
drops_or_none : (p k w : ℕ) → 0 < p → (0 < k → 2 ^ (p - 1) * 2 ^ k ≤ w) → w < 2 ^ p * 2 ^ k → size w - p ≡ k
drops_or_none p zero w P lo hi = let few : size w ≤ p = size-le w p (lt_of_lt_of_le hi (le_of_eq (mul-one (2 ^ p)))) in omega arith
drops_or_none p (suc k) w P lo hi = drops p (suc k) w P (lo (zero-lt-suc k)) hi

-- m' stands for m with l behind it, as far as rounding asks: it has the same whole root, and is the square of that root exactly where m is
-- and nothing is behind
pub record StandsFor (root m l m' : ℕ) : Type 0 where
  pub whole : WholeRoot m' root
  pub exact : m' ≡ root * root → (m ≡ root * root) × (l ≡ 0)
  pub only : m ≡ root * root → l ≡ 0 → m' ≡ root * root

nothing_behind : (m root : ℕ) → WholeRoot m root → StandsFor root m 0 m
nothing_behind m root w = record { whole = w; exact = λ e. (e, refl); only = λ e _. e }

-- 4 * n is m * 4 ^ k, and l behind that; root is the whole root of m, with one digit more than the format keeps, or with fewer and k is 0
module _ (f : Format) (num den n m l k root : ℕ) (D : 0 < den) (e : num * (2 ^ low f * 2 ^ low f) ≡ n * den)
    (g : 4 * n ≡ m * (2 ^ k * 2 ^ k) + l) (L : l < 2 ^ k * 2 ^ k) (w : WholeRoot m root) (lo : 0 < k → 2 * 2 ^ (prec f - 1) ≤ root)
    (hi : root < 2 * 2 ^ prec f) where
  lo_half : 0 < k → 2 ^ (prec f - 1) ≤ root / 2
  lo_half z = half (2 ^ (prec f - 1)) (lo z)
    where
      half : (h : ℕ) → 2 * h ≤ root → h ≤ root / 2
      half h l = omega arith

  hi_half : root / 2 + 1 ≤ 2 ^ prec f
  hi_half = half (2 ^ prec f) hi
    where
      half : (h : ℕ) → root < 2 * h → root / 2 + 1 ≤ h
      half h l = omega arith

  at_digits : round_root f num den ≡ from_digits f (num * (2 ^ low f * 2 ^ low f)) den k (root / 2)
  at_digits =
      let n-den = num * (2 ^ low f * 2 ^ low f) in
      let whole = floor_root n in
      let a : root / 2 * 2 ^ k ≤ whole = root_ge n whole (root / 2 * 2 ^ k) (floor_root_lem n) (half_under n m root (2 ^ k) l w g) in
      let b : whole < (root / 2 + 1) * 2 ^ k =
      root_lt n whole ((root / 2 + 1) * 2 ^ k) (floor_root_lem n) (half_over n m root (2 ^ k) l L w g) in
      let d : size whole - prec f ≡ k =
      drops_or_none (prec f) k whole (two-le_pos (prec f) (two f)) (λ z. le_trans (mul-le-mul_right (2 ^ k) (lo_half z)) a)
      (lt_of_lt_of_le b (mul-le-mul_right (2 ^ k) hi_half)) in
      from_whole_lem f num den n D e
      ∙ ap (λ (x : ℕ). from_digits f n-den den x (whole / 2 ^ x)) d
      ∙ ap (λ (x : ℕ). from_digits f n-den den k x) (div-eq_of_lt-le (2 ^ k) a b)

  -- `round_root` compares 4 * n with the square of 2 * (root / 2) + 1, times 4 ^ k. That is root, where root is odd, and root + 1 where it
  -- is even; and 4 * n lies from the square of root on, and below that of root + 1.
  module _ (m' : ℕ) (s : StandsFor root m l m') where
    abbrev middle : ℕ
    middle = 2 * (root / 2) + 1

    same_side_lem : (S : ℕ) → l < S → compare (m * S + l) (middle * middle * S) ≡ compare m' (middle * middle)
    same_side_lem S K = go (ℕ_discrete (root % 2) 0)
      where
        go : Dec (root % 2 ≡ 0) → compare (m * S + l) (middle * middle * S) ≡ compare m' (middle * middle)
        go (yes even) =
            let mid : root + 1 ≡ middle = omega arith in
            let a : m + 1 ≤ middle * middle = subst (λ (x : ℕ). m + 1 ≤ x * x) mid (omega (arith, w.not_passed)) in
            let b : (m + 1) * S ≤ middle * middle * S = mul-le-mul_right S a in
            let c : m' < middle * middle = subst (λ (x : ℕ). m' < x * x) mid s.whole.not_passed in
            compare_lt (m * S + l) (middle * middle * S) (omega arith) ∙ sym (compare_lt m' (middle * middle) c)
        go (no odd) =
            let mid : root ≡ middle = omega arith in
            subst (λ (x : ℕ). compare (m * S + l) (x * x * S) ≡ compare m' (x * x)) mid
            (against_root (ℕ_discrete m (root * root)) (ℕ_discrete l 0))
          where
            above : (m' ≡ root * root → ⊥) → root * root < m'
            above ne = omega (arith, s.whole.reached)

            against_root : Dec (m ≡ root * root) → Dec (l ≡ 0) → compare (m * S + l) (root * root * S) ≡ compare m' (root * root)
            against_root (yes a) (yes b) =
                compare_same (m * S + l) (root * root * S) (rw (a, b) (omega arith)) ∙ sym (compare_same m' (root * root) (s.only a b))
            against_root (yes a) (no b) =
                compare_gt (m * S + l) (root * root * S) (rw a (omega arith))
                ∙ sym (compare_gt m' (root * root) (above (λ c. b (s.exact c).1)))
            against_root (no a) d =
                let more : root * root + 1 ≤ m = omega (arith, w.reached) in
                let b : (root * root + 1) * S ≤ m * S = mul-le-mul_right S more in
                compare_gt (m * S + l) (root * root * S) (omega arith)
                ∙ sym (compare_gt m' (root * root) (above (λ c. a (s.exact c).0)))

    side : compare (4 * (num * (2 ^ low f * 2 ^ low f))) (middle * 2 ^ k * (middle * 2 ^ k) * den) ≡ compare m' (middle * middle)
    side =
        rw (ap (λ (x : ℕ). 4 * x) e ∙ n_is (2 ^ k) g, middle_is (2 ^ k))
        (compare_times (m * (2 ^ k * 2 ^ k) + l) (middle * middle * (2 ^ k * 2 ^ k)) den D)
        ∙ same_side_lem (2 ^ k * 2 ^ k) L
      where
        n_is : (s : ℕ) → 4 * n ≡ m * (s * s) + l → 4 * (n * den) ≡ (m * (s * s) + l) * den
        n_is s g = let a : 4 * n * den ≡ (m * (s * s) + l) * den = ap (λ (x : ℕ). x * den) g in omega arith

        middle_is : (s : ℕ) → middle * s * (middle * s) * den ≡ middle * middle * (s * s) * den
        middle_is s = omega arith

    pub round_root_is : round_root f num den ≡ units f false (rounded_off m') k
    round_root_is =
        at_digits
        ∙ ap (λ (q : ℕ). units f false q k) (ap (nearest (root / 2)) side ∙ sym (rounded_by m' root s.whole))

-- ---- `root_of` of a value above zero
pub not_zero : (m : ℕ) (e : ℤ) (c n : ℕ) → 0 < n → m * up e * c ≡ n * down e → m ≡ 0 → ⊥
not_zero m e c n N h z =
    lt_irrefl 0 (subst (λ (x : ℕ). 0 < x) (sym h ∙ ap (λ (y : ℕ). y * up e * c) z ∙ ap (λ (y : ℕ). y * c) (zero-mul (up e)) ∙ zero-mul c)
    (mul-pos N (down_pos e)))

-- x is n units squared, so that its root is that of n, in units
abbrev pub InUnitsSquared : Format → Float → ℕ → Type 0
InUnitsSquared f x n = HasValue x false n (2 ^ low f * 2 ^ low f)

-- it is then a fraction whose root `round_root` takes
pub opened : (f : Format) (x : Float) (n : ℕ) → InUnitsSquared f x n → 0 < n
    → (num : ℕ) × (den : ℕ) × (0 < den) × (num * (2 ^ low f * 2 ^ low f) ≡ n * den) × (root_of f x ≡ round_root f num den)
unfolding root_of
opened f nan n v N = absurd v
opened f (inf s) n v N = absurd v
opened f (fin true m e) n v N = absurd (true≢false v.0)
opened f (fin false m e) n v N = (
  m * up e,
  down e,
  down_pos e,
  v.1,
  ap (λ (b : Bool). cond b (fin false m e) (round_root f (m * up e) (down e)))
      (ne_eqb m 0 (not_zero m e (2 ^ low f * 2 ^ low f) n N v.1)),
)

above_zero : (n m root s : ℕ) → 0 < root → 0 < s → root * root ≤ m → 4 * n ≡ m * (s * s) → 0 < n
above_zero n m root s R S h g =
    let a : 1 * 1 * (1 * 1) ≤ m * (s * s) = mul-le-mul (le_trans (mul-le-mul R R) h) (mul-le-mul S S) in
    omega arith

-- the root, from the whole root of a number with one digit more than the format keeps: that digit is rounded off
pub root_rounded : (f : Format) (x : Float) (n m k root : ℕ) → InUnitsSquared f x n → 4 * n ≡ m * (2 ^ k * 2 ^ k) → WholeRoot m root
    → 2 * 2 ^ (prec f - 1) ≤ root → root < 2 * 2 ^ prec f → root_of f x ≡ units f false (rounded_off m) k
root_rounded f x n m k root v g w lo hi =
    let some : 0 < root = lt_of_lt_of_le (mul-pos (omega arith) (pow_pos (prec f - 1))) lo in
    let o = opened f x n v (above_zero n m root (2 ^ k) some (pow_pos k) w.reached g) in
    let g' = g ∙ sym (add-zero (m * (2 ^ k * 2 ^ k))) in
    o.4
    ∙ round_root_is f o.0 o.1 n m 0 k root o.2 o.3 g' (mul-pos (pow_pos k) (pow_pos k)) w (λ _. lo) hi m
    (nothing_behind m root w)
