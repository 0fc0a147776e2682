-- The whole root of a number, as `floor_root` computes it, and how squares decide where a root lies. Nothing here is about floats.
use mathlib.Core.Path.{◌≡◌, refl, sym, ap, ◌∙◌, subst}
use Prim.Native.Nat.{ℕ, zero, suc, ◌+◌, ◌*◌, ◌/◌, ◌^◌, ◌≤◌, ◌<◌, compare, Ordering}
use native.Mathlib.Nat.{le_trans, le_of_eq, le_antisymm, lt_of_lt_of_le, lt_of_le_of_lt, lt_of_not-le, not-le_of_lt, mul-le-mul}
use native.Mathlib.Nat.{mul-le-mul_right, mul-lt-mul_of_pos_right, div-lt_iff_lt-mul, zero-lt-suc, pow-suc}
use native.Mathlib.Numerals.{add-one}
use native.Mathlib.Decide.{dec_le}
use native.Mathlib.Omega.{arith}
use mathlib.Core.Bool.{Bool, true, false, not, cond}
use lib.Dec.{T, leb, is_le, compare_is_eq, eqb, leb→le, nleb→lt, eqb→eq, eqb_refl}
use lib.Ieee.{size}
use lib.Ieee.Digits.{size-lt}
use Rattle.floats.specs.Root.{WholeRoot, raised, root_of_pairs, floor_root}

-- ---- `floor_root` gives the whole root
raised_is : (n r : ℕ) → r * r ≤ n → n < (r + 2) * (r + 2) → WholeRoot n (raised n r)
raised_is n r lo hi = go (leb ((r + 1) * (r + 1)) n) (leb→le ((r + 1) * (r + 1)) n) (nleb→lt ((r + 1) * (r + 1)) n)
  where
    go : (b : Bool) → (T b → (r + 1) * (r + 1) ≤ n) → (T (not b) → n < (r + 1) * (r + 1)) → WholeRoot n (cond b (r + 1) r)
    go true h k = record { reached = h tt; not_passed = omega arith }
    go false h k = record { reached = lo; not_passed = k tt }

quarter : (d n : ℕ) → n < 4 ^ suc d → n / 4 < 4 ^ d
quarter d n h = (div-lt_iff_lt-mul (zero-lt-suc 3)).1 (lt_of_lt_of_le h (le_of_eq (pow-suc 4 d)))

double : (n s : ℕ) → WholeRoot (n / 4) s → ((2 * s) * (2 * s) ≤ n) × (n < (2 * s + 2) * (2 * s + 2))
double n s h = omega arith

root_of_pairs_lem : (d n : ℕ) → n < 4 ^ d → WholeRoot n (root_of_pairs d n)
unfolding root_of_pairs
root_of_pairs_lem zero n h = record { reached = omega arith; not_passed = omega arith }
root_of_pairs_lem (suc d) n h =
    let k = double n (root_of_pairs d (n / 4)) (root_of_pairs_lem d (n / 4) (quarter d n h)) in
    raised_is n (2 * root_of_pairs d (n / 4)) k.0 k.1

two_le_four : (d : ℕ) → 2 ^ d ≤ 4 ^ d
two_le_four zero = omega arith
two_le_four (suc d) =
    le_trans (le_of_eq (pow-suc 2 d)) (le_trans (step (2 ^ d) (4 ^ d) (two_le_four d)) (le_of_eq (sym (pow-suc 4 d))))
  where
    step : (a b : ℕ) → a ≤ b → a * 2 ≤ b * 4
    step a b h = omega arith

pub floor_root_lem : (n : ℕ) → WholeRoot n (floor_root n)
unfolding floor_root
floor_root_lem n = root_of_pairs_lem (size n) n (lt_of_lt_of_le (size-lt n) (two_le_four (size n)))

-- ---- squares are in the order of their roots
pub sq_lt_back : (a b : ℕ) → a * a < b * b → a < b
sq_lt_back a b h = lt_of_not-le (λ (g : b ≤ a). not-le_of_lt h (mul-le-mul g g))

-- n, between the squares of a and b, has its whole root between a and b
pub root_ge : (n w a : ℕ) → WholeRoot n w → a * a ≤ n → a ≤ w
root_ge n w a h l = let k : a < w + 1 = sq_lt_back a (w + 1) (lt_of_le_of_lt l h.not_passed) in omega arith

pub root_lt : (n w b : ℕ) → WholeRoot n w → n < b * b → w < b
root_lt n w b h l = sq_lt_back w b (lt_of_le_of_lt h.reached l)

-- a number has one whole root
pub one_whole_root : (n r s : ℕ) → WholeRoot n r → WholeRoot n s → r ≡ s
one_whole_root n r s g h = le_antisymm (root_ge n s r h g.reached) (root_ge n r s g h.reached)

-- ---- with 4 * n = m * s * s + l, l less than s * s, and root the whole root of m: half of root, times s, is at most the root of n, and
-- one more than that half, times s, is above it
pub half_under : (n m root s l : ℕ) → WholeRoot m root → 4 * n ≡ m * (s * s) + l → root / 2 * s * (root / 2 * s) ≤ n
half_under n m root s l w e = go (root / 2) (omega arith)
  where
    go : (q : ℕ) → 2 * q ≤ root → q * s * (q * s) ≤ n
    go q h =
        let a : 2 * q * (2 * q) ≤ m = le_trans (mul-le-mul h h) w.reached in
        let b : 2 * q * (2 * q) * (s * s) ≤ m * (s * s) = mul-le-mul_right (s * s) a in
        omega arith

pub half_over : (n m root s l : ℕ) → l < s * s → WholeRoot m root → 4 * n ≡ m * (s * s) + l
    → n < (root / 2 + 1) * s * ((root / 2 + 1) * s)
half_over n m root s l L w e = go (root / 2) (omega arith)
  where
    go : (q : ℕ) → root + 1 ≤ 2 * q + 2 → n < (q + 1) * s * ((q + 1) * s)
    go q h =
        let a : m + 1 ≤ (2 * q + 2) * (2 * q + 2) = le_trans (le_of_eq (add-one m)) (lt_of_lt_of_le w.not_passed (mul-le-mul h h)) in
        let b : (m + 1) * (s * s) ≤ (2 * q + 2) * (2 * q + 2) * (s * s) = mul-le-mul_right (s * s) a in
        omega arith

-- ---- what `compare` gives
pub compare_lt : (a b : ℕ) → a < b → compare a b ≡ Ordering.lt
compare_lt a b h = go (compare a b) (nleb→lt a b) (eqb→eq a b)
  where
    not_above : b < a → ⊥
    not_above k = omega arith

    not_same : a ≡ b → ⊥
    not_same k = omega arith

    go : (o : Ordering) → (T (not (is_le o)) → b < a) → (T (compare_is_eq o) → a ≡ b) → o ≡ Ordering.lt
    go Ordering.lt k e = refl
    go Ordering.eq k e = absurd (not_same (e tt))
    go Ordering.gt k e = absurd (not_above (k tt))

pub compare_gt : (a b : ℕ) → b < a → compare a b ≡ Ordering.gt
compare_gt a b h = go (compare a b) (leb→le a b)
  where
    not_le : a ≤ b → ⊥
    not_le k = omega arith

    go : (o : Ordering) → (T (is_le o) → a ≤ b) → o ≡ Ordering.gt
    go Ordering.lt k = absurd (not_le (k tt))
    go Ordering.eq k = absurd (not_le (k tt))
    go Ordering.gt k = refl

pub compare_same : (a b : ℕ) → a ≡ b → compare a b ≡ Ordering.eq
compare_same a b e = go (compare a b) (subst (λ (x : ℕ). T (eqb a x)) e (eqb_refl a))
  where
    go : (o : Ordering) → T (compare_is_eq o) → o ≡ Ordering.eq
    go Ordering.lt k = absurd k
    go Ordering.eq k = refl
    go Ordering.gt k = absurd k

-- both sides times the same
pub compare_times : (a b c : ℕ) → 0 < c → compare (a * c) (b * c) ≡ compare a b
compare_times a b c C = go (dec_le a b) (dec_le b a)
  where
    go : Dec (a ≤ b) → Dec (b ≤ a) → compare (a * c) (b * c) ≡ compare a b
    go (yes h) (yes k) =
        let e : a ≡ b = le_antisymm h k in
        compare_same (a * c) (b * c) (ap (λ (x : ℕ). x * c) e) ∙ sym (compare_same a b e)
    go (yes h) (no k) =
        let l : a < b = lt_of_not-le k in
        compare_lt (a * c) (b * c) (mul-lt-mul_of_pos_right l C) ∙ sym (compare_lt a b l)
    go (no h) k =
        let l : b < a = lt_of_not-le h in
        compare_gt (a * c) (b * c) (mul-lt-mul_of_pos_right l C) ∙ sym (compare_gt a b l)
