-- Pair after pair: after i of the 27 pairs, n moved i pairs up has its digits above the last 54 brought down, and the last 54 are left.
-- So the two facts of the schoolbook are an invariant of the loop, and after 27 pairs they are about n itself.
use mathlib.Core.Path.{◌≡◌, sym, ap, ◌∙◌, subst}
use Prim.Native.Nat.{ℕ, ◌+◌, ◌*◌, ◌/◌, ◌%◌, ◌^◌, ◌≤◌, ◌<◌}
use native.Mathlib.Nat.{lt_of_le_of_lt, le_of_suc-le-suc, zero-lt-suc, mul-le-mul, mul-le-mul_left, mul-lt-mul_of_pos_right}
use native.Mathlib.Nat.{div-lt_iff_lt-mul, pow-succ', pow-le-pow_right}
use native.Mathlib.Numerals.{add-one}
use native.Mathlib.Omega.{arith}
use lib.Dec.{lit<}
use lib.Pow.{pow_pos}
use Rattle.floats.specs.Schoolbook.{Extracted}
use Rattle.floats.proofs.Squares.{root_lt}
use Rattle.floats.proofs.ThreeLaws.{root_so_far}

-- the invariant of `extract`, for the n of which all pairs are to be brought down
pub record Brought (n i root rest left : ℕ) : Type 0 where
  pub so_far : Extracted (n * 4 ^ i / 2 ^ 54) root rest
  pub behind : left ≡ n * 4 ^ i % 2 ^ 54

pub none_yet : (m n root rest : ℕ) → Extracted m root rest → n < 2 ^ 54 → Brought (m * 2 ^ 54 + n) 0 root rest n
none_yet m n root rest e h =
    record { so_far = subst (λ (x : ℕ). Extracted x root rest) (omega arith) e; behind = omega arith }

one_more : (n i : ℕ) → n * 4 ^ (i + 1) ≡ 4 * (n * 4 ^ i)
one_more n i = ap (λ (x : ℕ). n * x) (ap (λ (k : ℕ). 4 ^ k) (add-one i) ∙ pow-succ' 4 i) ∙ same (4 ^ i)
  where
    same : (p : ℕ) → n * (4 * p) ≡ 4 * (n * p)
    same p = omega arith

-- the next pair has come down
pub one_pair : (n i root rest left root' rest' : ℕ) → Brought n i root rest left
    → Extracted (4 * (root * root + rest) + left / 2 ^ 52) root' rest' → Brought n (i + 1) root' rest' (left % 2 ^ 52 * 4)
one_pair n i root rest left root' rest' b e =
    record {
      so_far = subst (λ (x : ℕ). Extracted x root' rest') (down (n * 4 ^ i) b.so_far b.behind ∙ ap (λ (m : ℕ). m / 2 ^ 54) up) e;
      behind = left_is (n * 4 ^ i) b.behind ∙ ap (λ (m : ℕ). m % 2 ^ 54) up;
    }
  where
    up : 4 * (n * 4 ^ i) ≡ n * 4 ^ (i + 1)
    up = sym (one_more n i)

    down : (m : ℕ) → Extracted (m / 2 ^ 54) root rest → left ≡ m % 2 ^ 54 → 4 * (root * root + rest) + left / 2 ^ 52 ≡ 4 * m / 2 ^ 54
    down m s l = omega arith

    left_is : (m : ℕ) → left ≡ m % 2 ^ 54 → left % 2 ^ 52 * 4 ≡ 4 * m % 2 ^ 54
    left_is m l = omega arith

-- ---- the root so far and what is left fit their words
left_lt : (m left : ℕ) → left ≡ m % 2 ^ 54 → left < 2 ^ 54
left_lt m left l = omega arith

pub in_words : (n i root rest left : ℕ) → n < 2 ^ 54 * 2 ^ 54 → i < 27 → Brought n i root rest left → (root < 2 ^ 53) × (left < 2 ^ 54)
in_words n i root rest left N I b =
    let few : 4 ^ i ≤ 4 ^ 26 = pow-le-pow_right (zero-lt-suc 3) (le_of_suc-le-suc I) in
    let all : n * 4 ^ i < 2 ^ 106 * 2 ^ 54 = lt_of_le_of_lt (mul-le-mul_left n few) (mul-lt-mul_of_pos_right N (lit< tt)) in
    let brought = n * 4 ^ i / 2 ^ 54 in
    let down : brought < 2 ^ 53 * 2 ^ 53 = (div-lt_iff_lt-mul (pow_pos 54)).1 all in
    (root_lt brought root (2 ^ 53) (root_so_far brought root rest b.so_far) down, left_lt (n * 4 ^ i) left b.behind)

pub all_down : (n root rest left : ℕ) → Brought n 27 root rest left → Extracted n root rest
all_down n root rest left b = subst (λ (x : ℕ). Extracted x root rest) (omega arith) b.so_far

-- with 27 digits of a root and 54 digits behind, all that is brought down has at most 108 digits
pub all_small : (root rest n : ℕ) → root < 2 ^ 27 → rest ≤ 2 * root → n < 2 ^ 54 → (root * root + rest) * 2 ^ 54 + n < 2 ^ 54 * 2 ^ 54
all_small root rest n R T N =
    let next : root + 1 ≤ 2 ^ 27 = omega arith in
    let squared : (root + 1) * (root + 1) ≤ 2 ^ 27 * 2 ^ 27 = mul-le-mul next next in
    below (root * root + rest) (omega arith)
  where
    below : (m : ℕ) → m < 2 ^ 54 → m * 2 ^ 54 + n < 2 ^ 54 * 2 ^ 54
    below m h = omega arith
