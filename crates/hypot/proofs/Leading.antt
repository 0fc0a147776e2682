-- The digits of the root of a sum of squares in two limbs are the leading digits that `Leading` (specs/Steps.antt) speaks of: those of the
-- limbs as they are, or, where the sum has more than 108 digits, of the limbs with two digits fewer.
use mathlib.Core.Path.{◌≡◌, ap, ◌∙◌}
use Prim.Native.Nat.{ℕ, ◌+◌, ◌*◌, ◌/◌, ◌%◌, ◌^◌, ◌≤◌, ◌<◌}
use native.Mathlib.Nat.{lt_of_le_of_lt, lt_of_mul-lt-mul_right, mul-le-mul, mul-le-mul_right, mod-lt, add-zero, pow-succ'}
use native.Mathlib.Numerals.{add-one}
use native.Mathlib.Omega.{arith}
use lib.Dec.{lit<}
use Rattle.floats.specs.Schoolbook.{Extracted}
use Rattle.floats.proofs.Squares.{root_ge, root_lt}
use Rattle.floats.proofs.ThreeLaws.{root_so_far}
use Rattle.hypot.specs.Steps.{SumOfSquares, Leading}
use Rattle.hypot.proofs.Limbs.{two_fewer}

module _ (a b s high low lost root rest : ℕ) (sum : SumOfSquares a b s high low lost) where
  -- where a has 53 digits, the sum has 107 at least
  large : 2 ^ 52 ≤ a → 2 ^ 53 * 2 ^ 53 ≤ high * 2 ^ 54 + low
  large h = go (high * 2 ^ 54 + low) (2 ^ s * 2 ^ s) sum.parts sum.lost_below
    where
      go : (m z : ℕ) → m * z + lost ≡ 4 * (a * a * z + b * b) → lost < z → 2 ^ 53 * 2 ^ 53 ≤ m
      go m z e l =
          let squared : 2 ^ 52 * 2 ^ 52 * z ≤ a * a * z = mul-le-mul_right z (mul-le-mul h h) in
          let four : 2 ^ 53 * 2 ^ 53 * z ≤ 4 * (a * a * z) = omega arith in
          let room : 4 * (a * a * z) < (m + 1) * z = less (a * a * z) e in
          let below : 2 ^ 53 * 2 ^ 53 < m + 1 = lt_of_mul-lt-mul_right z (lt_of_le_of_lt four room) in
          omega arith
        where
          less : (x : ℕ) → m * z + lost ≡ 4 * (x + b * b) → 4 * x < (m + 1) * z
          less x e = omega arith

  pub as_they_are : high < 2 ^ 54 → Extracted (high * 2 ^ 54 + low) root rest → Leading a b s root rest lost 0
  as_they_are H e =
      let whole = root_so_far (high * 2 ^ 54 + low) root rest e in
      let power : 2 ^ (s + 0) * 2 ^ (s + 0) ≡ 2 ^ s * 2 ^ s = ap (λ (x : ℕ). 2 ^ x * 2 ^ x) (add-zero s) in
      record {
        parts = rw power (ap (λ (x : ℕ). x * (2 ^ s * 2 ^ s) + lost) e.parts ∙ sum.parts);
        small = e.small;
        lost_below = rw power sum.lost_below;
        below = root_lt (high * 2 ^ 54 + low) root (2 ^ 54) whole (omega (arith, sum.low_below));
        at_most_one = omega arith;
        full_moved = λ h. absurd (omega arith);
        full = λ h. root_ge (high * 2 ^ 54 + low) root (2 ^ 53) whole (large h);
      }

  pub two_digits_fewer : 2 ^ 54 ≤ high → Extracted (high / 4 * 2 ^ 54 + (high % 4 * 2 ^ 52 + low / 4)) root rest
      → Leading a b s root rest (low % 4 * (2 ^ s * 2 ^ s) + lost) 1
  two_digits_fewer H e =
      let m = high / 4 * 2 ^ 54 + (high % 4 * 2 ^ 52 + low / 4) in
      let whole = root_so_far m root rest e in
      let power : 2 ^ (s + 1) * 2 ^ (s + 1) ≡ 4 * (2 ^ s * 2 ^ s) =
      ap (λ (x : ℕ). 2 ^ x * 2 ^ x) (add-one s) ∙ ap (λ (x : ℕ). x * x) (pow-succ' 2 s) ∙ fours (2 ^ s) in
      let at_least : 2 ^ 53 ≤ root = root_ge m root (2 ^ 53) whole (omega arith) in
      record {
        parts = rw power (ap (λ (x : ℕ). x * (4 * (2 ^ s * 2 ^ s)) + (low % 4 * (2 ^ s * 2 ^ s) + lost)) e.parts
            ∙ two_fewer high low (2 ^ s * 2 ^ s) lost (4 * (a * a * (2 ^ s * 2 ^ s) + b * b)) sum.parts);
        small = e.small;
        lost_below = rw power (less (low % 4) (2 ^ s * 2 ^ s) (mod-lt low (lit< tt)) sum.lost_below);
        below = root_lt m root (2 ^ 54) whole (omega (arith, sum.high_below, sum.low_below));
        at_most_one = omega arith;
        full_moved = λ _. at_least;
        full = λ _. at_least;
      }
    where
      fours : (p : ℕ) → 2 * p * (2 * p) ≡ 4 * (p * p)
      fours p = omega arith

      less : (x z : ℕ) → x < 4 → lost < z → x * z + lost < 4 * z
      less x z h l =
          let three : x ≤ 3 = omega arith in
          let k : x * z ≤ 3 * z = mul-le-mul_right z three in
          omega arith
