-- The patterns of the positive finite values of binary64: what number each stands for, as a * 4 ^ h / 4 ^ 1074.
use mathlib.Core.Path.{◌≡◌, refl, sym, ap, ◌∙◌, subst}
use Prim.Native.Nat.{ℕ, suc, ◌+◌, ◌-◌, ◌*◌, ◌/◌, ◌%◌, ◌^◌, ◌≤◌, ◌<◌}
use native.Mathlib.Nat.{le_trans, le_of_eq, lt_of_le_of_lt, lt_of_not-le, not-le_of_lt, mod-eq_of_lt, mul-one, mul_assoc, mul_right_comm}
use native.Mathlib.Nat.{mul-le-mul_right, one-mul, pow-succ'}
use native.Mathlib.Numerals.{add-one}
use native.Mathlib.Omega.{arith}
use mathlib.Core.Bool.{Bool, false, cond}
use lib.Dec.{leb, eqb}
use borrow.Author.Tests.{lt-leb, ne_eqb}
use lib.Pow.{pow-add, pow_mono}
use lib.Ieee.{Float, nan, inf, fin, binary64, up, down, odd, of_fields, of_bits}
use lib.Ieee.Exact.{HasValue, odd_sign}
use Rattle.floats.specs.Steps.{Scaling}
use Rattle.floats.proofs.Squares.{sq_lt_back}

abbrev hidden : ℕ
hidden = 0x10_0000_0000_0000

abbrev sign : ℕ
sign = 0x8000_0000_0000_0000

abbrev infinity : ℕ
infinity = 0x7ff0_0000_0000_0000

of_bits_is : (b : ℕ) → of_bits binary64 b ≡ of_fields binary64 (leb sign b) (b % sign / hidden) (b % hidden)
unfolding of_bits
of_bits_is b = refl

positive : (b : ℕ) → b < infinity → of_bits binary64 b ≡ of_fields binary64 false (b / hidden) (b % hidden)
positive b h =
    of_bits_is b
    ∙ ap (λ (s : Bool). of_fields binary64 s (b % sign / hidden) (b % hidden)) (lt-leb sign b (omega arith))
    ∙ ap (λ (x : ℕ). of_fields binary64 false (x / hidden) (b % hidden)) (mod-eq_of_lt {n = b} {m = sign} (omega arith))

at_zero : (t : ℕ) → of_fields binary64 false 0 t ≡ odd 53 false t 0 1074
unfolding of_fields
at_zero t = refl

at_field : (t x : ℕ) → suc x < 2047 → of_fields binary64 false (suc x) t ≡ odd 53 false (hidden + t) x 1074
unfolding of_fields
at_field t x h =
    ap (λ (b : Bool). cond b (cond (eqb t 0) (inf false) nan) (odd 53 false (hidden + t) x 1074)) (ne_eqb (suc x) 2047 (omega arith))

pub small_value : (b : ℕ) → b < hidden → HasValue (of_bits binary64 b) false b (2 ^ 1074)
small_value b h =
    let field : b / hidden ≡ 0 = omega arith in
    let digits : b % hidden ≡ b = omega arith in
    let is : of_bits binary64 b ≡ odd 53 false b 0 1074 =
    positive b (omega arith) ∙ ap (λ (x : ℕ). of_fields binary64 false x (b % hidden)) field
    ∙ ap (λ (t : ℕ). of_fields binary64 false 0 t) digits ∙ at_zero b in
    subst (λ (v : Float). HasValue v false b (2 ^ 1074)) (sym is)
    (subst (λ (n : ℕ). HasValue (odd 53 false b 0 1074) false n (2 ^ 1074)) (mul-one b) (odd_sign 53 false b 0 1074))

pub normal_value : (b : ℕ) → hidden ≤ b → b < infinity
    → HasValue (of_bits binary64 b) false ((hidden + b % hidden) * 2 ^ (b / hidden - 1)) (2 ^ 1074)
normal_value b h k =
    let field : b / hidden ≡ suc (b / hidden - 1) = omega arith in
    let is : of_bits binary64 b ≡ odd 53 false (hidden + b % hidden) (b / hidden - 1) 1074 =
    positive b k ∙ ap (λ (x : ℕ). of_fields binary64 false x (b % hidden)) field ∙ at_field (b % hidden) (b / hidden - 1) (omega arith) in
    subst (λ (v : Float). HasValue v false ((hidden + b % hidden) * 2 ^ (b / hidden - 1)) (2 ^ 1074)) (sym is)
    (odd_sign 53 false (hidden + b % hidden) (b / hidden - 1) 1074)

-- ---- the same value over a larger denominator
rescale : (x : Float) (s : Bool) (w l c : ℕ) → HasValue x s w l → HasValue x s (w * c) (l * c)
rescale nan s w l c v = v
rescale (inf t) s w l c v = v
rescale (fin t m e) s w l c v = (v.0, sym (mul_assoc (m * up e) l c) ∙ ap (λ (z : ℕ). z * c) v.1 ∙ mul_right_comm w (down e) c)

-- over 4 ^ 1074, in terms of any n that is w * 2 ^ 1074
over : (x : Float) (w n : ℕ) → w * 2 ^ 1074 ≡ n → HasValue x false w (2 ^ 1074) → HasValue x false n (2 ^ 1074 * 2 ^ 1074)
over x w n e v = subst (λ (z : ℕ). HasValue x false z (2 ^ 1074 * 2 ^ 1074)) e (rescale x false w (2 ^ 1074) (2 ^ 1074) v)

-- ---- subnormal: a is b times 4 ^ d
pub next_d : (b a d : ℕ) → a ≡ b * (2 ^ d * 2 ^ d) → 4 * a ≡ b * (2 ^ (d + 1) * 2 ^ (d + 1))
next_d b a d e = subst (λ (p : ℕ). 4 * a ≡ b * (p * p)) (sym (ap (λ (k : ℕ). 2 ^ k) (add-one d) ∙ pow-succ' 2 d)) (go (2 ^ d) e)
  where
    go : (p : ℕ) → a ≡ b * (p * p) → 4 * a ≡ b * (2 * p * (2 * p))
    go p e = omega arith

pub few : (b a d : ℕ) → 0 < b → a < 2 ^ 54 → a ≡ b * (2 ^ d * 2 ^ d) → d < 27
few b a d B A e =
    let p : 2 ^ d * 2 ^ d ≤ a =
    le_trans (le_of_eq (sym (one-mul (2 ^ d * 2 ^ d)))) (le_trans (mul-le-mul_right (2 ^ d * 2 ^ d) B) (le_of_eq (sym e))) in
    let q : 2 ^ d < 2 ^ 27 = sq_lt_back (2 ^ d) (2 ^ 27) (lt_of_le_of_lt p A) in
    lt_of_not-le (λ (g : 27 ≤ d). not-le_of_lt q (pow_mono g))

pub small_scaled : (b a d : ℕ) → b < hidden → hidden ≤ a → a < 4 * hidden → d < 27 → a ≡ b * (2 ^ d * 2 ^ d) → Scaling b a (537 - d)
small_scaled b a d B lo hi D e =
    record {
      value = over (of_bits binary64 b) b (a * (2 ^ (537 - d) * 2 ^ (537 - d))) (regroup (2 ^ 537) (2 ^ (537 - d)) (2 ^ d) split e)
          (small_value b B);
      at_least = lo;
      below = hi;
      from = omega arith;
      up_to = omega arith;
    }
  where
    back : 537 ≡ 537 - d + d
    back = omega arith

    split : 2 ^ 537 ≡ 2 ^ (537 - d) * 2 ^ d
    split = ap (λ (k : ℕ). 2 ^ k) back ∙ pow-add 2 (537 - d) d

    regroup : (p u v : ℕ) → p ≡ u * v → a ≡ b * (v * v) → b * (p * p) ≡ a * (u * u)
    regroup p u v f g = ap (λ (z : ℕ). b * (z * z)) f ∙ same u v ∙ ap (λ (z : ℕ). z * (u * u)) (sym g)
      where
        same : (u v : ℕ) → b * (u * v * (u * v)) ≡ b * (v * v) * (u * u)
        same u v = omega arith

-- ---- normal: an even exponent, and an odd one. m stands for the digits, c for 1 or 2, and i for half the exponent
exponent : (m c i j : ℕ) → 2 ^ j ≡ c * (2 ^ i * 2 ^ i) → m * 2 ^ j * (2 ^ 537 * 2 ^ 537) ≡ c * m * (2 ^ (537 + i) * 2 ^ (537 + i))
exponent m c i j e =
    ap (λ (z : ℕ). m * z * (2 ^ 537 * 2 ^ 537)) e ∙ same (2 ^ i) (2 ^ 537) ∙ ap (λ (z : ℕ). c * m * (z * z)) (sym (pow-add 2 537 i))
  where
    same : (s p : ℕ) → m * (c * (s * s)) * (p * p) ≡ c * m * (p * s * (p * s))
    same s p = omega arith

normal_scaled : (b c : ℕ) → hidden ≤ b → b < infinity → 2 ^ (b / hidden - 1) ≡ c * (2 ^ ((b / hidden - 1) / 2) * 2 ^ ((b / hidden - 1) / 2))
    → 0 < c → c ≤ 2
    → Scaling b (c * (hidden + b % hidden)) (537 + (b / hidden - 1) / 2)
normal_scaled b c h k e C D =
    let j = b / hidden - 1 in
    let m = hidden + b % hidden in
    let lo : 1 * m ≤ c * m = mul-le-mul_right m C in
    let hi : c * m ≤ 2 * m = mul-le-mul_right m D in
    record {
      value = over (of_bits binary64 b) (m * 2 ^ j) (c * m * (2 ^ (537 + j / 2) * 2 ^ (537 + j / 2))) (exponent m c (j / 2) j e)
          (normal_value b h k);
      at_least = omega arith;
      below = omega arith;
      from = omega arith;
      up_to = omega arith;
    }

pub even_scaled : (b : ℕ) → hidden ≤ b → b < infinity → (b / hidden - 1) % 2 ≡ 0
    → Scaling b (hidden + b % hidden) (537 + (b / hidden - 1) / 2)
even_scaled b h k e = rw one-mul at (normal_scaled b 1 h k (twice (b / hidden - 1) e) (omega arith) (omega arith))
  where
    twice : (j : ℕ) → j % 2 ≡ 0 → 2 ^ j ≡ 1 * (2 ^ (j / 2) * 2 ^ (j / 2))
    twice j e = ap (λ (k : ℕ). 2 ^ k) halves ∙ pow-add 2 (j / 2) (j / 2) ∙ sym (one-mul (2 ^ (j / 2) * 2 ^ (j / 2)))
      where
        halves : j ≡ j / 2 + j / 2
        halves = omega arith

pub odd_scaled : (b : ℕ) → hidden ≤ b → b < infinity → ((b / hidden - 1) % 2 ≡ 0 → ⊥)
    → Scaling b (2 * (hidden + b % hidden)) (537 + (b / hidden - 1) / 2)
odd_scaled b h k e = normal_scaled b 2 h k (twice (b / hidden - 1) e) (omega arith) (omega arith)
  where
    twice : (j : ℕ) → (j % 2 ≡ 0 → ⊥) → 2 ^ j ≡ 2 * (2 ^ (j / 2) * 2 ^ (j / 2))
    twice j e = ap (λ (k : ℕ). 2 ^ k) halves ∙ pow-succ' 2 (j / 2 + j / 2) ∙ ap (λ (z : ℕ). 2 * z) (pow-add 2 (j / 2) (j / 2))
      where
        halves : j ≡ suc (j / 2 + j / 2)
        halves = omega arith
