-- The steps of `length_pattern`, put together: p stands for a * 2 ^ e units and q, at most p, for b * 2 ^ d units. Twice the exact length
-- is the root of four times the exact sum, of which `Leading` has the first 54 digits; with the last one rounded off they are those of the
-- rounded length. Where q is too small to count, they are the digits of a and a 0.
use mathlib.Core.Path.{◌≡◌, refl, sym, ap, ◌∙◌, subst}
use mathlib.Core.Bool.{false}
use Prim.Native.Nat.{ℕ, ◌+◌, ◌-◌, ◌*◌, ◌/◌, ◌%◌, ◌^◌, ◌≤◌, ◌<◌}
use native.Mathlib.Nat.{le_trans, le_of_eq, lt_of_lt_of_le, lt_of_not-le, mul-le-mul, mul-le-mul_right, mul-le-mul_left}
use native.Mathlib.Nat.{mul-lt-mul_of_pos_right, mul-pos, zero-mul, add-zero, div-add-mod, mod-lt, mod-eq_of_lt, div-le_of_le-mul, mul-one}
use native.Mathlib.Decide.{dec_le, ℕ_discrete}
use native.Mathlib.Omega.{arith}
use lib.Dec.{lit<}
use borrow.Author.Tests.{eq-eqb, ne_eqb, lt-ltb, le-ltb}
use lib.Pow.{pow-add, pow_pos, pow_mono}
use lib.Ieee.Exact.{HasValue}
use lib.Ieee.{binary64, units, of_bits}
use Rattle.floats.specs.Root.{WholeRoot}
use Rattle.floats.specs.Schoolbook.{rounded_off}
use Rattle.floats.proofs.ThreeLaws.{at_hand, root_so_far, last_digit}
use Rattle.floats.proofs.Rounded.{StandsFor, round_root_is}
use Rattle.floats.proofs.Reading.{small_value, normal_value}
use Rattle.floats.proofs.Steps.{rounded_size}
use Rattle.hypot.specs.Hypot.{hypot_of}
use Rattle.hypot.specs.Steps.{InUnits, Leading, marked, LengthPattern}
use Rattle.hypot.proofs.Sum.{hypot_of_units}
use Rattle.hypot.proofs.Packing.{PatternOf, pattern_in}

-- ---- a pattern in units
pub subnormal : (b : ℕ) → b < 2 ^ 52 → InUnits b b 0
subnormal b h =
    record {
      value = subst (λ (n : ℕ). HasValue (of_bits binary64 b) false n (2 ^ 1074)) (sym (mul-one b)) (small_value b h);
      pattern = omega arith;
      below = omega arith;
      full = λ h. absurd (omega arith);
      up_to = omega arith;
    }

pub normal : (b : ℕ) → 2 ^ 52 ≤ b → b < 0x7ff0_0000_0000_0000 → InUnits b (2 ^ 52 + b % 2 ^ 52) (b / 2 ^ 52 - 1)
normal b h k =
    record {
      value = normal_value b h k;
      pattern = omega arith;
      below = omega arith;
      full = λ h. omega arith;
      up_to = omega arith;
    }

-- ---- the remainder with what is lost
pub marked_one : (rest lost : ℕ) → rest ≡ 0 → 0 < lost → 1 ≡ marked rest lost
marked_one rest lost e h = sym (rw (eq-eqb rest 0 e, lt-ltb 0 lost h))

pub marked_none : (rest lost : ℕ) → rest ≡ 0 → lost ≤ 0 → rest ≡ marked rest lost
marked_none rest lost e h = sym (rw (eq-eqb rest 0 e, le-ltb 0 lost h))

pub marked_some : (rest lost : ℕ) → (rest ≡ 0 → ⊥) → rest ≡ marked rest lost
marked_some rest lost h = sym (rw (ne_eqb rest 0 h))

-- it is 0 only where nothing remains and nothing is lost, and it is no larger than a remainder may be
module _ (root rest lost : ℕ) (T : rest ≤ 2 * root) (R : 0 < lost → 0 < root) where
  pub marked_small : marked rest lost ≤ 2 * root
  marked_small = go (ℕ_discrete rest 0) (dec_le lost 0)
    where
      go : Dec (rest ≡ 0) → Dec (lost ≤ 0) → marked rest lost ≤ 2 * root
      go (yes e) (yes l) = rw (← marked_none rest lost e l) T
      go (yes e) (no l) = let some : 0 < root = R (lt_of_not-le l) in rw (← marked_one rest lost e (lt_of_not-le l)) (omega arith)
      go (no e) l = rw (← marked_some rest lost e) T

  marked_zero : marked rest lost ≡ 0 → (rest ≡ 0) × (lost ≡ 0)
  marked_zero = go (ℕ_discrete rest 0) (dec_le lost 0)
    where
      go : Dec (rest ≡ 0) → Dec (lost ≤ 0) → marked rest lost ≡ 0 → (rest ≡ 0) × (lost ≡ 0)
      go (yes e) (yes l) z = (e, omega arith)
      go (yes e) (no l) z = absurd (omega (arith, marked_one rest lost e (lt_of_not-le l)))
      go (no e) l z = absurd (e (marked_some rest lost e ∙ z))

  -- it stands for the remainder with what is lost behind it, whatever the weight c of that is
  pub stands : (c : ℕ) → 0 < c → StandsFor root (root * root + rest) (lost * c) (root * root + marked rest lost)
  stands c C =
      record {
        whole = root_so_far _ root (marked rest lost) (at_hand root (marked rest lost) marked_small);
        exact = λ e. let z = marked_zero (none (marked rest lost) e) in (rw z.0 (omega arith), rw z.1 (zero-mul c));
        only = λ e l. rw (← marked_none rest lost (none rest e) (gone l)) (rw (none rest e) (omega arith));
      }
    where
      none : (x : ℕ) → root * root + x ≡ root * root → x ≡ 0
      none x e = omega arith

      gone : lost * c ≡ 0 → lost ≤ 0
      gone e = let l : lost * 1 ≤ lost * c = mul-le-mul_left lost C in omega arith

-- ---- the larger pattern has the larger exponent
pub exponents : (p q a b e d : ℕ) → InUnits p a e → InUnits q b d → q ≤ p → d ≤ e
exponents p q a b e d x y h = either (dec_le d e)
  where
    either : Dec (d ≤ e) → d ≤ e
    either (yes l) = l
    either (no k) =
        let l : e < d = lt_of_not-le k in
        let full : 2 ^ 52 ≤ b = y.full (omega arith) in
        absurd (omega (arith, x.pattern, y.pattern, x.below))

-- a number above 0 has digits
pub some_digits : (p a e : ℕ) → InUnits p a e → 0 < p → 0 < a
some_digits p a e x h = either (dec_le 1 e)
  where
    either : Dec (1 ≤ e) → 0 < a
    either (yes l) = omega (arith, x.full l)
    either (no l) = let none : e ≡ 0 = omega (arith, lt_of_not-le l) in omega (arith, rw none at x.pattern)

-- ---- with e = s + d, the digits of the root in units
scaled : (a b s d e moved k root rest lost : ℕ) → e ≡ s + d → k ≡ e + moved → Leading a b s root rest lost moved
    → (4 * (a * 2 ^ e * (a * 2 ^ e) + b * 2 ^ d * (b * 2 ^ d)) ≡ (root * root + rest) * (2 ^ k * 2 ^ k) + lost * (2 ^ d * 2 ^ d))
    × (lost * (2 ^ d * 2 ^ d) < 2 ^ k * 2 ^ k)
scaled a b s d e moved k root rest lost E K g =
    go (2 ^ s) (2 ^ d) (2 ^ e) (2 ^ (s + moved)) (2 ^ k) (root * root + rest) (ap (λ (x : ℕ). 2 ^ x) E ∙ pow-add 2 s d)
    (ap (λ (x : ℕ). 2 ^ x) sum ∙ pow-add 2 (s + moved) d) (pow_pos d) g.parts g.lost_below
  where
    sum : k ≡ s + moved + d
    sum = omega arith

    go : (ps pd pe pc pk m : ℕ) → pe ≡ ps * pd → pk ≡ pc * pd → 0 < pd → m * (pc * pc) + lost ≡ 4 * (a * a * (ps * ps) + b * b)
        → lost < pc * pc
        → (4 * (a * pe * (a * pe) + b * pd * (b * pd)) ≡ m * (pk * pk) + lost * (pd * pd)) × (lost * (pd * pd) < pk * pk)
    go ps pd pe pc pk m x y P g L = (
      ap (λ (z : ℕ). 4 * (a * z * (a * z) + b * pd * (b * pd))) x ∙ one ∙ ap (λ (z : ℕ). z * (pd * pd)) (sym g) ∙ two
          ∙ ap (λ (z : ℕ). m * (z * z) + lost * (pd * pd)) (sym y),
      lt_of_lt_of_le (mul-lt-mul_of_pos_right L (mul-pos P P)) (le_of_eq (three ∙ ap (λ (z : ℕ). z * z) (sym y))),
    )
      where
        one : 4 * (a * (ps * pd) * (a * (ps * pd)) + b * pd * (b * pd)) ≡ 4 * (a * a * (ps * ps) + b * b) * (pd * pd)
        one = omega arith

        two : (m * (pc * pc) + lost) * (pd * pd) ≡ m * (pc * pd * (pc * pd)) + lost * (pd * pd)
        two = omega arith

        three : pc * pc * (pd * pd) ≡ pc * pd * (pc * pd)
        three = omega arith

-- ---- a number above 0 has a root above 0
pub some_root : (a b s root rest lost moved : ℕ) → 0 < a → Leading a b s root rest lost moved → 0 < root
some_root a b s root rest lost moved A g = go (dec_le 1 root)
  where
    none : (z w : ℕ) → w ≤ 4 * z → rest ≤ 0 → (0 * 0 + rest) * w + lost ≡ 4 * (a * a * z + b * b) → lost < w → ⊥
    none z w h t e l =
        let square : 1 * 1 ≤ a * a = mul-le-mul A A in
        let b : 1 * 1 * z ≤ a * a * z = mul-le-mul_right z square in
        let c : rest ≡ 0 = omega arith in
        omega (arith, rw c at e)

    power : 2 ^ (s + moved) * 2 ^ (s + moved) ≤ 4 * (2 ^ s * 2 ^ s)
    power =
        let p : 2 ^ moved ≤ 2 ^ 1 = pow_mono g.at_most_one in
        le_trans (le_of_eq (ap (λ (x : ℕ). x * x) (pow-add 2 s moved) ∙ regroup (2 ^ s) (2 ^ moved)))
        (le_trans (mul-le-mul_left (2 ^ s * 2 ^ s) (mul-le-mul p p)) (le_of_eq (fours (2 ^ s))))
      where
        regroup : (x y : ℕ) → x * y * (x * y) ≡ x * x * (y * y)
        regroup x y = omega arith

        fours : (x : ℕ) → x * x * (2 * 2) ≡ 4 * (x * x)
        fours x = omega arith

    go : Dec (1 ≤ root) → 0 < root
    go (yes h) = h
    go (no h) =
        let z : root ≡ 0 = omega (arith, lt_of_not-le h) in
        absurd
        (none (2 ^ s * 2 ^ s) (2 ^ (s + moved) * 2 ^ (s + moved)) power (omega (arith, g.small)) (rw z at g.parts) g.lost_below)

-- ---- the rounded length
module _ (p q a b e d root rest lost moved : ℕ) (x : InUnits p a e) (y : InUnits q b d) (D : d ≤ e)
    (g : Leading a b (e - d) root rest lost moved) (R : 0 < lost → 0 < root) where
  full : 0 < e + moved → 2 ^ 53 ≤ root
  full h = either (dec_le 1 moved)
    where
      either : Dec (1 ≤ moved) → 2 ^ 53 ≤ root
      either (yes l) = g.full_moved l
      either (no l) = g.full (x.full (omega (arith, lt_of_not-le l)))

  whole : WholeRoot (root * root + rest) root
  whole = root_so_far (root * root + rest) root rest (at_hand root rest g.small)

  pub hypot_is : hypot_of binary64 (of_bits binary64 p) (of_bits binary64 q)
      ≡ units binary64 false (rounded_off (root * root + marked rest lost)) (e + moved)
  hypot_is =
      let n = a * 2 ^ e * (a * 2 ^ e) + b * 2 ^ d * (b * 2 ^ d) in
      let exact = hypot_of_units binary64 (of_bits binary64 p) (of_bits binary64 q) false false
      (a * 2 ^ e) (b * 2 ^ d) x.value y.value in
      let rejoined : e ≡ e - d + d = omega arith in
      let digits = scaled a b (e - d) d e moved (e + moved) root rest lost rejoined refl g in
      exact.root
      ∙ round_root_is binary64 exact.num exact.den n (root * root + rest) (lost * (2 ^ d * 2 ^ d)) (e + moved) root exact.some
      exact.in_units digits.0 digits.1 whole full g.below (root * root + marked rest lost)
      (stands root rest lost g.small R (2 ^ d * 2 ^ d) (mul-pos (pow_pos d) (pow_pos d)))

  -- what `pattern_of` asks of the rounded digits r
  pub rounded_fits : (r : ℕ) → r ≡ rounded_off (root * root + marked rest lost)
      → (r ≤ 2 ^ 53) × ((e + moved ≤ 2046) × (0 < e + moved → 2 ^ 52 ≤ r))
  rounded_fits r is =
      let m = root * root + marked rest lost in
      let marks = marked_small root rest lost g.small R in
      let size = rounded_size m root (root_so_far m root (marked rest lost) (at_hand root (marked rest lost) marks)) in
      rw is (omega (arith, size, g.below), (omega (arith, x.up_to, g.at_most_one), λ h. omega (arith, size, full h)))

-- ---- q is too small to count
module _ (p q a b e d : ℕ) (x : InUnits p a e) (y : InUnits q b d) (D : d ≤ e) (P : p < 0x7ff0_0000_0000_0000)
    (small : b * b ≤ a * (2 ^ (e - d) * 2 ^ (e - d))) where
  abbrev z : ℕ
  z = 2 ^ (e - d) * 2 ^ (e - d)

  digits_of_a : Leading a b (e - d) (2 * a) (4 * (b * b) / z) (4 * (b * b) % z) 0
  digits_of_a =
      let power : 2 ^ (e - d + 0) * 2 ^ (e - d + 0) ≡ z = ap (λ (x : ℕ). 2 ^ x * 2 ^ x) (add-zero (e - d)) in
      record {
        parts = rw power (whole_sum z (4 * (b * b) / z) (4 * (b * b) % z) (div-add-mod (4 * (b * b)) z));
        small = div-le_of_le-mul z (at_most z small);
        lost_below = rw power (mod-lt (4 * (b * b)) (mul-pos (pow_pos (e - d)) (pow_pos (e - d))));
        below = omega (arith, x.below);
        at_most_one = omega arith;
        full_moved = λ h. absurd (omega arith);
        full = λ h. omega arith;
      }
    where
      whole_sum : (z u v : ℕ) → z * u + v ≡ 4 * (b * b) → (2 * a * (2 * a) + u) * z + v ≡ 4 * (a * a * z + b * b)
      whole_sum z u v h = omega arith

      at_most : (z : ℕ) → b * b ≤ a * z → 4 * (b * b) ≤ z * (2 * (2 * a))
      at_most z h = omega arith

  -- nothing is lost where q is 0
  lost_some : 0 < 4 * (b * b) % z → 0 < b
  lost_some h = go (dec_le 1 b)
    where
      go : Dec (1 ≤ b) → 0 < b
      go (yes l) = l
      go (no l) =
          let none : b ≡ 0 = omega (arith, lt_of_not-le l) in
          absurd (omega (arith, rw (none, mod-eq_of_lt (mul-pos (pow_pos (e - d)) (pow_pos (e - d)))) at h))

  pub alone : (0 < b → 0 < a) → LengthPattern p q p
  alone A =
      let m = 2 * a * (2 * a) + marked (4 * (b * b) / z) (4 * (b * b) % z) in
      let R : 0 < 4 * (b * b) % z → 0 < 2 * a = λ h. omega (arith, A (lost_some h)) in
      let marks = marked_small (2 * a) (4 * (b * b) / z) (4 * (b * b) % z) digits_of_a.small R in
      let twice : 2 * a / 2 ≡ a = omega arith in
      let even : 2 * a % 2 ≡ 0 = omega arith in
      let off : rounded_off m ≡ a = (last_digit m (2 * a) _ (at_hand (2 * a) _ marks)).0 even ∙ twice in
      let is = hypot_is p q a b e d (2 * a) _ _ 0 x y D digits_of_a R in
      let own = pattern_in a e (omega (arith, x.below)) x.full (subst (λ (b : ℕ). b < 0x7ff0_0000_0000_0000) (sym x.pattern) P) in
      let at_p : PatternOf p a e = subst (λ (b : ℕ). PatternOf b a e) x.pattern own in
      record {
        hypot = at_p.0 ∙ sym (is ∙ ap (λ (r : ℕ). units binary64 false r (e + 0)) off ∙ ap (units binary64 false a) (add-zero e));
        no_nan = at_p.1;
      }

-- q is 0
pub beside_zero : (p q : ℕ) → q ≡ 0 → p < 0x7ff0_0000_0000_0000 → LengthPattern p q p
beside_zero p q e P = subst (λ (q : ℕ). LengthPattern p q p) (sym e) (either (dec_le (2 ^ 52) p))
  where
    zero_alone : (a k : ℕ) → InUnits p a k → LengthPattern p 0 p
    zero_alone a k x = alone p 0 a 0 k 0 x (subnormal 0 (lit< tt)) (omega arith) P (omega arith) (λ h. absurd (omega arith))

    either : Dec (2 ^ 52 ≤ p) → LengthPattern p 0 p
    either (yes h) = zero_alone (2 ^ 52 + p % 2 ^ 52) (p / 2 ^ 52 - 1) (normal p h P)
    either (no h) = zero_alone p 0 (subnormal p (lt_of_not-le h))

-- the exponent of q is 27 or more below that of p
pub small_far : (a b s : ℕ) → 2 ^ 52 ≤ a → b < 2 ^ 53 → 27 ≤ s → b * b ≤ a * (2 ^ s * 2 ^ s)
small_far a b s A B S =
    let below : b ≤ 2 ^ 53 = omega arith in
    let squared : b * b ≤ 2 ^ 53 * 2 ^ 53 = mul-le-mul below below in
    le_trans squared (mul-le-mul A (mul-le-mul (pow_mono S) (pow_mono S)))
