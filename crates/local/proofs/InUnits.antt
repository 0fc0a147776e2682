-- A number of a format in units of its smallest value, 2 ^ −low, is a whole number. In units the sum of two numbers is the exact sum of two
-- whole numbers, rounded once, and two numbers compare equal exactly where their whole numbers are equal.
use Rattle.std.proofs.Common.{◌≡◌, ℕ, zero, suc, ◌+◌, ◌-◌, ◌*◌, ◌/◌, ◌^◌, ◌<◌, ◌≤◌, Bool, true, false, cond, not, ◌&&◌, ◌||◌, T, eqb, ltb}
use Rattle.std.proofs.Common.{◌↔◌, ℤ, pos, ◌+ℤ◌, neg_ℤ, nat_abs, sym, refl, ap, ◌∙◌, subst, le_trans, le_of_eq, le_of_lt, mul-le-mul_right}
use Rattle.std.proofs.Common.{mul_comm, mul-pos, zero-mul, le_of_mul-le-mul_right, mul-div_cancel, arith, eqb→eq, ltb→lt, nltb→le, pow_pos}
use mathlib.Core.Bool.{beq}
use native.Mathlib.Nat.{mul-sub}
use native.Mathlib.Nat.{eq_of_mul-eq-mul_right}
use lib.IntN.{neg_ℤ-neg_ℤ, pos-ne-negsuc}
use lib.Ieee.{Float, nan, inf, fin, Format, prec, low, up, down, round, neg, sum, add, level, eq, fits}
use lib.Ieee.Fits.{down_pos, and_i, and_l, and_r, eq→eqb}
use lib.Ieee.Exact.{HasValue}
use lib.Ieee.Scale.{round_same, finite}
use Rattle.exact.specs.Scaled.{whole_units, signed, exact_in}
use Rattle.exact.proofs.Scaled.{units_exact, size_of}
use Rattle.floats.proofs.Grid.{OnGrid, on_grid}
use Rattle.floats.proofs.Within.{Within}
use Rattle.local.proofs.Integers.{same_signs, first_larger, second_larger, sign_of_zero}

-- ---- fractions of one size: a / c is A / l, and b / c is B / l
module _ (a b c A B l : ℕ) (p : a * l ≡ A * c) (q : b * l ≡ B * c) where
  together : (a + b) * l ≡ (A + B) * c
  together = omega arith

  apart : (b - a) * l ≡ (B - A) * c
  apart = times_less b a l ∙ (λ i. q i - p i) ∙ sym (times_less B A c)
    where
      times_less : (m n k : ℕ) → (m - n) * k ≡ m * k - n * k
      times_less m n k = mul_comm (m - n) k ∙ mul-sub k m n ∙ (λ i. mul_comm k m i - mul_comm k n i)

  ordered : 0 < c → a ≤ b → A ≤ B
  ordered C h = le_of_mul-le-mul_right (le_trans (le_of_eq (sym p)) (le_trans (mul-le-mul_right l h) (le_of_eq q))) C

module _ (f : Format) where
  -- ---- a finite number in units
  value_of : (s : Bool) (m : ℕ) (e : ℤ) → T (fits f (fin s m e)) → HasValue (fin s m e) s (whole_units f m e) (2 ^ low f)
  value_of s m e t = (refl, sym (units_exact f s m e t))

  pub exact_of_lem : (x : Float) (s : Bool) (a : ℕ) → HasValue x s a (2 ^ low f) → exact_in f x ≡ signed s a
  unfolding exact_in
  exact_of_lem nan s a v = absurd v
  exact_of_lem (inf t) s a v = absurd v
  exact_of_lem (fin t m e) s a v =
      ap (signed t) (ap (λ (n : ℕ). n / down e) v.1 ∙ mul-div_cancel a (down_pos e)) ∙ ap (λ (r : Bool). signed r a) v.0

  pub exact_neg : (y : Float) → exact_in f (neg y) ≡ neg_ℤ (exact_in f y)
  unfolding exact_in neg
  exact_neg nan = refl
  exact_neg (inf s) = refl
  exact_neg (fin true m e) = sym (neg_ℤ-neg_ℤ (pos (whole_units f m e)))
  exact_neg (fin false m e) = refl

  -- its size is at most 2 ^ a
  pub size_within : (x : Float) (a : ℕ) → T (fits f x) → Within a x → nat_abs (exact_in f x) ≤ 2 ^ a * 2 ^ low f
  unfolding exact_in
  size_within nan a t h = absurd h
  size_within (inf s) a t h = absurd h
  size_within (fin s m e) a t h =
      le_trans (le_of_eq (size_of s (whole_units f m e)))
      (le_of_mul-le-mul_right (le_trans (le_of_eq (units_exact f s m e t)) (le_trans (mul-le-mul_right (2 ^ low f) h)
      (le_of_eq (turn (2 ^ a) (down e) (2 ^ low f))))) (down_pos e))
    where
      turn : (p d l : ℕ) → p * d * l ≡ p * l * d
      turn p d l = omega arith

  -- it has at most `prec` digits
  pub size_on_grid : (x : Float) → T (fits f x) → OnGrid f (nat_abs (exact_in f x))
  unfolding exact_in fits
  size_on_grid nan t = (0, 0, pow_pos (prec f), refl)
  size_on_grid (inf s) t = (0, 0, pow_pos (prec f), refl)
  size_on_grid (fin s m e) t =
      subst (OnGrid f) (sym (size_of s (whole_units f m e)))
      (on_grid f (fin false m e) (whole_units f m e) (unsigned m t) (value_of false m e (unsigned m t)))
    where
      unsigned : (m : ℕ) → T (fits f (fin s m e)) → T (fits f (fin false m e))
      unsigned zero t = t
      unsigned (suc m) t = t

  -- ---- x is the whole number z, rounded once
  pub record Rounding (x : Float) (z : ℤ) : Type 0 where
    pub sign : Bool
    pub magnitude : ℕ
    pub rounded : x ≡ round f sign magnitude (2 ^ low f)
    pub value : signed sign magnitude ≡ z

  module _ (a b c A B : ℕ) (C : 0 < c) (p : a * 2 ^ low f ≡ A * c) (q : b * 2 ^ low f ≡ B * c) where
    to_units : (s : Bool) (n N : ℕ) → n * 2 ^ low f ≡ N * c → round f s n c ≡ round f s N (2 ^ low f)
    to_units s n N e = round_same f s n c N (2 ^ low f) C (pow_pos (low f)) e

    one_sign : (s : Bool) → Rounding (round f s (a + b) c) (signed s A +ℤ signed s B)
    one_sign s = record {
      sign = s;
      magnitude = A + B;
      rounded = to_units s (a + b) (A + B) (together a b c A B (2 ^ low f) p q);
      value = sym (same_signs s A B);
    }

    two_signs : (s : Bool)
        → Rounding (cond (ltb a b) (round f (not s) (b - a) c) (round f (s && ltb b a) (a - b) c)) (signed s A +ℤ signed (not s) B)
    two_signs s = go (ltb a b) (ltb→lt a b) (nltb→le a b)
      where
        none : (l : Bool) → (T (not l) → a ≤ b) → T (not l) → A - B ≡ 0
        none l h t = let g = ordered a b c A B (2 ^ low f) p q C (h t) in omega arith

        go : (less : Bool) → (T less → a < b) → (T (not less) → b ≤ a)
            → Rounding (cond less (round f (not s) (b - a) c) (round f (s && ltb b a) (a - b) c)) (signed s A +ℤ signed (not s) B)
        go true h k = record {
          sign = not s;
          magnitude = B - A;
          rounded = to_units (not s) (b - a) (B - A) (apart a b c A B (2 ^ low f) p q);
          value = sym (second_larger s A B (ordered a b c A B (2 ^ low f) p q C (le_of_lt (h tt))));
        }
        go false h k = record {
          sign = s && ltb b a;
          magnitude = A - B;
          rounded = to_units (s && ltb b a) (a - b) (A - B) (apart b a c B A (2 ^ low f) q p);
          value = sign_of_zero s (ltb b a) (A - B) (none (ltb b a) (nltb→le b a))
              ∙ sym (first_larger s A B (ordered b a c B A (2 ^ low f) q p C (k tt)));
        }

    sum_in_units : (s t : Bool) → Rounding (sum f s a t b c) (signed s A +ℤ signed t B)
    unfolding sum
    sum_in_units true true = one_sign true
    sum_in_units true false = two_signs true
    sum_in_units false true = two_signs false
    sum_in_units false false = one_sign false

  -- the two numerators of a sum, or of a comparison
  first_units : (s : Bool) (m : ℕ) (e d : ℤ) → T (fits f (fin s m e))
      → m * up e * down d * 2 ^ low f ≡ whole_units f m e * (down e * down d)
  first_units s m e d h = across (m * up e) (down e) (down d) (whole_units f m e) (2 ^ low f) (units_exact f s m e h)
    where
      across : (v d g A l : ℕ) → A * d ≡ v * l → v * g * l ≡ A * (d * g)
      across v d g A l e = let k = ap (λ (z : ℕ). z * g) e in omega arith

  second_units : (t : Bool) (n : ℕ) (d e : ℤ) → T (fits f (fin t n d))
      → n * up d * down e * 2 ^ low f ≡ whole_units f n d * (down e * down d)
  second_units t n d e h = first_units t n d e h ∙ ap (λ (v : ℕ). whole_units f n d * v) (mul_comm (down d) (down e))

  pub add_in_units : (x y : Float) → T (fits f x) → T (fits f y) → T (finite x) → T (finite y)
      → Rounding (add f x y) (exact_in f x +ℤ exact_in f y)
  unfolding add exact_in
  add_in_units nan y h k g i = absurd g
  add_in_units (inf s) y h k g i = absurd g
  add_in_units (fin s m e) nan h k g i = absurd i
  add_in_units (fin s m e) (inf t) h k g i = absurd i
  add_in_units (fin s m e) (fin t n d) h k g i =
      sum_in_units (m * up e * down d) (n * up d * down e) (down e * down d) (whole_units f m e) (whole_units f n d)
      (mul-pos (down_pos e) (down_pos d)) (first_units s m e d h) (second_units t n d e k) s t

  -- ---- two numbers compare equal exactly where they are the same number of units
  module _ (a b c A B : ℕ) (C : 0 < c) (p : a * 2 ^ low f ≡ A * c) (q : b * 2 ^ low f ≡ B * c) where
    units_same : a ≡ b → A ≡ B
    units_same e = eq_of_mul-eq-mul_right c C A B (sym p ∙ ap (λ (v : ℕ). v * 2 ^ low f) e ∙ q)

    same_units : A ≡ B → a ≡ b
    same_units e = eq_of_mul-eq-mul_right (2 ^ low f) (pow_pos (low f)) a b (p ∙ ap (λ (v : ℕ). v * c) e ∙ sym q)

  nothing : (c : ℕ) → 0 * 2 ^ low f ≡ 0 * c
  nothing c = zero-mul (2 ^ low f) ∙ sym (zero-mul c)

  module _ (a b c A B : ℕ) (C : 0 < c) (p : a * 2 ^ low f ≡ A * c) (q : b * 2 ^ low f ≡ B * c) where
    level_same : (s t : Bool) → T (level s a t b) → signed s A ≡ signed t B
    level_same s t h =
        go s t (units_same a b c A B C p q (eqb→eq a b (and_l (eqb a b) _ h)))
        (λ g. units_same a 0 c A 0 C p (nothing c) (eqb→eq a 0 g)) (and_r (eqb a b) _ h)
      where
        go : (s t : Bool) → A ≡ B → (T (eqb a 0) → A ≡ 0) → T (beq s t || eqb a 0) → signed s A ≡ signed t B
        go true true e z g = ap (signed true) e
        go false false e z g = ap (signed false) e
        go true false e z g = ap (signed true) (z g) ∙ ap (signed false) (sym (z g) ∙ e)
        go false true e z g = ap (signed false) (z g) ∙ ap (signed true) (sym (z g) ∙ e)

    same_level : (s t : Bool) → signed s A ≡ signed t B → T (level s a t b)
    same_level s t h =
        let e : A ≡ B = sym (size_of s A) ∙ ap nat_abs h ∙ size_of t B in
        and_i (eqb a b) _ (eq→eqb (same_units a b c A B C p q e)) (go s t e h)
      where
        zero_only : (A B : ℕ) → A ≡ B → signed true A ≡ signed false B → A ≡ 0
        zero_only zero B e h = refl
        zero_only (suc A) B e h = absurd (pos-ne-negsuc B A (sym h))

        go : (s t : Bool) → A ≡ B → signed s A ≡ signed t B → T (beq s t || eqb a 0)
        go true true e h = tt
        go false false e h = tt
        go true false e h = eq→eqb (same_units a 0 c A 0 C p (nothing c) (zero_only A B e h))
        go false true e h = eq→eqb (same_units a 0 c A 0 C p (nothing c) (e ∙ zero_only B A (sym e) (sym h)))

  pub eq_units : (x y : Float) → T (fits f x) → T (fits f y) → T (finite x) → T (finite y) → T (eq x y) ↔ (exact_in f x ≡ exact_in f y)
  unfolding eq exact_in
  eq_units nan y h k g i = absurd g
  eq_units (inf s) y h k g i = absurd g
  eq_units (fin s m e) nan h k g i = absurd i
  eq_units (fin s m e) (inf t) h k g i = absurd i
  eq_units (fin s m e) (fin t n d) h k g i =
      let a = m * up e * down d in
      let b = n * up d * down e in
      let c = down e * down d in
      let C : 0 < c = mul-pos (down_pos e) (down_pos d) in (
        level_same a b c (whole_units f m e) (whole_units f n d) C (first_units s m e d h) (second_units t n d e k) s t,
        same_level a b c (whole_units f m e) (whole_units f n d) C (first_units s m e d h) (second_units t n d e k) s t,
      )
