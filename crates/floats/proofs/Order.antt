-- The order of floats: what is below a value is below all that this value is at most (`lt_le`),
-- and a value is not at most what is below it (`lt_not_le`).
-- Finite values are fractions with a sign, so both go by the signs; zeros of either sign are equal.
use mathlib.Core.Path.{◌≡◌, refl, sym}
use mathlib.Core.Logic.{inl, inr}
use Prim.Native.Nat.{ℕ, ◌+◌, ◌*◌, ◌<◌, ◌≤◌, zero-le}
use native.Mathlib.Nat.{le_of_lt, le_of_eq, lt_of_not-le, lt_of_le_of_lt, lt_of_lt_of_le, eq-zero-or-pos, mul-pos, mul-le-mul_right}
use native.Mathlib.Nat.{mul-lt-mul_of_pos_right}
use native.Mathlib.Omega.{arith}
use mathlib.Core.Bool.{Bool, true, false, ◌&&◌, ◌||◌, true≢false}
use lib.Dec.{ltb, eqb}
use borrow.Author.Tests.{ltb-true, eqb-true, lt-ltb, le-ltb, ne_eqb}
use lib.Ieee.{Float, nan, inf, fin, up, down, below, level, lt, le}
use lib.Ieee.Fits.{down_pos}
use lib.Ieee.Positive.{first_pos}

-- ---- three fractions x / p, y / q and z / r
module _ (x y z p q r : ℕ) (R : 0 < r) where
  below_then : x * q < y * p → y * r ≤ z * q → x * r < z * p
  below_then h k =
      lt_of_not-le
      (λ (g : z * p ≤ x * r).
      let a : x * q * r < y * p * r = mul-lt-mul_of_pos_right h R in
      let b : y * r * p ≤ z * q * p = mul-le-mul_right p k in
      let c : z * p * q ≤ x * r * q = mul-le-mul_right q g in
      omega arith)

  then_below : z * q ≤ y * r → y * p < x * q → z * p < x * r
  then_below k h =
      lt_of_not-le
      (λ (g : x * r ≤ z * p).
      let a : y * p * r < x * q * r = mul-lt-mul_of_pos_right h R in
      let b : z * q * p ≤ y * r * p = mul-le-mul_right p k in
      let c : x * r * q ≤ z * p * q = mul-le-mul_right q g in
      omega arith)

-- ---- the tests read
-- x is true, or y is
by_either : {A : Type 0} (x y u : Bool) → (x ≡ true → A) → (y ≡ true → A) → (x || (y && u)) ≡ true → A
by_either true y u f g h = f refl
by_either false true u f g h = g refl
by_either false false u f g h = absurd (true≢false (sym h))

by_both : {A : Type 0} (x y : Bool) → (x ≡ true → y ≡ true → A) → (x && y) ≡ true → A
by_both true y f h = f refl h
by_both false y f h = absurd (true≢false (sym h))

-- at most, below or equal; on the negative side the other way round
at_most : (a b : ℕ) → (ltb a b || (eqb a b && true)) ≡ true → a ≤ b
at_most a b h = by_either (ltb a b) (eqb a b) true (λ l. le_of_lt (ltb-true a b l)) (λ e. le_of_eq (eqb-true a b e)) h

at_least : (a b : ℕ) → (ltb b a || (eqb a b && true)) ≡ true → b ≤ a
at_least a b h = by_either (ltb b a) (eqb a b) true (λ l. le_of_lt (ltb-true b a l)) (λ e. le_of_eq (sym (eqb-true a b e))) h

-- +a is at most −b only where both are zero
both_zero : (a b : ℕ) → (eqb a b && eqb a 0) ≡ true → (a ≡ 0) × (b ≡ 0)
both_zero a b h = by_both (eqb a b) (eqb a 0) (λ e f. (eqb-true a 0 f, omega (arith, eqb-true a b e, eqb-true a 0 f))) h

factor_pos : (x q r : ℕ) → 0 < r → 0 < x * q → 0 < x * r
factor_pos x q r R h = mul-pos (first_pos x q h) R

-- ---- signed fractions ±x / p, ±y / q and ±z / r
signed : (s t u : Bool) (x y z p q r : ℕ) → 0 < p → 0 < r → below s (x * q) t (y * p) ≡ true
    → (below t (y * r) u (z * q) || level t (y * r) u (z * q)) ≡ true → below s (x * r) u (z * p) ≡ true
signed false true u x y z p q r P R h k = absurd (true≢false (sym h))
signed false false false x y z p q r P R h k =
    lt-ltb (x * r) (z * p) (below_then x y z p q r R (ltb-true (x * q) (y * p) h) (at_most (y * r) (z * q) k))
signed false false true x y z p q r P R h k =
    let a : 0 < y * r = factor_pos y p r R (lt_of_le_of_lt zero-le (ltb-true (x * q) (y * p) h)) in
    absurd (omega (arith, (both_zero (y * r) (z * q) k).0))
signed true false false x y z p q r P R h k =
    lt-ltb 0 (x * r + z * p)
    (elim (eq-zero-or-pos (x * q)) [
      | inl e ↦
          let a : 0 < y * r = factor_pos y p r R (omega (arith, ltb-true 0 (x * q + y * p) h)) in
          let b : 0 < z * p = factor_pos z q p P (lt_of_lt_of_le a (at_most (y * r) (z * q) k)) in
          omega arith
      | inr l ↦
          let a : 0 < x * r = factor_pos x q r R l in
          omega arith
    ])
signed true false true x y z p q r P R h k =
    lt-ltb (z * p) (x * r)
    (elim (eq-zero-or-pos (y * p)) [
      | inl e ↦ then_below x y z p q r R (omega (arith, (both_zero (y * r) (z * q) k).0, (both_zero (y * r) (z * q) k).1))
          (omega (arith, ltb-true 0 (x * q + y * p) h))
      | inr l ↦
          let a : 0 < y * r = factor_pos y p r R l in
          absurd (omega (arith, (both_zero (y * r) (z * q) k).0))
    ])
signed true true false x y z p q r P R h k =
    let a : 0 < x * r = factor_pos x q r R (lt_of_le_of_lt zero-le (ltb-true (y * p) (x * q) h)) in
    lt-ltb 0 (x * r + z * p) (omega arith)
signed true true true x y z p q r P R h k =
    lt-ltb (z * p) (x * r) (then_below x y z p q r R (at_least (y * r) (z * q) k) (ltb-true (y * p) (x * q) h))

-- what is below b is below all that b is at most
pub lt_le : (a b c : Float) → lt a b ≡ true → le b c ≡ true → lt a c ≡ true
unfolding lt le
lt_le nan b c h k = absurd (true≢false (sym h))
lt_le (inf s) nan c h k = absurd (true≢false (sym h))
lt_le (inf false) (inf t) c h k = absurd (true≢false (sym h))
lt_le (inf true) (inf true) c h k = absurd (true≢false (sym h))
lt_le (inf true) (inf false) nan h k = absurd (true≢false (sym k))
lt_le (inf true) (inf false) (inf true) h k = absurd (true≢false (sym k))
lt_le (inf true) (inf false) (inf false) h k = refl
lt_le (inf true) (inf false) (fin u l g) h k = absurd (true≢false (sym k))
lt_le (inf false) (fin t n d) c h k = absurd (true≢false (sym h))
lt_le (inf true) (fin t n d) nan h k = absurd (true≢false (sym k))
lt_le (inf true) (fin t n d) (inf true) h k = absurd (true≢false (sym k))
lt_le (inf true) (fin t n d) (inf false) h k = refl
lt_le (inf true) (fin t n d) (fin u l g) h k = refl
lt_le (fin s m e) nan c h k = absurd (true≢false (sym h))
lt_le (fin s m e) (inf true) c h k = absurd (true≢false (sym h))
lt_le (fin s m e) (inf false) nan h k = absurd (true≢false (sym k))
lt_le (fin s m e) (inf false) (inf true) h k = absurd (true≢false (sym k))
lt_le (fin s m e) (inf false) (inf false) h k = refl
lt_le (fin s m e) (inf false) (fin u l g) h k = absurd (true≢false (sym k))
lt_le (fin s m e) (fin t n d) nan h k = absurd (true≢false (sym k))
lt_le (fin s m e) (fin t n d) (inf true) h k = absurd (true≢false (sym k))
lt_le (fin s m e) (fin t n d) (inf false) h k = refl
lt_le (fin s m e) (fin t n d) (fin u l g) h k =
    signed s t u (m * up e) (n * up d) (l * up g) (down e) (down d) (down g) (down_pos e) (down_pos g) h k

-- ---- a value is not at most what is below it
neither : (a b : ℕ) (u : Bool) → a < b → (ltb b a || (eqb b a && u)) ≡ false
neither a b u h = rw (le-ltb b a (le_of_lt h), ne_eqb b a (λ e. omega arith))

neither_back : (a b : ℕ) (u : Bool) → a < b → (ltb b a || (eqb a b && u)) ≡ false
neither_back a b u h = rw (le-ltb b a (le_of_lt h), ne_eqb a b (λ e. omega arith))

not_zeros : (a b : ℕ) → 0 < a + b → (eqb b a && eqb b 0) ≡ false
not_zeros a b h = go (eqb b a) (eqb b 0) (λ e. eqb-true b a e) (λ e. eqb-true b 0 e)
  where
    go : (x y : Bool) → (x ≡ true → b ≡ a) → (y ≡ true → b ≡ 0) → (x && y) ≡ false
    go false y f g = refl
    go true false f g = refl
    go true true f g = absurd (omega (arith, f refl, g refl))

signed_back : (s t : Bool) (a b : ℕ) → below s a t b ≡ true → (below t b s a || level t b s a) ≡ false
signed_back false false a b h = neither a b true (ltb-true a b h)
signed_back false true a b h = absurd (true≢false (sym h))
signed_back true false a b h = not_zeros a b (ltb-true 0 (a + b) h)
signed_back true true a b h = neither_back b a true (ltb-true b a h)

pub lt_not_le : (a b : Float) → lt a b ≡ true → le b a ≡ false
unfolding lt le
lt_not_le nan b h = absurd (true≢false (sym h))
lt_not_le (inf s) nan h = absurd (true≢false (sym h))
lt_not_le (inf false) (inf t) h = absurd (true≢false (sym h))
lt_not_le (inf true) (inf true) h = absurd (true≢false (sym h))
lt_not_le (inf true) (inf false) h = refl
lt_not_le (inf false) (fin t n d) h = absurd (true≢false (sym h))
lt_not_le (inf true) (fin t n d) h = refl
lt_not_le (fin s m e) nan h = absurd (true≢false (sym h))
lt_not_le (fin s m e) (inf true) h = absurd (true≢false (sym h))
lt_not_le (fin s m e) (inf false) h = refl
lt_not_le (fin s m e) (fin t n d) h = signed_back s t (m * up e * down d) (n * up d * down e) h
