-- A whole number is its size with a sign: the sum of two goes by their signs, and the size of a sum is at most the sum of the sizes.
-- The size of a whole number is its magnitude here; `size` of lib.Ieee counts binary digits.
use Rattle.std.proofs.Common.{◌≡◌, ℕ, zero, suc, ◌+◌, ◌-◌, ◌*◌, ◌≤◌, Bool, true, false, cond, not, ◌&&◌, T, ltb, ℤ, pos, negsuc, ◌+ℤ◌}
use Rattle.std.proofs.Common.{◌-ℤ◌, ◌*ℤ◌, neg_ℤ, nat_abs, sym, refl, ap, ◌∙◌, le_trans, le_refl, zero-mul, arith, le-ltb}
use native.Mathlib.Decide.{dec_le}
use lib.IntN.{sub_ℕ, neg_ℤ-+ℤ, +ℤ_comm}
use Rattle.exact.specs.Scaled.{signed}
use Rattle.exact.proofs.Ring.{*ℤ-dist-r, minus_turned}

-- ---- differences
minus_more : (a b : ℕ) → b ≤ a → pos a -ℤ pos b ≡ pos (a - b)
minus_more a zero h = ap pos (omega arith)
minus_more a (suc b) h = rw (le-ltb a (suc b) h)

minus_less : (a b : ℕ) → a ≤ b → pos a -ℤ pos b ≡ neg_ℤ (pos (b - a))
minus_less a b h = minus_turned (pos a) (pos b) ∙ ap neg_ℤ (minus_more b a h)

pub size_zero : (z : ℤ) → nat_abs z ≡ 0 → z ≡ pos 0
size_zero (pos n) e = ap pos e
size_zero (negsuc n) e = absurd (omega arith)

-- ---- sums by the signs
pub same_signs : (s : Bool) (a b : ℕ) → signed s a +ℤ signed s b ≡ signed s (a + b)
same_signs true a b = sym (neg_ℤ-+ℤ (pos a) (pos b))
same_signs false a b = refl

pub first_larger : (s : Bool) (a b : ℕ) → b ≤ a → signed s a +ℤ signed (not s) b ≡ signed s (a - b)
first_larger true a b h = +ℤ_comm (neg_ℤ (pos a)) (pos b) ∙ minus_less b a h
first_larger false a b h = minus_more a b h

pub second_larger : (s : Bool) (a b : ℕ) → a ≤ b → signed s a +ℤ signed (not s) b ≡ signed (not s) (b - a)
second_larger true a b h = +ℤ_comm (neg_ℤ (pos a)) (pos b) ∙ minus_more b a h
second_larger false a b h = minus_less a b h

-- zero has one sign
pub sign_of_zero : (s l : Bool) (n : ℕ) → (T (not l) → n ≡ 0) → signed (s && l) n ≡ signed s n
sign_of_zero false l n h = refl
sign_of_zero true true n h = refl
sign_of_zero true false n h = rw (h tt)

-- ---- sizes
size_neg : (z : ℤ) → nat_abs (neg_ℤ z) ≡ nat_abs z
size_neg (pos zero) = refl
size_neg (pos (suc n)) = refl
size_neg (negsuc n) = refl

size_sub : (a b : ℕ) → nat_abs (sub_ℕ a (suc b)) ≤ a + suc b
size_sub a b = go (ltb a (suc b))
  where
    go : (l : Bool) → nat_abs (cond l (negsuc (suc b - suc a)) (pos (a - suc b))) ≤ a + suc b
    go true = omega arith
    go false = omega arith

pub size_sum : (y z : ℤ) → nat_abs (y +ℤ z) ≤ nat_abs y + nat_abs z
size_sum (pos a) (pos b) = le_refl (a + b)
size_sum (pos a) (negsuc b) = size_sub a b
size_sum (negsuc a) (pos b) = le_trans (size_sub b a) (omega arith)
size_sum (negsuc a) (negsuc b) = omega arith

-- two whose sizes differ by at most c, of one sign
size_less : (a b c : ℕ) → a ≤ b + c → b ≤ a + c → nat_abs (pos a -ℤ pos b) ≤ c
size_less a b c h k = go (dec_le b a)
  where
    go : Dec (b ≤ a) → nat_abs (pos a -ℤ pos b) ≤ c
    go (yes l) = rw (minus_more a b l) (omega arith)
    go (no l) = let g : a ≤ b = omega arith in rw (minus_less a b g, size_neg (pos (b - a))) (omega arith)

pub size_minus : (s : Bool) (a b c : ℕ) → a ≤ b + c → b ≤ a + c → nat_abs (signed s a -ℤ signed s b) ≤ c
size_minus false a b c h k = size_less a b c h k
size_minus true a b c h k = rw (sym (neg_ℤ-+ℤ (pos a) (neg_ℤ (pos b))), size_neg (pos a -ℤ pos b)) (size_less a b c h k)

-- ---- multiples
abbrev pub Multiple : ℕ → ℤ → Type 0
Multiple k z = (c : ℕ) × (nat_abs z ≡ c * k)

size_times : (w : ℤ) (k : ℕ) → nat_abs (w *ℤ pos k) ≡ nat_abs w * k
size_times (pos a) k = refl
size_times (negsuc a) k = size_neg (pos (suc a * k))

quotient : (k : ℕ) (z : ℤ) → Multiple k z → (w : ℤ) × (z ≡ w *ℤ pos k)
quotient k (pos n) (c, e) = (pos c, ap pos e)
quotient k (negsuc n) (zero, e) = absurd (omega (arith, zero-mul k))
quotient k (negsuc n) (suc c, e) = (negsuc c, ap (λ v. neg_ℤ (pos v)) e)

pub multiple_sum : (k : ℕ) (y z : ℤ) → Multiple k y → Multiple k z → Multiple k (y +ℤ z)
multiple_sum k y z p q =
    let v = quotient k y p in
    let w = quotient k z q in
    let e : y +ℤ z ≡ (v.0 +ℤ w.0) *ℤ pos k = (λ i. v.1 i +ℤ w.1 i) ∙ sym (*ℤ-dist-r v.0 w.0 (pos k)) in
    (nat_abs (v.0 +ℤ w.0), ap nat_abs e ∙ size_times (v.0 +ℤ w.0) k)

pub multiple_neg : (k : ℕ) (z : ℤ) → Multiple k z → Multiple k (neg_ℤ z)
multiple_neg k z p = (p.0, size_neg z ∙ p.1)
