-- More digits of a root in base B, by one division (Zimmermann's square root): root is the whole root of root * root + rest, and B is at
-- most 2 * root. With q and u the quotient and the remainder of rest * B + c by 2 * root, where c and d are the two digits that are brought
-- down, the root of (root * root + rest) * B * B + c * B + d is root * B + q or one less. Nothing here is about floats.
use mathlib.Core.Path.{◌≡◌, refl, sym, ap, ◌∙◌, subst}
use Prim.Native.Nat.{ℕ, ◌+◌, ◌-◌, ◌*◌, ◌/◌, ◌%◌, ◌^◌, ◌≤◌, ◌<◌}
use native.Mathlib.Nat.{lt_of_not-le, mul-le-mul, mul-le-mul_right, mul-le-mul_left, div-add-mod, mod-lt}
use native.Mathlib.Omega.{arith}
use Rattle.floats.specs.Schoolbook.{Extracted}
use Rattle.hypot.proofs.Newton.{sq_pos}

-- ---- for any q and u that are such a quotient and remainder
module _ (root rest B c d q u : ℕ) (W : B ≤ 2 * root) (T : rest ≤ 2 * root) (C : c < B) (D : d < B) (e : rest * B + c ≡ 2 * root * q + u)
    (U : u < 2 * root) where
  q_le : q ≤ B
  q_le = let l : q < B + 1 = lt_of_not-le no in omega arith
    where
      no : B + 1 ≤ q → ⊥
      no g =
          let a : 2 * root * (B + 1) ≤ 2 * root * q = mul-le-mul_left (2 * root) g in
          let b : rest * B ≤ 2 * root * B = mul-le-mul_right B T in
          omega arith

  -- e, times B
  by_B : (rest * B + c) * B ≡ (2 * root * q + u) * B
  by_B = ap (λ (x : ℕ). x * B) e

  u_B : u * B + B ≤ 2 * root * B
  u_B = let o : u + 1 ≤ 2 * root = omega arith in let h : (u + 1) * B ≤ 2 * root * B = mul-le-mul_right B o in omega arith

  q_q : q * q ≤ B * B
  q_q = mul-le-mul q_le q_le

  B-B : B * B ≤ 2 * root * B
  B-B = mul-le-mul_right B W

  -- a q of B leaves too little for its square
  q_lt : q * q ≤ u * B + d → q < B
  q_lt h =
      strict q_le (λ (z : q ≡ B). none (subst (λ (x : ℕ). x * x ≤ u * B + d) z h) (subst (λ (x : ℕ). rest * B + c ≡ 2 * root * x + u) z e))
    where
      strict : q ≤ B → (q ≡ B → ⊥) → q < B
      strict h k = omega arith

      none : B * B ≤ u * B + d → rest * B + c ≡ 2 * root * B + u → ⊥
      none h f =
          let g : rest * B ≤ 2 * root * B = mul-le-mul_right B T in
          let i : u ≤ c = omega arith in
          let j : u * B ≤ c * B = mul-le-mul_right B i in
          let o : c + 1 ≤ B = omega arith in
          let k : (c + 1) * B ≤ B * B = mul-le-mul_right B o in
          omega arith

  right_at : q * q ≤ u * B + d → Extracted ((root * root + rest) * (B * B) + (c * B + d)) (root * B + q) (u * B + d - q * q)
  right_at h =
      let a = by_B in
      let b = u_B in
      let l = q_lt h in
      record { parts = omega arith; small = omega arith }

  -- next stands for root * B + q, and p for one less
  less : (next p : ℕ) → next ≡ root * B + q → next ≡ p + 1 → u * B + d < q * q
      → Extracted ((root * root + rest) * (B * B) + (c * B + d)) p (u * B + d + (2 * next - 1) - q * q)
  less next p f g h =
      let a = by_B in
      let b = q_q in
      let k = B-B in
      let m : p + 1 ≡ root * B + q = sym g ∙ f in
      let s : (p + 1) * (p + 1) ≡ (root * B + q) * (root * B + q) = ap (λ (x : ℕ). x * x) m in
      let z : 0 < q = sq_pos (u * B + d) q h in
      record { parts = omega arith; small = omega arith }

  high_at : u * B + d < q * q
      → Extracted ((root * root + rest) * (B * B) + (c * B + d)) (root * B + q - 1) (u * B + d + (2 * (root * B + q) - 1) - q * q)
  high_at h = less (root * B + q) (root * B + q - 1) refl (let z : 0 < q = sq_pos (u * B + d) q h in omega arith) h

  enough_at : u * B + d < q * q → q * q ≤ u * B + d + (2 * (root * B + q) - 1)
  enough_at h = let b = q_q in let k = B-B in let z : 0 < q = sq_pos (u * B + d) q h in omega arith

-- ---- for those of the division, in base 2 ^ 27
abbrev pub quotient : (root rest n : ℕ) → ℕ
quotient root rest n = (rest * 2 ^ 27 + n / 2 ^ 27) / (2 * root)

abbrev pub remainder : (root rest n : ℕ) → ℕ
remainder root rest n = (rest * 2 ^ 27 + n / 2 ^ 27) % (2 * root)

module _ (root rest n : ℕ) (W : 2 ^ 26 ≤ root) (T : rest ≤ 2 * root) (N : n < 2 ^ 54) where
  abbrev q : ℕ
  q = quotient root rest n

  -- what the division leaves, with the rest of n behind it
  abbrev left : ℕ
  left = remainder root rest n * 2 ^ 27 + n % 2 ^ 27

  abbrev next : ℕ
  next = root * 2 ^ 27 + q

  divides : rest * 2 ^ 27 + n / 2 ^ 27 ≡ 2 * root * q + remainder root rest n
  divides = sym (div-add-mod (rest * 2 ^ 27 + n / 2 ^ 27) (2 * root))

  remainder_lt : remainder root rest n < 2 * root
  remainder_lt = mod-lt (rest * 2 ^ 27 + n / 2 ^ 27) (omega arith)

  quotient_le : q ≤ 2 ^ 27
  quotient_le =
      q_le root rest (2 ^ 27) (n / 2 ^ 27) (n % 2 ^ 27) q (remainder root rest n) (omega arith) T (omega arith) (omega arith) divides
      remainder_lt

  all_n : (root * root + rest) * (2 ^ 27 * 2 ^ 27) + (n / 2 ^ 27 * 2 ^ 27 + n % 2 ^ 27) ≡ (root * root + rest) * 2 ^ 54 + n
  all_n = omega arith

  -- what keeps the code's numbers in their words
  pub sizes : (q ≤ 2 ^ 27) × (q * q ≤ 2 ^ 54) × (remainder root rest n < 2 * root)
  sizes = (quotient_le, mul-le-mul quotient_le quotient_le, remainder_lt)

  -- the guess is right
  pub right : q * q ≤ left → Extracted ((root * root + rest) * 2 ^ 54 + n) next (left - q * q)
  right h =
      subst (λ (m : ℕ). Extracted m next (left - q * q)) all_n
      (right_at root rest (2 ^ 27) (n / 2 ^ 27) (n % 2 ^ 27) q (remainder root rest n) (omega arith) T (omega arith) (omega arith) divides
      remainder_lt h)

  -- it is one too high
  pub high : left < q * q → Extracted ((root * root + rest) * 2 ^ 54 + n) (next - 1) (left + (2 * next - 1) - q * q)
  high h =
      subst (λ (m : ℕ). Extracted m (next - 1) (left + (2 * next - 1) - q * q)) all_n
      (high_at root rest (2 ^ 27) (n / 2 ^ 27) (n % 2 ^ 27) q (remainder root rest n) (omega arith) T (omega arith) (omega arith) divides
      remainder_lt h)

  -- and then there is enough to take the square from
  pub enough : left < q * q → q * q ≤ left + (2 * next - 1)
  enough h =
      enough_at root rest (2 ^ 27) (n / 2 ^ 27) (n % 2 ^ 27) q (remainder root rest n) (omega arith) T (omega arith) (omega arith) divides
      remainder_lt h
