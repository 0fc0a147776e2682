-- Squares and their sum in limbs of 54 binary digits: each is the product worked out by hand, with every carry, as a law on whole numbers.
-- Nothing here is about floats.
use mathlib.Core.Path.{◌≡◌, sym, ap, ◌∙◌, subst}
use Prim.Native.Nat.{ℕ, ◌+◌, ◌-◌, ◌*◌, ◌/◌, ◌%◌, ◌^◌, ◌≤◌, ◌<◌}
use native.Mathlib.Nat.{le_trans, le_of_eq, le_of_lt, mul-le-mul, mul-le-mul_right, mul_comm, mul-pos, one-mul, mul-div_cancel, div-add-mod}
use native.Mathlib.Nat.{mod-lt}
use native.Mathlib.Omega.{arith}
use lib.Dec.{lit<}
use lib.Pow.{pow-add, pow_pos, pow_mono, shl_exact}

-- ---- 4 ^ s, as 2 ^ s * 2 ^ s
pub shifted_one : (s : ℕ) → s < 27 → 1 * 2 ^ (2 * s) % 2 ^ 64 ≡ 2 ^ s * 2 ^ s
shifted_one s h =
    shl_exact {a = 1} 1 (2 * s) 64 (lit< tt) (omega arith) ∙ one-mul (2 ^ (2 * s)) ∙ ap (λ (x : ℕ). 2 ^ x) twice ∙ pow-add 2 s s
  where
    twice : 2 * s ≡ s + s
    twice = omega arith

module _ (s z : ℕ) (S : s < 27) (e : z ≡ 2 ^ s * 2 ^ s) where
  pub power_le : z ≤ 2 ^ 52
  power_le = let l : s ≤ 26 = omega arith in le_trans (le_of_eq e) (mul-le-mul (pow_mono l) (pow_mono l))

  pub power_pos : 0 < z
  power_pos = subst (λ (x : ℕ). 0 < x) (sym e) (mul-pos (pow_pos s) (pow_pos s))

  pub power_divides : z * (2 ^ 54 / z) ≡ 2 ^ 54
  power_divides =
      let m = 2 ^ (54 - (s + s)) in
      let parts : 54 ≡ 54 - (s + s) + (s + s) = omega arith in
      let whole : 2 ^ 54 ≡ m * z =
      ap (λ (x : ℕ). 2 ^ x) parts ∙ pow-add 2 (54 - (s + s)) (s + s) ∙ ap (λ (x : ℕ). m * x) (pow-add 2 s s ∙ sym e) in
      ap (λ (x : ℕ). z * (x / z)) whole ∙ ap (λ (x : ℕ). z * x) (mul-div_cancel m power_pos) ∙ mul_comm z m ∙ sym whole

-- ---- c * c by halves of 27 digits, h and l
pub square_is : (c h l : ℕ) → c ≡ h * 2 ^ 27 + l
    → let m = 2 * (h * l) in
    let low = m % 2 ^ 27 * 2 ^ 27 + l * l in
    (h * h + m / 2 ^ 27 + low / 2 ^ 54) * 2 ^ 54 + low % 2 ^ 54 ≡ c * c
square_is c h l e = go ∙ ap (λ (x : ℕ). x * x) (sym e)
  where
    go : (h * h + 2 * (h * l) / 2 ^ 27 + (2 * (h * l) % 2 ^ 27 * 2 ^ 27 + l * l) / 2 ^ 54) * 2 ^ 54
        + (2 * (h * l) % 2 ^ 27 * 2 ^ 27 + l * l) % 2 ^ 54
        ≡ (h * 2 ^ 27 + l) * (h * 2 ^ 27 + l)
    go = omega arith

pub high_lt : (c h l : ℕ) → c < 2 ^ 54 → h * 2 ^ 54 + l ≡ c * c → h < 2 ^ 54
high_lt c h l C e =
    let k : c ≤ 2 ^ 54 - 1 = omega arith in
    let a : c * c ≤ (2 ^ 54 - 1) * (2 ^ 54 - 1) = mul-le-mul k k in
    omega arith

-- ---- the square in the limbs ph and pl, and that in qh and ql divided by z, added
module _ (ph pl qh ql z u : ℕ) (zu : z * u ≡ 2 ^ 54) where
  -- x, y and v, r are quotient and remainder of qh and ql by z; c and l are those of the low limb, by its weight B
  sum_of : (B : ℕ) → z * u ≡ B → (x y v r c l : ℕ) → z * x + y ≡ qh → z * v + r ≡ ql → B * c + l ≡ pl + y * u + v
      → ((ph + x + c) * B + l) * z + r ≡ (ph * B + pl) * z + (qh * B + ql)
  sum_of B k x y v r c l e f g =
      let a : (B * c + l) * z ≡ (pl + y * u + v) * z = ap (λ (w : ℕ). w * z) g in
      let b : (z * x + y) * B ≡ qh * B = ap (λ (w : ℕ). w * B) e in
      let d : y * (z * u) ≡ y * B = ap (λ (w : ℕ). y * w) k in
      omega arith

  pub sum_is : let low = pl + qh % z * u + ql / z in
      ((ph + qh / z + low / 2 ^ 54) * 2 ^ 54 + low % 2 ^ 54) * z + ql % z ≡ (ph * 2 ^ 54 + pl) * z + (qh * 2 ^ 54 + ql)
  sum_is =
      let low = pl + qh % z * u + ql / z in
      sum_of (2 ^ 54) zu (qh / z) (qh % z) (ql / z) (ql % z) (low / 2 ^ 54) (low % 2 ^ 54) (div-add-mod qh z) (div-add-mod ql z)
      (div-add-mod low (2 ^ 54))

  pub part_le : 0 < z → qh % z * u ≤ 2 ^ 54
  part_le Z = le_trans (mul-le-mul_right u (le_of_lt (mod-lt qh Z))) (le_of_eq zu)

-- the squares are those of 2 * a and 2 * b
pub doubled : (a b z ph pl qh ql n : ℕ) → ph * 2 ^ 54 + pl ≡ 2 * a * (2 * a) → qh * 2 ^ 54 + ql ≡ 2 * b * (2 * b)
    → n ≡ (ph * 2 ^ 54 + pl) * z + (qh * 2 ^ 54 + ql) → n ≡ 4 * (a * a * z + b * b)
doubled a b z ph pl qh ql n e f g =
    g ∙ ap (λ (x : ℕ). x * z + (qh * 2 ^ 54 + ql)) e ∙ ap (λ (x : ℕ). 2 * a * (2 * a) * z + x) f ∙ same
  where
    same : 2 * a * (2 * a) * z + 2 * b * (2 * b) ≡ 4 * (a * a * z + b * b)
    same = omega arith

-- ---- two digits fewer in the limbs h and l, and two more in what is lost, r
pub two_fewer : (h l z r n : ℕ) → (h * 2 ^ 54 + l) * z + r ≡ n
    → (h / 4 * 2 ^ 54 + (h % 4 * 2 ^ 52 + l / 4)) * (4 * z) + (l % 4 * z + r) ≡ n
two_fewer h l z r n e = go (h / 4) (h % 4) (l / 4) (l % 4) (div-add-mod h 4) (div-add-mod l 4) ∙ e
  where
    go : (x y v w : ℕ) → 4 * x + y ≡ h → 4 * v + w ≡ l
        → (x * 2 ^ 54 + (y * 2 ^ 52 + v)) * (4 * z) + (w * z + r) ≡ (h * 2 ^ 54 + l) * z + r
    go x y v w e f =
        let a : (4 * x + y) * z ≡ h * z = ap (λ (w : ℕ). w * z) e in
        let b : (4 * v + w) * z ≡ l * z = ap (λ (w : ℕ). w * z) f in
        omega arith
