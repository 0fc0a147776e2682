-- A step of Newton's iteration for a whole root is never below it, since twice a product is at most the two squares. Nothing here depends
-- on a word's size.
use Prim.Native.Nat.{ℕ, zero, suc, ◌+◌, ◌-◌, ◌*◌, ◌/◌, ◌≤◌, ◌<◌}
use native.Mathlib.Nat.{le_of_lt, lt_of_not-le, not-suc-le-zero, zero-lt-suc, mul-le-mul_right, le_dest, lt-mul-div-succ}
use native.Mathlib.Decide.{dec_le}
use native.Mathlib.Omega.{arith}
use mathlib.Core.Path.{subst}

-- twice a product is at most the two squares
in_order : (a b : ℕ) → a ≤ b → 2 * (a * b) ≤ a * a + b * b
in_order a b h = subst (λ (x : ℕ). 2 * (a * x) ≤ a * a + x * x) (le_dest h).1 (go (le_dest h).0)
  where
    go : (d : ℕ) → 2 * (a * (a + d)) ≤ a * a + (a + d) * (a + d)
    go d = omega arith

products_le_squares : (a b : ℕ) → 2 * (a * b) ≤ a * a + b * b
products_le_squares a b = either (dec_le a b)
  where
    either : Dec (a ≤ b) → 2 * (a * b) ≤ a * a + b * b
    either (yes h) = in_order a b h
    either (no f) = let k = in_order b a (le_of_lt (lt_of_not-le f)) in omega arith

-- with q for n / r and m for one more than the new guess
above : (n r q m : ℕ) → n < r * (q + 1) → r + q < 2 * m → n < m * m
above n r q m h k =
    let a : (r + q + 1) * r ≤ 2 * m * r = mul-le-mul_right r (omega arith) in
    let b : 2 * (m * r) ≤ m * m + r * r = products_le_squares m r in
    omega arith

-- the new guess is at least the root, whatever the old one was
pub newton_above : (n r : ℕ) → 0 < r → n < ((r + n / r) / 2 + 1) * ((r + n / r) / 2 + 1)
newton_above n r R = above n r (n / r) ((r + n / r) / 2 + 1) (lt-mul-div-succ n R) (half (r + n / r))
  where
    half : (s : ℕ) → s < 2 * (s / 2 + 1)
    half s = omega arith

pub sq_pos : (n r : ℕ) → n < r * r → 0 < r
sq_pos n zero h = absurd (not-suc-le-zero h)
sq_pos n (suc k) h = zero-lt-suc k

-- a guess whose square is above n may fall by one
pub one_less : (n r : ℕ) → n < r * r → n < (r - 1 + 1) * (r - 1 + 1)
one_less n r h = subst (λ (x : ℕ). n < x * x) (let p = sq_pos n r h in omega arith) h
