-- The square root as it is taught, in binary: what root and remainder are at every digit, how the last digit rounds, and the three laws
-- by which the digits are right. src/schoolbook.rt has the steps, docs/ROOT.md the lesson.
use Rattle.std.specs.Prelude.{◌≡◌, ◌≢◌}
use Prim.Native.Nat.{ℕ, ◌+◌, ◌-◌, ◌*◌, ◌/◌, ◌%◌, ◌≤◌, ◌<◌, compare}
use Rattle.std.specs.Float.Ieee.{nearest}
use Rattle.floats.specs.Root.{WholeRoot, floor_root}

-- n has been brought down: root is its root so far, and rest the remainder, too small for a larger root
pub record Extracted (n root rest : ℕ) : Type 0 where
  pub parts : root * root + rest ≡ n
  pub small : rest ≤ 2 * root

-- The exact root of n with the last binary digit of its whole part rounded off: half of it, to the nearest whole number, ties to even.
-- That is `kept` or kept + 1. Twice their mid-point is `middle`, and the exact root is compared with it by squares.
unfoldable pub rounded_off : ℕ → ℕ
unfolding floor_root
rounded_off n =
    let root = floor_root n in
    let kept = root / 2 in
    let middle = 2 * kept + 1 in
    nearest kept (compare n (middle * middle))

-- Two more digits are brought down. The next digit is 1 where the trial divisor fits, and it is then taken off; else it is 0.
abbrev pub NextDigit : Type 0
NextDigit =
    (n root rest pair : ℕ) → Extracted n root rest → pair < 4
    → (4 * root + 1 ≤ 4 * rest + pair → Extracted (4 * n + pair) (2 * root + 1) (4 * rest + pair - (4 * root + 1)))
    × (4 * rest + pair < 4 * root + 1 → Extracted (4 * n + pair) (2 * root) (4 * rest + pair))

-- At every digit the root so far is the whole root (specs/Root.antt) of what was brought down.
abbrev pub RootSoFar : Type 0
RootSoFar = (n root rest : ℕ) → Extracted n root rest → WholeRoot n root

-- The last digit 0: it is dropped. The last digit 1: with a remainder the root is rounded up, without one it is a tie, and goes to
-- the even number.
abbrev pub LastDigit : Type 0
LastDigit =
    (n root rest : ℕ) → Extracted n root rest
    → (root % 2 ≡ 0 → rounded_off n ≡ root / 2)
    × (root % 2 ≢ 0 → 0 < rest → rounded_off n ≡ root / 2 + 1)
    × (root % 2 ≢ 0 → rest ≡ 0 → rounded_off n ≡ root / 2 + root / 2 % 2)
