-- The three laws of the schoolbook (specs/Schoolbook.antt) hold. The square of 2 * root + 1 is 4 times that of root and the trial divisor
-- 4 * root + 1, so what is taken off is just what the square grows by; and the last digit of a root is told by its square.
use mathlib.Core.Path.{◌≡◌, refl, sym, ap, ◌∙◌, subst}
use mathlib.Core.Logic.{◌≢◌, ◌⊎◌, inl, inr}
use Prim.Native.Nat.{ℕ, ◌+◌, ◌-◌, ◌*◌, ◌/◌, ◌%◌, ◌≤◌, ◌<◌, compare, Ordering}
use native.Mathlib.Nat.{le_refl, one-mul, zero-mul, add-zero, sub-zero}
use native.Mathlib.Numerals.{add-one}
use native.Mathlib.Omega.{arith}
use lib.Ieee.{nearest}
use Rattle.floats.specs.Root.{WholeRoot, floor_root}
use Rattle.floats.specs.Schoolbook.{Extracted, rounded_off, NextDigit, RootSoFar, LastDigit}
use Rattle.floats.proofs.Squares.{floor_root_lem, one_whole_root, compare_lt, compare_same, compare_gt}

-- root and rest are those of root * root + rest
pub at_hand : (root rest : ℕ) → rest ≤ 2 * root → Extracted (root * root + rest) root rest
at_hand root rest h = record { parts = refl; small = h }

pub next_digit : NextDigit
next_digit n root rest pair e p =
    (λ fits. record { parts = omega arith; small = omega arith }, λ too_large. record { parts = omega arith; small = omega arith })

pub root_so_far : RootSoFar
root_so_far n root rest e = record { reached = omega arith; not_passed = omega arith }

-- ---- the last digit
-- what `rounded_off` is of a number whose whole root is known
pub rounded_by : (n root : ℕ) → WholeRoot n root
    → rounded_off n ≡ nearest (root / 2) (compare n ((2 * (root / 2) + 1) * (2 * (root / 2) + 1)))
unfolding rounded_off
rounded_by n root w =
    ap (λ (r : ℕ). nearest (r / 2) (compare n ((2 * (r / 2) + 1) * (2 * (r / 2) + 1))))
    (one_whole_root n (floor_root n) root (floor_root_lem n) w)

-- k is the root without its last digit; on which side of the square of 2 * k + 1 n lies
module _ (n k rest : ℕ) where
  below : Extracted n (2 * k) rest → n < (2 * k + 1) * (2 * k + 1)
  below e = omega arith

  above : Extracted n (2 * k + 1) rest → 0 < rest → (2 * k + 1) * (2 * k + 1) < n
  above e r = omega arith

  same : Extracted n (2 * k + 1) rest → rest ≡ 0 → n ≡ (2 * k + 1) * (2 * k + 1)
  same e r = omega arith

pub last_digit : LastDigit
last_digit n root rest e = (
  λ z. by (compare_lt n middle_squared (below n (root / 2) rest (even z))),
  λ o r. by (compare_gt n middle_squared (above n (root / 2) rest (odd o) r)) ∙ sym (add-one (root / 2)),
  λ o r. by (compare_same n middle_squared (same n (root / 2) rest (odd o) r)),
)
  where
    middle_squared : ℕ
    middle_squared = (2 * (root / 2) + 1) * (2 * (root / 2) + 1)

    by : {side : Ordering} → compare n middle_squared ≡ side → rounded_off n ≡ nearest (root / 2) side
    by h = rounded_by n root (root_so_far n root rest e) ∙ ap (nearest (root / 2)) h

    even : root % 2 ≡ 0 → Extracted n (2 * (root / 2)) rest
    even z = subst (λ (r : ℕ). Extracted n r rest) (omega arith) e

    odd : root % 2 ≢ 0 → Extracted n (2 * (root / 2) + 1) rest
    odd o = subst (λ (r : ℕ). Extracted n r rest) (omega arith) e

-- ---- the first law as `step` uses it
-- the digit as `step` has it: 1 where the trial divisor fits, else 0
abbrev pub Digit : (root rest pair digit : ℕ) → Type 0
Digit root rest pair digit =
    ((4 * root + 1 ≤ 4 * rest + pair) × (digit ≡ 1)) ⊎ ((4 * rest + pair < 4 * root + 1) × (digit ≡ 0))

pub next_by_digit : (n root rest pair digit : ℕ) → Extracted n root rest → pair < 4 → Digit root rest pair digit
    → Extracted (4 * n + pair) (2 * root + digit) (4 * rest + pair - digit * (4 * root + 1))
next_by_digit n root rest pair digit e p (inl (fits, one)) = rw (one, one-mul) ((next_digit n root rest pair e p).0 fits)
next_by_digit n root rest pair digit e p (inr (too_large, none)) =
    rw (none, zero-mul, add-zero, sub-zero) ((next_digit n root rest pair e p).1 too_large)

-- what a digit takes off is there
pub taken_off : (root rest pair digit : ℕ) → Digit root rest pair digit → (digit ≤ 1) × (digit * (4 * root + 1) ≤ 4 * rest + pair)
taken_off root rest pair digit (inl (fits, one)) = rw (one, one-mul) (le_refl 1, fits)
taken_off root rest pair digit (inr (too_large, none)) = rw (none, zero-mul) (omega arith, omega arith)
