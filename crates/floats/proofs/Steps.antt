-- The steps of `root_pattern`, put together: the pattern that it returns is that of the root. The 54 digits that are extracted are those
-- of the root of a * 4 ^ 27, so without the last one they are the 53 that an f64 keeps.
use mathlib.Core.Path.{◌≡◌, sym, ap, ◌∙◌, subst}
use Prim.Native.Nat.{ℕ, ◌+◌, ◌-◌, ◌*◌, ◌/◌, ◌^◌, ◌≤◌, ◌<◌, compare}
use native.Mathlib.Nat.{add-zero}
use native.Mathlib.Omega.{arith}
use lib.Pow.{pow-add}
use mathlib.Core.Bool.{false}
use lib.Ieee.{binary64, units, of_bits}
use lib.Ieee.Fits.{nearest-le}
use lib.Ieee.Nearest.{nearest-ge}
use Rattle.floats.specs.Root.{WholeRoot}
use Rattle.floats.specs.Schoolbook.{Extracted, rounded_off}
use Rattle.floats.specs.Steps.{Scaling, RootPattern}
use Rattle.floats.proofs.Squares.{root_ge, root_lt}
use Rattle.floats.proofs.ThreeLaws.{root_so_far, rounded_by}
use Rattle.floats.proofs.Rounded.{root_rounded}
use Rattle.floats.proofs.Writing.{in_range, pack, pack_no_nan}

-- ---- the digits of a, and 54 digits more behind them
from_none : (a root rest : ℕ) → Extracted ((0 * 0 + 0) * 2 ^ 54 + a) root rest → Extracted a root rest
from_none a root rest e = subst (λ (n : ℕ). Extracted n root rest) (omega arith) e

pub first_size : (a root rest : ℕ) → a < 2 ^ 54 → Extracted ((0 * 0 + 0) * 2 ^ 54 + a) root rest → root < 2 ^ 27
first_size a root rest A e = root_lt a root (2 ^ 27) (root_so_far a root rest (from_none a root rest e)) A

pub both : (a n first left root rest : ℕ) → Extracted ((0 * 0 + 0) * 2 ^ 54 + a) first left
    → Extracted ((first * first + left) * 2 ^ 54 + n) root rest → Extracted (a * 2 ^ 54 + n) root rest
both a n first left root rest e g =
    subst (λ (m : ℕ). Extracted m root rest) (ap (λ (m : ℕ). m * 2 ^ 54 + n) (from_none a first left e).parts) g

-- where all 54 digits behind those of a are zeros, they add nothing
pub zeros_behind : (a root rest : ℕ) → Extracted (a * 2 ^ 54 + 0) root rest → Extracted (a * 2 ^ 54) root rest
zeros_behind a root rest e = subst (λ (m : ℕ). Extracted m root rest) (add-zero (a * 2 ^ 54)) e

-- ---- the root in the units of an f64
-- a * 4 ^ h is a * 4 ^ 27 over 4, times 4 ^ k, for the k with h = 26 + k
scaled : (a h : ℕ) → 26 ≤ h → 4 * (a * (2 ^ h * 2 ^ h)) ≡ a * 2 ^ 54 * (2 ^ (h - 26) * 2 ^ (h - 26))
scaled a h H =
    ap (λ (p : ℕ). 4 * (a * (p * p))) (ap (λ (k : ℕ). 2 ^ k) split ∙ pow-add 2 26 (h - 26)) ∙ same (2 ^ (h - 26))
  where
    split : h ≡ 26 + (h - 26)
    split = omega arith

    same : (s : ℕ) → 4 * (a * (2 ^ 26 * s * (2 ^ 26 * s))) ≡ a * 2 ^ 54 * (s * s)
    same s = omega arith

pub rounded_size : (n root : ℕ) → WholeRoot n root → (root / 2 ≤ rounded_off n) × (rounded_off n ≤ root / 2 + 1)
rounded_size n root w =
    let side = compare n ((2 * (root / 2) + 1) * (2 * (root / 2) + 1)) in
    rw (rounded_by n root w) (nearest-ge (root / 2) side, omega (arith, nearest-le (root / 2) side))

module _ {b a h root rest : ℕ} (s : Scaling b a h) (e : Extracted (a * 2 ^ 54) root rest) where
  whole : WholeRoot (a * 2 ^ 54) root
  whole = root_so_far (a * 2 ^ 54) root rest e

  -- the root that is extracted has 54 digits
  sized : (2 ^ 53 ≤ root) × (root < 2 ^ 54)
  sized = (root_ge (a * 2 ^ 54) root (2 ^ 53) whole (omega arith), root_lt (a * 2 ^ 54) root (2 ^ 54) whole (omega arith))

  -- r, what `round_off` gives of the 54 digits
  module _ (r : ℕ) (is : r ≡ rounded_off (root * root + rest)) where
    rounded : r ≡ rounded_off (a * 2 ^ 54)
    rounded = is ∙ ap rounded_off e.parts

    pub rounded_sized : (2 ^ 52 ≤ r) × (r ≤ 2 ^ 53)
    rounded_sized = rw rounded (omega (arith, sized, rounded_size (a * 2 ^ 54) root whole))

    bounded : r * 2 ^ (h - 26) < 2 ^ 2098
    bounded = in_range binary64 r (h - 26) rounded_sized.1 (omega arith)

    pub pattern_is : RootPattern b ((h - 26) * 2 ^ 52 + r)
    pattern_is =
        let n = a * (2 ^ h * 2 ^ h) in
        let exact = scaled a h s.from in
        let root_is = root_rounded binary64 (of_bits binary64 b) n (a * 2 ^ 54) (h - 26) root s.value exact whole sized.0 sized.1 in
        record {
          root = pack binary64 r (h - 26) (λ _. rounded_sized.0) rounded_sized.1 bounded
              ∙ ap (λ (q : ℕ). units binary64 false q (h - 26)) rounded ∙ sym root_is;
          no_nan = pack_no_nan binary64 r (h - 26) (λ _. rounded_sized.0) rounded_sized.1 bounded;
        }
