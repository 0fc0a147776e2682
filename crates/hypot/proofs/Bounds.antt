-- Bounds of a length, for those who use `hypot`: it is a value of the format, no shorter than either operand, and no longer than any value
-- of the format that is at least the exact length, so finite where there is one. A value on the far side of the length from the exact root
-- would be nearer to that root.
use mathlib.Core.Path.{sym, subst}
use Prim.Native.Nat.{ℕ, ◌+◌, ◌*◌, ◌^◌, ◌≤◌, ◌<◌}
use native.Mathlib.Nat.{lt_of_le_of_lt, mul-le-mul}
use native.Mathlib.Omega.{arith, by_contra}
use mathlib.Core.Bool.{false}
use lib.Dec.{T}
use lib.Ieee.{Float, nan, inf, fin, Format, low, fits}
use lib.Ieee.Fits.{inf-fits, nan-fits}
use lib.Ieee.Exact.{HasValue}
use lib.Ieee.Scale.{overflow}
use Rattle.floats.specs.Nearest.{NoNearer}
use Rattle.floats.proofs.Delivered.{round_root_fits}
use Rattle.floats.proofs.Grid.{OnGrid}
use Rattle.floats.proofs.Taken.{value_is}
use Rattle.hypot.specs.Hypot.{hypot_of}
use Rattle.hypot.specs.Nearest.{IsUnits}
use Rattle.hypot.proofs.Nearest.{units_on_grid, rounded_hypot}

-- the length of any two, be they NaNs or infinities, is a value of the format
pub hypot_fits : (f : Format) (x y : Float) → T (fits f (hypot_of f x y))
unfolding hypot_of
hypot_fits f nan nan = nan-fits f
hypot_fits f nan (inf t) = inf-fits f false
hypot_fits f nan (fin t n d) = nan-fits f
hypot_fits f (inf s) y = inf-fits f false
hypot_fits f (fin s m e) nan = nan-fits f
hypot_fits f (fin s m e) (inf t) = inf-fits f false
hypot_fits f (fin s m e) (fin t n d) = round_root_fits f _ _

-- ---- where no value is nearer to the root of n than r: r is at least a value below that root, and at most a value above it
above_lower : (n r a : ℕ) → a * a ≤ n → NoNearer n r a → a ≤ r
above_lower n r a h g = by_contra a r (λ l. let c : r + a + 1 ≤ a + a = omega arith in omega (arith, mul-le-mul c c, g.1 l))

below_upper : (n r b : ℕ) → n ≤ b * b → NoNearer n r b → r ≤ b
below_upper n r b h g = by_contra r b (λ l. let c : b + b + 1 ≤ r + b = omega arith in omega (arith, mul-le-mul c c, g.0 l))

-- ---- the bounds
pub no_shorter : (f : Format) (x y : Float) (a b r : ℕ) → T (fits f x) → T (fits f y) → IsUnits f x a → IsUnits f y b
    → HasValue (hypot_of f x y) false r (2 ^ low f) → (a ≤ r) × (b ≤ r)
no_shorter f x y a b r hx hy v w h =
    let n = a * a + b * b in
    let t = rounded_hypot f x y a b v w in
    subst (λ (z : ℕ). (a ≤ z) × (b ≤ z)) (sym (value_is f n (hypot_of f x y) r t h)) (
      above_lower n t.r a (omega arith) (t.no_nearer a (units_on_grid f x a hx v)),
      above_lower n t.r b (omega arith) (t.no_nearer b (units_on_grid f y b hy w)),
    )

-- g units, in range, are at least the exact length
pub no_longer : (f : Format) (x y : Float) (a b g : ℕ) → T (fits f x) → T (fits f y) → IsUnits f x a → IsUnits f y b → OnGrid f g
    → g < overflow f → a * a + b * b ≤ g * g → (r : ℕ) × HasValue (hypot_of f x y) false r (2 ^ low f) × (r ≤ g)
no_longer f x y a b g hx hy v w G l h =
    let t = rounded_hypot f x y a b v w in
    let s : t.r ≤ g = below_upper (a * a + b * b) t.r g h (t.no_nearer g G) in
    (t.r, t.in_range (lt_of_le_of_lt s l), s)
