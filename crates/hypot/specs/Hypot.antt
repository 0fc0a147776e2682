-- hypot as IEEE 754 recommends it: the value nearest to the exact root of the exact sum of two squares, and of two that are equally near
-- the even one. It is computed on whole numbers; specs/Nearest.antt states that no value of the format is nearer, and where it overflows.
use Rattle.std.specs.Prelude.{ℕ, ◌+◌, ◌*◌, false, Float}
use Rattle.std.specs.Float.{nan, inf, fin, Format}
use Rattle.std.specs.Float.Ieee.{up, down}
use Rattle.floats.specs.Root.{round_root}

-- The root of (a / c)² + (b / d)², for c and d above 0, rounded once: over one denominator that sum is ((a * d)² + (b * c)²) / (c * d)².
abbrev pub round_length : Format → (a c b d : ℕ) → Float
round_length f a c b d = round_root f (a * d * (a * d) + b * c * (b * c)) (c * d * (c * d))

-- hypot(x, y). Beside an infinity it is +infinity, whatever the other is; else, beside a NaN, a NaN.
-- A number is the fraction m * up e / down e with either sign, and the length of two is rounded once. That of two zeros is +0.
unfoldable pub hypot_of : Format → Float → Float → Float
unfolding round_root
hypot_of f (inf s) y = inf false
hypot_of f nan nan = nan
hypot_of f nan (inf t) = inf false
hypot_of f nan (fin t n d) = nan
hypot_of f (fin s m e) nan = nan
hypot_of f (fin s m e) (inf t) = inf false
hypot_of f (fin s m e) (fin t n d) = round_length f (m * up e) (down e) (n * up d) (down d)
