-- Where x is a units and y is b units, whatever their signs, `hypot_of` rounds the root of a * a + b * b units squared: over one
-- denominator the sum of the two squared fractions is that number of units squared.
use mathlib.Core.Path.{◌≡◌, refl, ap, ◌∙◌}
use Prim.Native.Nat.{ℕ, ◌+◌, ◌*◌, ◌^◌, ◌<◌}
use native.Mathlib.Nat.{mul-pos}
use native.Mathlib.Omega.{arith}
use mathlib.Core.Bool.{Bool}
use lib.Ieee.{Float, nan, inf, fin, Format, low, up, down}
use lib.Ieee.Fits.{down_pos}
use lib.Ieee.Exact.{HasValue}
use Rattle.floats.specs.Root.{round_root}
use Rattle.hypot.specs.Hypot.{hypot_of}

-- the length of x and y is the rounded root of num / den, which is n units squared
pub record RootOfUnits (f : Format) (x y : Float) (n : ℕ) : Type 0 where
  pub num : ℕ
  pub den : ℕ
  pub some : 0 < den
  pub in_units : num * (2 ^ low f * 2 ^ low f) ≡ n * den
  pub root : hypot_of f x y ≡ round_root f num den

-- with a / c equal to A units and b / d equal to B units, L units being 1: the sum of the squares, over one denominator
sum_of_squares : (a c b d A B L : ℕ) → a * L ≡ A * c → b * L ≡ B * d
    → (a * d * (a * d) + b * c * (b * c)) * (L * L) ≡ (A * A + B * B) * (c * d * (c * d))
sum_of_squares a c b d A B L g h =
    first
    ∙ ap (λ (x : ℕ). x * x * (d * d) + b * L * (b * L) * (c * c)) g
    ∙ ap (λ (x : ℕ). A * c * (A * c) * (d * d) + x * x * (c * c)) h
    ∙ last
  where
    first : (a * d * (a * d) + b * c * (b * c)) * (L * L) ≡ a * L * (a * L) * (d * d) + b * L * (b * L) * (c * c)
    first = omega arith

    last : A * c * (A * c) * (d * d) + B * d * (B * d) * (c * c) ≡ (A * A + B * B) * (c * d * (c * d))
    last = omega arith

pub hypot_of_units : (f : Format) (x y : Float) (s t : Bool) (A B : ℕ) → HasValue x s A (2 ^ low f) → HasValue y t B (2 ^ low f)
    → RootOfUnits f x y (A * A + B * B)
unfolding hypot_of
hypot_of_units f nan y s t A B v w = absurd v
hypot_of_units f (inf u) y s t A B v w = absurd v
hypot_of_units f (fin u m e) nan s t A B v w = absurd w
hypot_of_units f (fin u m e) (inf r) s t A B v w = absurd w
hypot_of_units f (fin u m e) (fin r n d) s t A B v w =
    let some = mul-pos (down_pos e) (down_pos d) in
    record {
      num = m * up e * down d * (m * up e * down d) + n * up d * down e * (n * up d * down e);
      den = down e * down d * (down e * down d);
      some = mul-pos some some;
      in_units = sum_of_squares (m * up e) (down e) (n * up d) (down d) A B (2 ^ low f) v.1 w.1;
      root = refl;
    }
