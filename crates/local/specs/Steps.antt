-- What the functions of this crate ask of each other; no contract of a public entry speaks of it.
use Rattle.std.specs.Prelude.{◌≡◌, ℕ, ◌*◌, ◌^◌, Bool, false, Float}
use Rattle.exact.specs.Scaled.{signed, exact_of}
use Rattle.flat.specs.Points.{Point, at}
use Rattle.cell.specs.Refusals.{out_of_range}

-- none of a point's coordinates is out of range
pub record InRange (p : Point) : Type 0 where
  pub x : out_of_range (at p 0) ≡ false
  pub y : out_of_range (at p 1) ≡ false
  pub z : out_of_range (at p 2) ≡ false

-- a whole number up to 2 ^ 40 in magnitude
pub record Whole (o : Float) : Type 0 where
  pub sign : Bool
  pub size : ℕ
  pub value : exact_of o ≡ signed sign (size * 2 ^ 1074)
  pub within : out_of_range o ≡ false

-- each coordinate of a point is one
pub record WholePoint (p : Point) : Type 0 where
  pub x : Whole (at p 0)
  pub y : Whole (at p 1)
  pub z : Whole (at p 2)
