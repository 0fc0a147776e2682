-- What functions below the gatehouse ask of and promise each other; no contract of a public entry speaks of these.
use Rattle.clip_step.specs.Doubled.{square_of, dist3_of}
use Rattle.std.specs.Prelude.{◌≡◌, true, Float}
use Rattle.std.specs.Float.Ieee.{le, lt}
use Rattle.flat.specs.Points.{Point}

-- two points whose sum of squares is at least `sure` are farther apart than eps
pub record Sure (eps sure : Float) : Type 0 where
  pub far : (a b : Point) → le sure (square_of a b) ≡ true → lt eps (dist3_of a b) ≡ true
