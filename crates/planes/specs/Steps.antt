-- What functions below the gatehouse ask of and promise each other; no contract of a public entry speaks of these.
use Rattle.std.specs.Prelude.{[], Option, Some, None}
use Rattle.floats.specs.F64.{one64}
use Rattle.planes.specs.declared.Plane.{Plane}
use Rattle.planes.specs.Planes.{PlaneOrNoArea, no_area, has_plane}

-- what is read behind the end of a list of planes
abbrev pub no_plane : Plane
no_plane = record { n = []; d = one64 }

-- a plane or no area as the code answers it
abbrev pub plane_if : PlaneOrNoArea → Option Plane
plane_if no_area = None
plane_if (has_plane p) = Some p
