-- into_ccw: the faces of a cell turned outward. Every step is one operation of f64, in the order that the Rust has.
use Rattle.std.specs.Prelude.{cond, ℕ, List, [], map, reverse, get_or, Float}
use Rattle.std.specs.Float.Ieee.{lt}
use Rattle.places.specs.Stored.{joined}
use Rattle.floats.specs.F64.{zero64}
use Rattle.flat.specs.Points.{Point, minus_of, corners_of, centroid_of}
use Rattle.flat.specs.Flat.{newell_of}
use Rattle.planes.specs.Planes.{dot_of}

-- how far a face looks away from a reference point: its Newell normal against the way from there to its first corner
unfoldable pub away_of : List Point → Point → List ℕ → Float
away_of vs reference face =
    let ps = corners_of vs face in
    dot_of (newell_of ps) (minus_of 3 (get_or ps 0 []) reference)

-- a face turned outward: reversed where that is negative
unfoldable pub outward_of : List Point → Point → List ℕ → List ℕ
outward_of vs reference face = cond (lt (away_of vs reference face) zero64) (reverse face) face

-- into_ccw: the corner list when each face is turned away from the vertex centroid
unfoldable pub outward_corners : List Point → List (List ℕ) → List ℕ
outward_corners vs faces = joined (map (outward_of vs (centroid_of 3 vs)) faces)
