-- What functions below the gatehouse ask of and promise each other; no contract of a public entry speaks of these.
use Rattle.std.specs.Prelude.{◌≡◌, List, ℕ, ◌%◌, ◌≤◌, T, length, Float}
use Rattle.places.specs.Limits.{most_vertices, most_faces, most_corners}
use Rattle.flat.specs.Points.{vertices_of}
use Rattle.flat.specs.Steps.{Inside}
use Rattle.cell.specs.Faces.{rises}

-- what is known of a cell that is not refused, as the rooms want it
pub record Sound (coords : List Float) (corners ends : List ℕ) : Type 0 where
  pub threes : length coords % 3 ≡ 0
  pub some : 1 ≤ length (vertices_of coords)
  pub few : length (vertices_of coords) ≤ most_vertices
  pub few_faces : length ends ≤ most_faces
  pub few_corners : length corners ≤ most_corners
  pub ordered : T (rises 0 ends (length corners))
  pub inside : Inside (vertices_of coords) corners
