-- What a sound cell's lists stand for: its vertices and its faces.
use Rattle.std.specs.Prelude.{◌≡◌, false, List, ℕ}
use Rattle.flat.specs.Points.{Point, vertices_of}
use Rattle.cell.specs.Faces.{faces_of}
use Rattle.cell.specs.Refusals.{empty_refused}
use Rattle.cell.specs.declared.SoundCell.{SoundCell}

abbrev pub vertices : SoundCell → List Point
vertices cell = vertices_of cell.coords.now

abbrev pub faces : SoundCell → List (List ℕ)
faces cell = faces_of cell.corners.now cell.ends.now

-- none of its faces is empty
abbrev pub Solid : SoundCell → Type 0
Solid cell = empty_refused cell.corners.now cell.ends.now ≡ false
