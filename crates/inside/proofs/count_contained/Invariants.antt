use Rattle.places.specs.Loops.{count_of}
use Rattle.places.proofs.Loops.{Counting}
use Rattle.flat.specs.Points.{vertices_of}
use Rattle.cell.specs.SoundCell.{vertices, faces}
use Rattle.inside.specs.Inside.{holds}
use Rattle.inside.proofs.count_contained.Given as goal

abbrev pub invariant-loop-i : goal.invariant-loop-i
invariant-loop-i l =
    let test = holds (vertices l.cell) (faces l.cell) in
    let ps = vertices_of l.queries in
    Counting test ps (count_of test ps) l.i l.found
