use Rattle.places.proofs.Loops.{Taking}
use Rattle.shapes.specs.Shapes.{add_tet, volume_by}
use Rattle.shapes.proofs.volume_by.Given as goal

abbrev pub invariant-loop-row : goal.invariant-loop-row
invariant-loop-row l = Taking (add_tet l.ps) l.table (volume_by l.table l.ps) l.row-index l.v
