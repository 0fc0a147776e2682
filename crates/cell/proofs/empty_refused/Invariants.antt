use Rattle.cell.specs.Refusals.{is_empty, empty_refused}
use Rattle.cell.proofs.Faces.{FaceAsking}
use Rattle.cell.proofs.empty_refused.Given as goal

abbrev pub invariant-loop-end : goal.invariant-loop-end
invariant-loop-end l = FaceAsking is_empty l.corners l.ends (empty_refused l.corners l.ends) l.start l.end-index
