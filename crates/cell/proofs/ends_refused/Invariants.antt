use Prim.Native.Nat.{◌<◌}
use lib.ListN.{length}
use Rattle.cell.specs.Refusals.{ends_refused}
use Rattle.cell.proofs.Faces.{Falling}
use Rattle.cell.proofs.ends_refused.Given as goal

abbrev pub invariant-loop-end : goal.invariant-loop-end
invariant-loop-end l =
    (l.start < 4294967296) × Falling l.ends (length l.corners) (ends_refused l.corners l.ends) l.fall l.start l.end-index
