use lib.ListN.{length}
use Rattle.places.specs.Stored.{joined}
use Rattle.exact.specs.Facing.{reversed_by, how_many}
use Rattle.cell.specs.Faces.{faces_of}
use Rattle.facing.specs.Steps.{code_choice}
use Rattle.facing.proofs.Reversing.{Reversing}
use Rattle.facing.proofs.reverse_faces.Given as goal

abbrev pub invariant-loop-f : goal.invariant-loop-f
invariant-loop-f l =
    Reversing l.initial.corners l.ends l.code (joined (reversed_by (code_choice l.code) (faces_of l.initial.corners l.ends)))
    (how_many (code_choice l.code) (length l.ends)) l.start l.f l.count l.corners
