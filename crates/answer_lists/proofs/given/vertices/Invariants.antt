use Rattle.flat.specs.Points.{vertices_of}
use Rattle.answer_lists.proofs.Corners.{Copied}
use Rattle.answer_lists.proofs.given.vertices.Given as goal

abbrev pub invariant-loop-k : goal.invariant-loop-k
invariant-loop-k g l = Copied (vertices_of l.p) l.initial.vs l.k l.vs
