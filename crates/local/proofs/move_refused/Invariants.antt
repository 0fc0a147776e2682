use Rattle.places.proofs.Loops.{Asking}
use Rattle.flat.specs.Points.{vertices_of}
use Rattle.local.specs.Local.{origin_of, stays_behind, move_refused}
use Rattle.local.proofs.move_refused.Given as goal

abbrev pub invariant-loop-i : goal.invariant-loop-i
invariant-loop-i l =
    let vs = vertices_of l.coords in
    Asking (stays_behind (origin_of vs)) vs (move_refused vs) l.i
