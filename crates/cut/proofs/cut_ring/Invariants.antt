use Prim.Native.Nat.{◌-◌}
use lib.ListN.{length}
use Rattle.flat.specs.Points.{vertices_of}
use Rattle.cut.specs.Cut.{cut_in}
use Rattle.cut.proofs.Going.{Going}
use Rattle.cut.proofs.cut_ring.Given as goal

abbrev pub invariant-loop-t : goal.invariant-loop-t
invariant-loop-t l =
    let vs = vertices_of l.coords in
    Going vs l.face l.axis l.dir (cut_in vs l.axis l.face) l.initial.out l.ks l.ps l.out (length l.face - l.t) l.t l.tests
