use Prim.Native.Nat.{◌+◌}
use Rattle.places.proofs.Walks.{Walking}
use Rattle.flat.specs.Points.{vertices_of, corners_of}
use Rattle.flat.specs.Flat.{newell_side, newell_of}
use Rattle.flat.proofs.space.face_normal.Given as goal

abbrev pub invariant-loop-v : goal.invariant-loop-v
invariant-loop-v l =
    let ps = corners_of (vertices_of l.coords) l.face in
    Walking newell_side ps (newell_of ps) l.first (l.v-index + 1) l.a l.s
