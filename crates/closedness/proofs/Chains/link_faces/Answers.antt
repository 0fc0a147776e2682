-- `closedness::Chains::link_faces` meets its contract: after j turns the sides of the first j faces are linked, and face j runs from the
-- end before it to its own.
use mathlib.Core.Path.{refl}
use Prim.Native.Nat.{◌<◌}
use native.Mathlib.Omega.{arith}
use lib.ListN.{length}
use Rattle.cell.proofs.Faces.{rises_more}
use Rattle.closedness.proofs.Linked.{faces_none, faces_more, faces_whole, face_length}
use Rattle.closedness.proofs.Chains.link_faces.Goals as goal

pub loop-end-init : goal.loop-end-init
loop-end-init g c = record { taken = omega arith; ordered = c.requires.each.1; linked = λ l t. faces_none c.requires.each.1 t }

pub face-requires : goal.face-requires
face-requires g c =
    let s = rises_more c.loop-end.start _ _ c.loop-end.end-index _ (omega arith) refl c.loop-end.invariant.ordered in (s.from, s.upto)

pub loop-end-preserved : goal.loop-end-preserved
loop-end-preserved g c =
    let more : c.loop-end.end-index < length c.args.ends.now = c.loop-end-test.true in
    let s = rises_more c.loop-end.start _ _ c.loop-end.end-index _ more refl c.loop-end.invariant.ordered in
    let length-is = face_length c.loop-end.start _ c.args.corners.now c.face.ensures s.from s.upto in
    record {
      taken = omega arith;
      ordered = s.rest;
      linked = λ l t. faces_more (c.loop-end.invariant.linked l t) more refl c.face.ensures c.link_face.ensures.gains;
    }

pub returns : goal.returns
returns g c l t = faces_whole (c.loop-end.invariant.linked l t) (omega arith)
