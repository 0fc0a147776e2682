-- `planes::planes` meets its contract: each pass lays down the plane of one face, if it has area, behind those before it, the faces to
-- come give the rest (`Gathering`), and no face is empty, so each has a first corner.
use mathlib.Core.Path.{refl, sym, ◌∙◌}
use native.Mathlib.Omega.{arith}
use Rattle.places.proofs.Lists.{each_slice}
use Rattle.planes.proofs.Stored.{length_fours}
use Rattle.planes.proofs.Faces.{answered_plane, answered_no_area, gather_start, gather_step, gather_corner, gather_none}
use Rattle.planes.proofs.Faces.{gather_one, gather_end}
use borrow.Author.Rules.{rules}
use Rattle.planes.proofs.planes.Goals as goal
use Rattle.planes.proofs.planes.Goals.{in-Some, in_default}

pub loop-end-init : goal.loop-end-init
loop-end-init c =
    let fours = length_fours c.args.out.now in
    (refl, gather_start c.args.cell.now.sound.ordered c.requires.solid (omega (arith, fours, c.requires.ends_in_bounds)))

pub face-face-requires : goal.face-face-requires
face-face-requires c =
    let step = gather_step c.loop-end.invariant.1 (omega arith) refl in
    (step.from, step.upto)

pub plane_of_face-requires : goal.plane_of_face-requires
plane_of_face-requires c =
    rw c.face-face.ensures
    record {
      inside = each_slice _ _ c.args.cell.now.corners.now c.args.cell.now.sound.inside;
      face_nonzero = gather_corner c.loop-end.invariant.1 (omega arith) refl;
    }

pub loop-end-preserved : goal.loop-end-preserved
loop-end-preserved c =
    let answer = rw c.face-face.ensures at c.plane_of_face.ensures in
    let laid = c.loop-end.invariant.1 in
    elim c.match-plane_of_face.branch [
      | in-Some w ↦ rw (w.out-is, w.m-is)
          (search rules, gather_one laid (omega arith) refl (answered_plane _ (sym w.in-Some.is ∙ answer)) w.put_plane.ensures)
      | in_default w ↦ rw (w.out-is, w.m-is)
          (c.loop-end.invariant.0, gather_none laid (omega arith) refl (answered_no_area _ (sym w.in_default.is ∙ answer)))
    ]

pub returns : goal.returns
returns c =
    let all = gather_end c.loop-end.invariant.1 (omega arith) (omega arith) in
    record { value = all.0; out_value = all.1 }
