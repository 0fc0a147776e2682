-- `volume::measure_in` meets its contract: each pass adds one face (`Facing`), which comes to all triangles (`measured_all`), and the
-- counts stay at most the corners and faces that were passed.
use mathlib.Core.Path.{◌≡◌, refl}
use native.Mathlib.Omega.{arith}
use lib.ListN.{get_or}
use lib.Seq.{length-slice, slice}
use Rattle.places.proofs.Stored.{length_threes}
use Rattle.cell.specs.SoundCell.{vertices, faces}
use Rattle.places.proofs.Lists.{each_slice}
use Rattle.cell.proofs.Faces.{face_start, face_step, face_next, face_end_lem}
use Rattle.volume.specs.Steps.{add_face}
use Rattle.volume.proofs.Passes.{measured_all, added}
use borrow.Author.Rules.{rules}
use Rattle.volume.proofs.measure_in.Goals as goal

pub vertex_centroid-refp-requires : goal.vertex_centroid-refp-requires
vertex_centroid-refp-requires c =
    omega (arith, length_threes c.args.cell.now.coords.now, c.args.cell.now.sound.threes, c.args.cell.now.sound.few)

pub loop-end-init : goal.loop-end-init
loop-end-init c =
    let all = measured_all (vertices c.args.cell.now) (faces c.args.cell.now) in
    (refl, omega arith, omega arith, face_start c.args.cell.now.sound.ordered (rw c.vertex_centroid-refp.ensures all))

pub face-requires : goal.face-requires
face-requires c =
    let step = face_step c.loop-end.invariant.3 (search rules) refl in
    (step.from, step.upto)

pub add_face-m-requires : goal.add_face-m-requires
add_face-m-requires c =
    let end = get_or c.args.cell.now.ends.now c.loop-end.end-index 0 in
    let step = face_step c.loop-end.invariant.3 (search rules) refl in
    let long = length-slice c.loop-end.start end c.args.cell.now.corners.now step.upto in
    rw c.face.ensures (record {
      inside = each_slice c.loop-end.start end c.args.cell.now.corners.now c.args.cell.now.sound.inside;
      face_len_bound = (omega arith, omega arith);
      triangles_le_most_corners = (omega arith, omega arith);
    })

pub loop-end-preserved : goal.loop-end-preserved
loop-end-preserved c =
    let end = get_or c.args.cell.now.ends.now c.loop-end.end-index 0 in
    let vs = vertices c.args.cell.now in
    let step = face_step c.loop-end.invariant.3 (search rules) refl in
    let long = length-slice c.loop-end.start end c.args.cell.now.corners.now step.upto in
    let face = slice c.loop-end.start end c.args.cell.now.corners.now in
    let same : c.add_face-m.result ≡ add_face vs c.vertex_centroid-refp.result face c.loop-end.m = cc in
    let counts = added vs c.vertex_centroid-refp.result face c.loop-end.m c.add_face-m.result same in (
      omega (arith, c.add_face-m.auto.out),
      omega arith,
      omega arith,
      face_next c.loop-end.invariant.3 (search rules) refl same,
    )

pub returns : goal.returns
returns c = face_end_lem c.loop-end.invariant.3 (search rules)
