-- `overlap::add_faces` meets its contract: from face to face, with the sum so far, it comes to the sum over all faces; the planes that are
-- not yet passed are those of the faces to come, and the lists keep their lengths, so that the room for each face is the same.
use mathlib.Core.Path.{◌≡◌, refl, ap, ◌∙◌}
use mathlib.Core.Bool.{true}
use Prim.Native.Nat.{◌*◌, zero-le}
use native.Mathlib.Omega.{arith}
use lib.Dec.{eqb}
use lib.ListN.{length}
use borrow.Author.Tests.{eqb-true}
use Rattle.places.proofs.Lists.{each_slice}
use Rattle.planes.specs.Planes.{in_fours}
use Rattle.planes.proofs.Stored.{length_fours}
use Rattle.work_lists.proofs.PassedUp.{refused_alike}
use Rattle.overlap.proofs.Own.{beside_start, beside_next_face, beside_next}
use Rattle.overlap.proofs.Sums.{patches_are, lengths_start, lengths_kept, room_kept, ready_at, face_taken}
use Rattle.overlap.proofs.Sums.{add_start, add_step, add_more, add_refused, add_end}
use Rattle.overlap.proofs.add_faces.Goals as goal
use Rattle.overlap.proofs.add_faces.Goals.{At-loop-end}

pub loop-end-init : goal.loop-end-init
loop-end-init c =
    let own_planes = ap in_fours c.own_part-own.ensures ∙ c.requires.stocked.own_planes in
    (lengths_start, zero-le, beside_start own_planes, rw patches_are (add_start c.args.cell.now.sound.ordered))

pub face-face-requires : goal.face-face-requires
face-face-requires c =
    let step = add_step c.loop-end.invariant.3 c.loop-end-test.true refl in
    (step.from, step.upto)

-- there are as many planes as faces where the list has four numbers for each face
many_planes : (c : At-loop-end) → eqb (length c.own_part-own.result.now) (length c.args.cell.now.ends.now * 4) ≡ true
    → length (in_fours c.own_part-own.result.now) ≡ length c.args.cell.now.ends.now
many_planes c t =
    let own = c.own_part-own.result.now in
    omega (arith, eqb-true (length own) (length c.args.cell.now.ends.now * 4) t, length_fours own)

pub own_plane-found-requires : goal.own_plane-found-requires
own_plane-found-requires c =
    let at = (goal.at.own_plane-found-requires c).At-loop-end in record {
      inside = rw c.face-face.ensures (each_slice _ _ c.args.cell.now.corners.now c.args.cell.now.sound.inside);
      next = beside_next_face c.loop-end.invariant.2 c.loop-end-test.true refl (many_planes at) c.loop-end.invariant.1
          c.face-face.ensures;
    }

pub add_face-requires : goal.add_face-requires
add_face-requires c =
    let others = c.other_part-planes.ensures in
    let same = c.loop-end.invariant.0 in record {
      ready = ready_at _ _ c.args.cell.now.sound c.face-face.ensures (rw others c.requires.stocked.few_others)
          (rw same.of_first c.requires.first_len_bound.0) (rw same.of_second c.requires.first_len_bound.1);
      found_value = c.own_plane-found.ensures;
      planes_in_bounds = rw (others, same.of_kept) c.requires.stocked.room;
    }

pub loop-end-preserved : goal.loop-end-preserved
loop-end-preserved c =
    let so_far = c.so_far-u.ensures in
    let inv = c.loop-end.invariant in
    let here = c.loop-end-test.true in (
      lengths_kept inv.0 c.add_face.auto.kept c.add_face.auto.first c.add_face.auto.second,
      omega (arith, c.one_if-j.ensures.1, inv.1),
      beside_next inv.2 here refl c.face-face.ensures c.own_plane-found.ensures
          (rw c.is_some.ensures at c.one_if-j.ensures.0),
      add_more inv.3 here refl
          (face_taken _ _ so_far.0 so_far.2 so_far.3 (room_kept inv.0) c.face-face.ensures c.in_ok-sum.ensures),
    )

pub returns-in_err-sum : goal.returns-in_err-sum
returns-in_err-sum c =
    let so_far = c.so_far-u.ensures in
    let inv = c.loop-end.invariant in
    rw (refused_alike c.from_residual.ensures.0, ← c.other_part-planes.ensures)
    (add_refused inv.3 c.loop-end-test.true refl
    (face_taken _ _ so_far.0 so_far.2 so_far.3 (room_kept inv.0) c.face-face.ensures c.in_err-sum.ensures))

pub returns : goal.returns
returns c = rw (← c.other_part-planes.ensures) (add_end c.loop-end.invariant.3 c.loop-end-test.false)
