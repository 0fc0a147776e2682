-- `clip::clip_face` meets its contract: the room is that of the shorter list, so a face that has room there has it in both; it is laid down
-- in the first, and `run` takes the planes from there.
use Rattle.clip.specs.Clip.{clip_face_of}
use native.Mathlib.Omega.{arith}
use Rattle.flat.proofs.Corners.{length_corners}
use Rattle.work_lists.proofs.Alternation.{clipped_full, clipped_run}
use Rattle.work_lists.proofs.Endings.{reads_threes}
use Rattle.work_lists.proofs.Stretches.{room_is, room_first, room_still, room_second}
use borrow.Author.Rules.{rules}
use Rattle.clip.proofs.clip_face.Goals as goal

pub returns-then-room-face : goal.returns-then-room-face
unfolding clip_face_of
returns-then-room-face c =
    rw (room_is reads_threes c.args.first.now c.args.second.now c.shorter-room.ensures)
    (clipped_full _ _ _ _ (rw length_corners c.if-room-face.true))

pub gather-requires : goal.gather-requires
gather-requires c = record {
  inside = c.requires.inside;
  face_in_bounds = omega (arith, room_first reads_threes c.args.first.now c.args.second.now c.shorter-room.ensures);
  face_len_bound = search rules;
}

pub run-requires : goal.run-requires
run-requires c = record {
  first_len_bound = (rw c.gather.auto.dst (search rules), search rules);
  count_le_room = (
    c.if-room-face.false,
    room_still reads_threes c.args.first.now c.args.second.now c.shorter-room.ensures _ c.gather.auto.dst,
    room_second reads_threes c.args.first.now c.args.second.now c.shorter-room.ensures,
  );
}

pub returns : goal.returns
unfolding clip_face_of
returns c =
    rw (room_is reads_threes c.args.first.now c.args.second.now c.shorter-room.ensures)
    (clipped_run _ _ _ _ (rw length_corners c.if-room-face.false) (rw c.gather.ensures at c.run.ensures))
