-- `planar::clip_convex` meets its contract: the room is that of the shorter list, so a subject that has room there has it in both; it is
-- laid down in the first, and `run` takes the edges from there.
use native.Mathlib.Omega.{arith}
use Rattle.places.proofs.Stored.{length_pairs}
use Rattle.work_lists.proofs.Alternation.{clipped_full, clipped_run}
use Rattle.work_lists.proofs.Endings.{reads_pairs}
use Rattle.work_lists.proofs.Stretches.{room_is, room_first, room_still, room_second}
use Rattle.planar.specs.Planar.{clip_convex_of}
use borrow.Author.Rules.{rules}
use Rattle.planar.proofs.clip_convex.Goals as goal

pub returns-then-room-n : goal.returns-then-room-n
unfolding clip_convex_of
returns-then-room-n c =
    rw (room_is reads_pairs c.args.first.now c.args.second.now c.shorter-room.ensures)
    (clipped_full _ _ _ _ (rw length_pairs c.if-room-n.true))

pub gather-requires : goal.gather-requires
gather-requires c = record {
  src_in_bounds = omega (
    arith,
    length_pairs c.args.subject.now,
    room_first reads_pairs c.args.first.now c.args.second.now c.shorter-room.ensures,
  );
  src_len_bound = search rules;
}

pub run-requires : goal.run-requires
run-requires c = record {
  first_len_bound = (rw c.gather.auto.dst (search rules), search rules);
  count_le_room = (
    c.if-room-n.false,
    room_still reads_pairs c.args.first.now c.args.second.now c.shorter-room.ensures _ c.gather.auto.dst,
    room_second reads_pairs c.args.first.now c.args.second.now c.shorter-room.ensures,
  );
}

pub returns : goal.returns
unfolding clip_convex_of
returns c =
    rw (room_is reads_pairs c.args.first.now c.args.second.now c.shorter-room.ensures)
    (clipped_run _ _ _ _ (rw length_pairs c.if-room-n.false)
    (rw (rw (length_pairs c.args.subject.now) at c.gather.ensures) at c.run.ensures))
