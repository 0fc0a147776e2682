-- `planar::advance` meets its contract: under 3 points the outline is gone; else the trimmed outline stands at the front of the list as far
-- as it has room, which are the cases of `edge_change`.
use native.Mathlib.Omega.{arith}
use borrow.Author.Tests.{lt-ltb, le-ltb}
use Rattle.places.proofs.Stored.{length_pairs}
use Rattle.work_lists.specs.Steps.{shows_gone, shows_full, shows_made}
use Rattle.work_lists.proofs.Filling.{filled_read, filled_over, filled_within}
use Rattle.planar.specs.Planar.{edge_change}
use borrow.Author.Rules.{rules}
use Rattle.planar.proofs.advance.Goals as goal

pub returns-then-src-lt3 : goal.returns-then-src-lt3
unfolding edge_change
returns-then-src-lt3 c =
    rw (length_pairs c.args.src.now, lt-ltb _ _ c.if-src-lt3.true) shows_gone

pub trim_at_edge-m-requires : goal.trim_at_edge-m-requires
trim_at_edge-m-requires c =
    record { nonzero = omega (arith, length_pairs c.args.src.now); src_len_bound = search rules }

pub returns-then-room-m : goal.returns-then-room-m
unfolding edge_change
returns-then-room-m c =
    rw (length_pairs c.args.src.now, le-ltb _ _ c.if-src-lt3.false, filled_over c.trim_at_edge-m.ensures c.if-room-m.true) shows_full

pub returns : goal.returns
unfolding edge_change
returns c =
    rw (length_pairs c.args.src.now, le-ltb _ _ c.if-src-lt3.false, filled_within c.trim_at_edge-m.ensures c.if-room-m.false)
    (shows_made c.if-room-m.false (filled_read c.trim_at_edge-m.ensures (search rules)))
