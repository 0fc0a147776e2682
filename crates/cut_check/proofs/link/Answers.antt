-- `cut_check::link` meets its contract: the corner s comes before the first of the chain of its place, so after s turns the chains have
-- the first s corners.
use mathlib.Core.Path.{refl}
use Prim.Native.Nat.{◌<◌}
use native.Mathlib.Omega.{arith}
use lib.ListN.{get_or, length-set}
use Rattle.cut_check.proofs.Corners.{place_below}
use Rattle.cut_check.proofs.Linked.{linked_start, linked_more}
use Rattle.cut_check.proofs.link.Goals as goal

pub loop-s-init : goal.loop-s-init
loop-s-init c = record {
  head_len = refl;
  next_len = refl;
  linked = linked_start c.requires.blank.0 c.requires.blank.1;
}

pub loop-s-preserved : goal.loop-s-preserved
loop-s-preserved c =
    -- the place of the corner has a chain
    let known : get_or c.args.corners.now c.loop-s.s 0 < c.args.n =
    place_below {s = c.loop-s.s} c.requires.checked_corners (omega arith) refl in
    record {
      head_len = rw length-set c.loop-s.invariant.head_len;
      next_len = rw length-set c.loop-s.invariant.next_len;
      linked = linked_more _ c.loop-s.invariant.linked (omega arith) refl (omega arith);
    }
