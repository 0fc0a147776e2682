-- `planar::convex_intersection_area` meets its contract: the stretch that is shown has the points that are left, and the magnitude of its
-- signed area is the answer; of no points that is +0.
use native.Mathlib.Omega.{arith}
use Rattle.work_lists.proofs.Endings.{reads_pairs, outline_fits, outline_small}
use Rattle.planar.proofs.Areas.{area_none, area_shown}
use Rattle.planar.proofs.convex_intersection_area.Goals as goal

pub returns-in_default : goal.returns-in_default
returns-in_default c = area_none (rw c.in_default.is at c.in_ok-left.ensures)

pub overflow_mul-left : goal.overflow_mul-left
overflow_mul-left c =
    omega (arith, outline_small reads_pairs (rw c.in-Some.is at c.in_ok-left.ensures) {k = 3072} (omega arith) (omega arith))

pub shown-ps-requires : goal.shown-ps-requires
shown-ps-requires c = outline_fits reads_pairs (rw c.in-Some.is at c.in_ok-left.ensures)

pub returns : goal.returns
returns c =
    area_shown c.clip_convex.new.first c.clip_convex.new.second (rw c.in-Some.is at c.in_ok-left.ensures)
    c.shown-ps.ensures c.signed_area2.ensures c.magnitude.ensures
