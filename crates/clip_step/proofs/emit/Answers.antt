-- `clip_step::emit` meets its contract: the four ways through the two tests are the four cases of `side_leaves`, and each pushes the points
-- of its case in order.
use Rattle.work_lists.proofs.Filling.{filled_none, filled_more}
use Rattle.clip_step.proofs.emit.Goals as goal

pub returns-then-db-eps-2 : goal.returns-then-db-eps-2
returns-then-db-eps-2 c =
    rw (c.if-da-eps.false, c.if-db-eps-2.true)
    (filled_more (rw c.segment_plane_intersection-then-db-eps-2.ensures at c.push-k.ensures) c.push-then-db-eps-2.ensures)

pub returns : goal.returns
returns c = rw (c.if-da-eps.false, c.if-db-eps-2.false) filled_none
