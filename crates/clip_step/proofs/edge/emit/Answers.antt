-- `clip_step::edge::emit` meets its contract: the four ways through the two tests are the four cases of `side_leaves`, and each pushes the
-- points of its case in order.
use Rattle.work_lists.proofs.Filling.{filled_none, filled_more}
use Rattle.clip_step.proofs.edge.emit.Goals as goal

pub returns-then-q_in-2 : goal.returns-then-q_in-2
returns-then-q_in-2 c =
    rw (c.if-p_in.false, c.if-q_in-2.true)
    (filled_more (rw c.segment_intersection-then-q_in-2.ensures at c.push-k.ensures) c.push-then-q_in-2.ensures)

pub returns : goal.returns
returns c = rw (c.if-p_in.false, c.if-q_in-2.false) filled_none
