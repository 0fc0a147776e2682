-- `planar::clip_convex_shown` meets its contract: `clip_convex` ends with the outline at the front of its list, and `settle_answer` then
-- clears every number but those that the answer shows.
use Rattle.work_lists.proofs.Endings.{reads_pairs}
use Rattle.work_lists.proofs.Clearing.{shown_fits, settled}
use Rattle.planar.proofs.clip_convex_shown.Goals as goal

pub settle_answer-requires : goal.settle_answer-requires
settle_answer-requires c =
    shown_fits reads_pairs c.clip_convex-r.ensures

pub returns : goal.returns
returns c =
    settled reads_pairs c.clip_convex-r.ensures c.clip_convex-r.auto.first c.clip_convex-r.auto.second
    c.settle_answer.ensures.first_value c.settle_answer.ensures.second_value
