-- `clip::clip_face_shown` meets its contract: `clip_face` ends with the outline at the front of its list, and `settle_answer` then clears
-- every number but those that the answer shows.
use Rattle.work_lists.proofs.Endings.{reads_threes}
use Rattle.work_lists.proofs.Clearing.{shown_fits, settled}
use Rattle.clip.proofs.clip_face_shown.Goals as goal

pub settle_answer-requires : goal.settle_answer-requires
settle_answer-requires c =
    shown_fits reads_threes c.clip_face-r.ensures

pub returns : goal.returns
returns c =
    settled reads_threes c.clip_face-r.ensures c.clip_face-r.auto.first c.clip_face-r.auto.second
    c.settle_answer.ensures.first_value c.settle_answer.ensures.second_value
