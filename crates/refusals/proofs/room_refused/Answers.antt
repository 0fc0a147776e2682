-- `refusals::room_refused` meets its contract: a face of n corners needs n - 2 places, and none below two corners.
use Rattle.refusals.specs.Refusals.{room_refused}
use Rattle.refusals.proofs.room_refused.Goals as goal

pub returns : goal.returns
unfolding room_refused
returns c = rw c.saturating_sub.ensures
