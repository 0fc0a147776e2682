-- `refusals::check_size_refused` meets its contract: its tests of n are those of the definition, and the list's size is asked for in parts.
use Rattle.refusals.specs.Refusals.{check_size_refused}
use Rattle.refusals.specs.Steps.{parts_refused}
use Rattle.places.proofs.Stored.{length_threes}
use Rattle.refusals.proofs.check_size_refused.Goals as goal

pub returns : goal.returns
unfolding check_size_refused parts_refused
returns c = rw (c.parts_refused.ensures, length_threes c.args.corners.now)
