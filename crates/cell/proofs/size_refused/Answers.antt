-- `cell::size_refused` meets its contract: the three tests are those of the definition, in its order.
use Rattle.cell.specs.Refusals.{size_refused}
use Rattle.cell.proofs.Refusals.{or_three}
use Rattle.cell.proofs.size_refused.Goals as goal

pub returns : goal.returns
unfolding size_refused
returns c = rw (← c.points_refused.ensures) (or_three c.points_refused.result _ _)
