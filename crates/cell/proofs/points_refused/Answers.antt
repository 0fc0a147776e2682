-- `cell::points_refused` meets its contract: what is asked of the coordinates says the same of the vertices, a third as many.
use Rattle.cell.proofs.Refusals.{points_by_number}
use Rattle.cell.proofs.points_refused.Goals as goal

pub returns : goal.returns
returns c = points_by_number c.args.coords.now
