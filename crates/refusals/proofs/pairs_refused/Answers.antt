-- `refusals::pairs_refused` meets its contract: the points are half as many as the numbers, so the size of the points is what
-- `parts_refused` says of the numbers, two a part.
use mathlib.Core.Path.{◌∙◌}
use Rattle.refusals.proofs.Refusals.{pairs_are}
use Rattle.refusals.proofs.pairs_refused.Goals as goal

pub returns : goal.returns
returns c = c.parts_refused.ensures ∙ pairs_are _
