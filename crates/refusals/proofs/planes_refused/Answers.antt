-- `refusals::planes_refused` meets its contract: the planes are a quarter of the numbers, so their size is what `parts_refused` says of the
-- numbers, four a part.
use mathlib.Core.Path.{◌∙◌}
use Rattle.refusals.proofs.Refusals.{planes_are}
use Rattle.refusals.proofs.planes_refused.Goals as goal

pub returns : goal.returns
returns c = c.parts_refused.ensures ∙ planes_are _
