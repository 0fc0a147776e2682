-- `refusals::queries_refused` meets its contract: the query points are a third of the values, so their size is what `parts_refused` says of
-- the values, three a part.
use mathlib.Core.Path.{◌∙◌}
use Rattle.refusals.proofs.Refusals.{queries_are}
use Rattle.refusals.proofs.queries_refused.Goals as goal

pub returns : goal.returns
returns c = c.parts_refused.ensures ∙ queries_are _
