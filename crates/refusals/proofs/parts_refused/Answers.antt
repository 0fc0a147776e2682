-- `refusals::parts_refused` meets its contract: its two tests are those of the definition.
use mathlib.Core.Path.{refl}
use Rattle.refusals.specs.Steps.{parts_refused}
use Rattle.refusals.proofs.parts_refused.Goals as goal

pub returns : goal.returns
unfolding parts_refused
returns c = refl
