-- `cell::out_of_range` meets its contract: its two comparisons are those of the definition, whichever way round they are written.
use mathlib.Core.Path.{refl}
use Rattle.cell.specs.Refusals.{out_of_range}
use Rattle.cell.proofs.out_of_range.Goals as goal

pub returns : goal.returns
unfolding out_of_range
returns c = refl
