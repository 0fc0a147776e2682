-- `cell::ends_refused` meets its contract: `fall` says whether an end before k falls, and with the ends from k on that is the definition.
use mathlib.Core.Path.{refl}
use Rattle.cell.specs.Refusals.{ends_refused}
use Rattle.cell.proofs.Faces.{falls_start}
use borrow.Author.Rules.{rules}
use Rattle.cell.proofs.ends_refused.Goals as goal

pub loop-end-init : goal.loop-end-init
unfolding ends_refused
loop-end-init c = (search rules, falls_start refl)
