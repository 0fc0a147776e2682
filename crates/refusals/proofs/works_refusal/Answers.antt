-- `refusals::works_refusal` meets its contract: the one row of the definition asks for either list, as the code does.
use mathlib.Core.Path.{◌≡◌}
use mathlib.Core.Bool.{◌||◌}
use Rattle.cell.proofs.Refusals.{no_row}
use Rattle.refusals.specs.Refusals.{work_refused, works_refusal}
use Rattle.places.specs.declared.refusal.Refusal.TheVariants.{Size}
use Rattle.refusals.proofs.Refusals.{row_yes, row_no}
use Rattle.refusals.proofs.works_refusal.Goals as goal
use Rattle.refusals.proofs.works_refusal.Goals.{After-work_refused-2}

-- the code asks for both lists as the definition does
asked : (c : After-work_refused-2)
    → c.work_refused.result || c.work_refused-2.result ≡ work_refused c.args.first.now || work_refused c.args.second.now
asked c = rw (c.work_refused.ensures, c.work_refused-2.ensures)

pub returns-then-work_refused : goal.returns-then-work_refused
unfolding works_refusal
returns-then-work_refused c = row_yes Size _ (asked (goal.at.returns-then-work_refused c).After-work_refused-2) c.if-work_refused.true

pub returns : goal.returns
unfolding works_refusal
returns c = row_no Size _ (asked (goal.at.returns c).After-work_refused-2) c.if-work_refused.false no_row
