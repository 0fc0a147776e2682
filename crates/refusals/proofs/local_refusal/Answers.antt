-- `refusals::local_refusal` meets its contract: the list's own refusal decides where there is one; past it there is a vertex and no number
-- is out of range, as the test for the move requires, and that test is the one row left.
use mathlib.Core.Path.{sym}
use Rattle.cell.proofs.Refusals.{no_row}
use Rattle.places.specs.declared.refusal.Refusal.TheVariants.{Inexact}
use Rattle.refusals.specs.Refusals.{local_refusal}
use Rattle.refusals.proofs.Refusals.{or_found, or_other, row_yes, row_no, list_counted, list_numbers}
use Rattle.refusals.proofs.local_refusal.Goals as goal

pub returns-in_err-list_refusal : goal.returns-in_err-list_refusal
unfolding local_refusal
returns-in_err-list_refusal c = or_found _ c.from_residual.ensures.1 c.in_err-list_refusal.ensures

pub move_refused-requires : goal.move_refused-requires
move_refused-requires c =
    let passes = sym c.in_ok-list_refusal.ensures in
    record { nonzero = (list_counted c.args.coords.now passes).some; coords_value = list_numbers c.args.coords.now passes }

pub returns-then-move_refused : goal.returns-then-move_refused
unfolding local_refusal
returns-then-move_refused c =
    or_other _ c.in_ok-list_refusal.ensures (row_yes Inexact _ c.move_refused.ensures c.if-move_refused.true)

pub returns : goal.returns
unfolding local_refusal
returns c =
    or_other _ c.in_ok-list_refusal.ensures
    (row_no Inexact _ c.move_refused.ensures c.if-move_refused.false no_row)
