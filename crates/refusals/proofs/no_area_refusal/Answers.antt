-- `refusals::no_area_refusal` meets its contract: a refusal of the cell and its faces decides, and else the room does.
use Rattle.places.specs.declared.refusal.Refusal.TheVariants.{Room}
use Rattle.refusals.specs.Refusals.{no_area_refusal}
use Rattle.cell.proofs.Refusals.{no_row}
use Rattle.refusals.proofs.Refusals.{or_found, or_other, row_yes, row_no}
use mathlib.Core.Path.{refl}
use borrow.Author.Tests.{lt-ltb, le-ltb}
use Rattle.refusals.proofs.no_area_refusal.Goals as goal

pub returns-in_err-faces_refusal : goal.returns-in_err-faces_refusal
unfolding no_area_refusal
returns-in_err-faces_refusal c = or_found _ c.from_residual.ensures.1 c.in_err-faces_refusal.ensures

pub returns-then-room-ends : goal.returns-then-room-ends
unfolding no_area_refusal
returns-then-room-ends c =
    or_other _ c.in_ok-faces_refusal.ensures (row_yes Room _ refl (lt-ltb _ _ c.if-room-ends.true))

pub returns : goal.returns
unfolding no_area_refusal
returns c =
    or_other _ c.in_ok-faces_refusal.ensures (row_no Room _ refl (le-ltb _ _ c.if-room-ends.false) no_row)
