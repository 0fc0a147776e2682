-- `refusals::faces_refusal` meets its contract: `cell::refusal` decides where it refuses; past it the ends are in order, as the test for
-- empty faces requires, and that test is the one row left.
use mathlib.Core.Path.{sym}
use mathlib.Core.List.{[]}
use Rattle.cell.proofs.Refusals.{sound, no_row}
use Rattle.places.specs.declared.refusal.Refusal.TheVariants.{EmptyFace}
use Rattle.refusals.specs.Refusals.{faces_refusal}
use Rattle.refusals.proofs.Refusals.{or_found, or_other, row_yes, row_no}
use Rattle.refusals.proofs.faces_refusal.Goals as goal

pub returns-in_err-refusal : goal.returns-in_err-refusal
unfolding faces_refusal
returns-in_err-refusal c = or_found _ c.from_residual.ensures.1 c.in_err-refusal.ensures

pub empty_refused-requires : goal.empty_refused-requires
empty_refused-requires c =
    let not_refused = sym c.in_ok-refusal.ensures in
    (sound c.args.coords.now c.args.corners.now c.args.ends.now [] c.args.asked.now not_refused).ordered

pub returns-then-empty_refused : goal.returns-then-empty_refused
unfolding faces_refusal
returns-then-empty_refused c =
    or_other _ c.in_ok-refusal.ensures (row_yes EmptyFace _ c.empty_refused.ensures c.if-empty_refused.true)

pub returns : goal.returns
unfolding faces_refusal
returns c =
    or_other _ c.in_ok-refusal.ensures (row_no EmptyFace _ c.empty_refused.ensures c.if-empty_refused.false no_row)
