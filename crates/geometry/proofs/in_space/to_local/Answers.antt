-- `geometry::in_space::to_local` meets its contract: a list that passes the checks comes in threes, has a vertex and no number out of
-- range; the room finds the local origin and takes it off every vertex.
use mathlib.Core.Path.{sym}
use Rattle.geometry.specs.Points.{to_local_answer}
use Rattle.geometry.proofs.Answers.{refused_beside, passed_beside}
use Rattle.refusals.proofs.Refusals.{list_counted, list_numbers, local_zero}
use Rattle.geometry.proofs.in_space.to_local.Goals as goal

pub returns-in_err-local_refusal : goal.returns-in_err-local_refusal
unfolding to_local_answer
returns-in_err-local_refusal c =
    refused_beside _ c.from_residual.ensures.1 c.in_err-local_refusal.ensures

pub origin-origin-requires : goal.origin-origin-requires
origin-origin-requires c =
    let passes = (local_zero c.args.coords.now (sym c.in_ok-local_refusal.ensures)).0 in
    record { nonzero = (list_counted c.args.coords.now passes).some; coords_value = list_numbers c.args.coords.now passes }

pub move_by-requires : goal.move_by-requires
move_by-requires c =
    (list_counted c.args.coords.now (local_zero c.args.coords.now (sym c.in_ok-local_refusal.ensures)).0).threes

pub returns : goal.returns
unfolding to_local_answer
returns c =
    passed_beside _ c.in_ok-local_refusal.ensures (rw (c.move_by.ensures, ← c.origin-origin.ensures.value, ← c.from.ensures))
