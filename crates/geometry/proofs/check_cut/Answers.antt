-- `geometry::check_cut` meets its contract: what is not refused is a list of triangles over the places of a face, and `is_cut` tests it;
-- the test says yes exactly for a cut.
use mathlib.Core.Path.{sym}
use Rattle.refusals.proofs.Refusals.{check_known}
use Rattle.geometry.specs.CheckCut.{check_cut_answer}
use Rattle.geometry.proofs.Answers.{refused}
use Rattle.geometry.proofs.CheckCut.{tested, yes_for_cuts}
use Rattle.geometry.proofs.check_cut.Goals as goal

pub returns-in_err-check_refusal : goal.returns-in_err-check_refusal
unfolding check_cut_answer
returns-in_err-check_refusal c =
    let said = refused _ c.from_residual.ensures.1 c.in_err-check_refusal.ensures in
    record { value = said; yes_for_cuts = yes_for_cuts c.args.n c.args.places.now said }

pub is_cut-requires : goal.is_cut-requires
is_cut-requires c =
    let known = check_known c.args.n c.args.places.now (sym c.in_ok-check_refusal.ensures) in
    (known.low, known.high, known.threes, known.below)

pub returns : goal.returns
returns c =
    let said = tested c.args.n c.args.places.now c.in_ok-check_refusal.ensures c.is_cut.ensures in
    record { value = said; yes_for_cuts = yes_for_cuts c.args.n c.args.places.now said }
