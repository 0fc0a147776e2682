-- `geometry::clipping::clip_convex` meets its contract: lists that pass the checks are short enough for the room, which settles both
-- work lists.
use mathlib.Core.Path.{sym, ap}
use borrow.Author.Rules.{rules}
use Rattle.std.specs.Prelude.{Ok}
use Rattle.places.proofs.Refusals.{handed_on}
use Rattle.refusals.proofs.Refusals.{planar_known}
use Rattle.geometry.specs.Clipping.{clip_convex_answer}
use Rattle.geometry.proofs.Answers.{refused_beside_two}
use Rattle.geometry.proofs.WorkLists.{clip_passed}
use Rattle.geometry.proofs.clipping.clip_convex.Goals as goal

pub returns-in_err-planar_refusal : goal.returns-in_err-planar_refusal
unfolding clip_convex_answer
returns-in_err-planar_refusal c =
    refused_beside_two _ c.from_residual.ensures.1 c.in_err-planar_refusal.ensures

pub clip_convex_shown-requires : goal.clip_convex_shown-requires
clip_convex_shown-requires c =
    let passed = sym c.in_ok-planar_refusal.ensures in
    let known = planar_known c.args.subject.now c.args.clip.now c.args.first.now c.args.second.now passed in
    record { subject_len_bound = (known.subject_few, known.clip_few); first_len_bound = (known.first_few, known.second_few) }

pub returns-in_err-left : goal.returns-in_err-left
unfolding clip_convex_answer
returns-in_err-left c =
    clip_passed _ c.args.first.now c.args.second.now c.in_ok-planar_refusal.ensures (handed_on c.from_residual-in_err-left.ensures.1)
    c.in_err-left.ensures

pub returns : goal.returns
unfolding clip_convex_answer
returns c =
    clip_passed _ c.args.first.now c.args.second.now c.in_ok-planar_refusal.ensures (ap (λ x. Ok x) (search rules)) c.in_ok-left.ensures
