-- `geometry::clipping::convex_intersection_area` meets its contract: lists that pass the checks are short enough for the room, and both
-- work lists are cleared behind it.
use mathlib.Core.Path.{sym, ap, ◌∙◌}
use native.Mathlib.Nat.{sub-zero}
use Rattle.places.proofs.Refusals.{handed_on}
use Rattle.refusals.proofs.Refusals.{planar_known}
use Rattle.geometry.specs.Clipping.{area_shown, overlap_area_answer}
use Rattle.geometry.proofs.Answers.{refused_beside_two}
use Rattle.geometry.proofs.WorkLists.{measure_passed}
use Rattle.geometry.proofs.clipping.convex_intersection_area.Goals as goal

pub returns-in_err-planar_refusal : goal.returns-in_err-planar_refusal
unfolding overlap_area_answer
returns-in_err-planar_refusal c =
    refused_beside_two _ c.from_residual.ensures.1 c.in_err-planar_refusal.ensures

pub convex_intersection_area-area-requires : goal.convex_intersection_area-area-requires
convex_intersection_area-area-requires c =
    let passed = sym c.in_ok-planar_refusal.ensures in
    let known = planar_known c.args.subject.now c.args.clip.now c.args.first.now c.args.second.now passed in
    record { subject_len_bound = (known.subject_few, known.clip_few); first_len_bound = (known.first_few, known.second_few) }

pub returns-in_err-area : goal.returns-in_err-area
unfolding overlap_area_answer
returns-in_err-area c =
    measure_passed _ c.args.first.now c.args.second.now c.in_ok-planar_refusal.ensures
    (handed_on c.from_residual-in_err-area.ensures.1 ∙ ap area_shown c.in_err-area.ensures)
    (c.settle.ensures.first_value ∙ rw (sub-zero, c.convex_intersection_area-area.auto.first))
    (c.settle.ensures.second_value ∙ rw (sub-zero, c.convex_intersection_area-area.auto.second))

pub returns : goal.returns
unfolding overlap_area_answer
returns c =
    measure_passed _ c.args.first.now c.args.second.now c.in_ok-planar_refusal.ensures (ap area_shown c.in_ok-area.ensures)
    (c.settle.ensures.first_value ∙ rw (sub-zero, c.convex_intersection_area-area.auto.first))
    (c.settle.ensures.second_value ∙ rw (sub-zero, c.convex_intersection_area-area.auto.second))
