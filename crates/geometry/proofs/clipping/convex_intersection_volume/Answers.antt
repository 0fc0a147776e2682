-- `geometry::clipping::convex_intersection_volume` meets its contract: cells that pass the checks are sound and have no empty face, the
-- work lists are short enough, and the room clears them.
use mathlib.Core.Path.{sym, ap, ◌∙◌}
use Rattle.std.specs.Prelude.{Ok}
use Rattle.places.proofs.Refusals.{handed_on}
use Rattle.refusals.proofs.Refusals.{Overlapping, overlap_known}
use Rattle.geometry.specs.Clipping.{shared_answer, overlap_answer}
use Rattle.geometry.proofs.Answers.{refused_beside_two}
use Rattle.geometry.proofs.WorkLists.{measure_passed}
use Rattle.geometry.proofs.clipping.convex_intersection_volume.Goals as goal
use Rattle.geometry.proofs.clipping.convex_intersection_volume.Goals.{In_ok-overlap_refusal}

pub returns-in_err-overlap_refusal : goal.returns-in_err-overlap_refusal
unfolding overlap_answer
returns-in_err-overlap_refusal c =
    refused_beside_two _ c.from_residual.ensures.1 c.in_err-overlap_refusal.ensures

-- what is known of both cells and of the lists
known : (c : In_ok-overlap_refusal) → Overlapping c.args.coords.now c.args.corners.now c.args.ends.now
    c.args.coords2.now c.args.corners2.now c.args.ends2.now c.args.first.now c.args.second.now
known c =
    overlap_known c.args.coords.now c.args.corners.now c.args.ends.now c.args.coords2.now c.args.corners2.now c.args.ends2.now
    c.args.first.now c.args.second.now (sym c.in_ok-overlap_refusal.ensures)

pub invariant_of-cell : goal.invariant_of-cell
invariant_of-cell c = record { sound = (known (goal.at.invariant_of-cell c).In_ok-overlap_refusal).one.sound }

pub invariant_of-cell2 : goal.invariant_of-cell2
invariant_of-cell2 c = record { sound = (known (goal.at.invariant_of-cell2 c).In_ok-overlap_refusal).other.sound }

pub convex_intersection_volume-requires : goal.convex_intersection_volume-requires
convex_intersection_volume-requires c =
    let k = known (goal.at.convex_intersection_volume-requires c).In_ok-overlap_refusal in
    record { solid = (k.one.solid, k.other.solid); first_len_bound = (k.first_few, k.second_few) }

pub returns-in_err-shared : goal.returns-in_err-shared
unfolding overlap_answer
returns-in_err-shared c =
    measure_passed _ c.args.first.now c.args.second.now c.in_ok-overlap_refusal.ensures
    (handed_on c.from_residual-in_err-shared.ensures.1 ∙ ap shared_answer c.in_err-shared.ensures.value)
    c.in_err-shared.ensures.first_after.0 c.in_err-shared.ensures.first_after.1

pub returns : goal.returns
unfolding overlap_answer
returns c =
    measure_passed _ c.args.first.now c.args.second.now c.in_ok-overlap_refusal.ensures
    (ap (λ x. Ok x) c.from.ensures ∙ ap shared_answer c.in_ok-shared.ensures.value)
    c.in_ok-shared.ensures.first_after.0 c.in_ok-shared.ensures.first_after.1
