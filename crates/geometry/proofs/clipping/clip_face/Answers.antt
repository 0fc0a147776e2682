-- `geometry::clipping::clip_face` meets its contract: a face that passes the checks is one of the cell, all lists are short enough for
-- the room, and the room settles both work lists.
use mathlib.Core.Path.{sym, ap}
use borrow.Author.Rules.{rules}
use Rattle.std.specs.Prelude.{Ok}
use Rattle.places.proofs.Refusals.{handed_on}
use Rattle.refusals.proofs.Refusals.{Clippable, clip_known}
use Rattle.geometry.specs.Clipping.{clip_face_answer}
use Rattle.geometry.proofs.Answers.{refused_beside_two}
use Rattle.geometry.proofs.WorkLists.{clip_passed}
use Rattle.geometry.proofs.clipping.clip_face.Goals as goal
use Rattle.geometry.proofs.clipping.clip_face.Goals.{In_ok-clip_refusal}

-- what is known past the checks
known : (c : In_ok-clip_refusal) → Clippable c.args.coords.now c.args.corners.now c.args.ends.now c.args.face c.args.planes.now
    c.args.first.now c.args.second.now
known c =
    clip_known c.args.coords.now c.args.corners.now c.args.ends.now c.args.face c.args.planes.now c.args.first.now
    c.args.second.now
    (sym c.in_ok-clip_refusal.ensures)

pub returns-in_err-clip_refusal : goal.returns-in_err-clip_refusal
unfolding clip_face_answer
returns-in_err-clip_refusal c =
    refused_beside_two _ c.from_residual.ensures.1 c.in_err-clip_refusal.ensures

pub face_by_number-part-requires : goal.face_by_number-part-requires
face_by_number-part-requires c =
    let k = known (goal.at.face_by_number-part-requires c).In_ok-clip_refusal in
    (k.ordered, k.there)

pub clip_face_shown-requires : goal.clip_face_shown-requires
clip_face_shown-requires c =
    let k = known (goal.at.clip_face_shown-requires c).In_ok-clip_refusal in
    rw c.face_by_number-part.ensures (record {
      inside = k.inside;
      face_len_bound = (k.corners_few, k.planes_few);
      first_len_bound = (k.first_few, k.second_few);
    })

pub returns-in_err-left : goal.returns-in_err-left
unfolding clip_face_answer
returns-in_err-left c =
    clip_passed _ c.args.first.now c.args.second.now c.in_ok-clip_refusal.ensures (handed_on c.from_residual-in_err-left.ensures.1)
    (rw c.face_by_number-part.ensures at c.in_err-left.ensures)

pub returns : goal.returns
unfolding clip_face_answer
returns c =
    clip_passed _ c.args.first.now c.args.second.now c.in_ok-clip_refusal.ensures (ap (λ x. Ok x) (search rules))
    (rw c.face_by_number-part.ensures at c.in_ok-left.ensures)
