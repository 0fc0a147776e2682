-- `geometry::triangle_places` meets its contract: what the check lets through is a face of the cell, the room is asked for that face, and
-- what it lets through is cut by place (OneFace.antt).
use Rattle.cut.specs.Cut.{cut_by_place}
use Rattle.geometry.specs.Cells.{triangle_places_answer}
use Rattle.geometry.proofs.OneFace.{not_sound, is_there, no_room, may_cut, is_cut}
use Rattle.geometry.proofs.triangle_places.Goals as goal

pub returns-in_err-face_refusal : goal.returns-in_err-face_refusal
unfolding triangle_places_answer
returns-in_err-face_refusal c = not_sound _ _ _ _ (cut_by_place _ _) _ c.from_residual.ensures.1 c.in_err-face_refusal.ensures

pub face_by_number-part-requires : goal.face_by_number-part-requires
face_by_number-part-requires c =
    is_there _ _ _ _ c.in_ok-face_refusal.ensures

pub returns-then-room_refused : goal.returns-then-room_refused
unfolding triangle_places_answer
returns-then-room_refused c =
    no_room _ _ _ _ (cut_by_place _ _) _ c.in_ok-face_refusal.ensures c.face_by_number-part.ensures
    c.room_refused.ensures c.if-room_refused.true

pub cut_by_place-c-requires : goal.cut_by_place-c-requires
cut_by_place-c-requires c =
    let may = may_cut _ _ _ _ c.in_ok-face_refusal.ensures c.face_by_number-part.ensures _
    c.room_refused.ensures c.if-room_refused.false in
    record { inside = may.0; face_len_bound = may.1 }

pub returns : goal.returns
unfolding triangle_places_answer
returns c =
    is_cut _ _ _ _ (cut_by_place _ _) _ c.in_ok-face_refusal.ensures c.face_by_number-part.ensures
    c.room_refused.ensures c.if-room_refused.false (rw c.face_by_number-part.ensures at c.cut_by_place-c.ensures)
