-- `geometry::no_area_faces` meets its contract: a cell that passes the checks is sound and has at most as many faces as the list has
-- places, so the room may write at the front, and what stands behind is not touched.
use mathlib.Core.Path.{◌≡◌, sym, ◌∙◌}
use native.Mathlib.Omega.{arith}
use mathlib.Core.List.{List}
use Prim.Native.Nat.{ℕ}
use lib.ListN.{length, length-take, length-map}
use Rattle.flat.specs.Points.{Point, vertices_of}
use Rattle.cell.specs.Faces.{faces_of}
use Rattle.cell.proofs.Faces.{length_faces}
use Rattle.planes.specs.Planes.{no_area_faces}
use Rattle.refusals.proofs.Refusals.{no_area_known}
use Rattle.geometry.specs.Cells.{no_area_faces_answer}
use Rattle.geometry.proofs.Answers.{refused_beside, passed_beside}
use Rattle.geometry.proofs.no_area_faces.Goals as goal

-- there is a number for each face
flags_many : (vs : List Point) (corners ends : List ℕ) → length (no_area_faces vs (faces_of corners ends)) ≡ length ends
unfolding no_area_faces
flags_many vs corners ends = length-map (faces_of corners ends) _ ∙ length_faces corners ends

pub returns-in_err-no_area_refusal : goal.returns-in_err-no_area_refusal
unfolding no_area_faces_answer
returns-in_err-no_area_refusal c =
    refused_beside _ c.from_residual.ensures.1 c.in_err-no_area_refusal.ensures

pub slice_bounds-no_area_faces-end : goal.slice_bounds-no_area_faces-end
slice_bounds-no_area_faces-end c =
    let args = c.args in
    (no_area_known args.coords.now args.corners.now args.ends.now (length args.out.now)
    (sym c.in_ok-no_area_refusal.ensures)).1

pub slice_bounds-no_area_faces-end-2 : goal.slice_bounds-no_area_faces-end-2
slice_bounds-no_area_faces-end-2 c =
    let args = c.args in
    let known = no_area_known args.coords.now args.corners.now args.ends.now (length args.out.now)
    (sym c.in_ok-no_area_refusal.ensures) in
    simp length-take (omega (arith, known.1))

pub invariant_of-cell : goal.invariant_of-cell
invariant_of-cell c =
    let args = c.args in
    let known = no_area_known args.coords.now args.corners.now args.ends.now (length args.out.now)
    (sym c.in_ok-no_area_refusal.ensures) in
    record { sound = known.0 }

pub no_area_faces-requires : goal.no_area_faces-requires
no_area_faces-requires c =
    let args = c.args in
    let known = no_area_known args.coords.now args.corners.now args.ends.now (length args.out.now)
    (sym c.in_ok-no_area_refusal.ensures) in
    simp length-take (omega (arith, known.1))

pub returns : goal.returns
unfolding no_area_faces_answer
returns c =
    let args = c.args in
    let size = flags_many (vertices_of args.coords.now) args.corners.now args.ends.now in
    passed_beside c.args.out.now c.in_ok-no_area_refusal.ensures (rw (c.no_area_faces.ensures, size))
