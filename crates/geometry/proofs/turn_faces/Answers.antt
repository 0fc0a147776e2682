-- `geometry::turn_faces` meets its contract: a cell that passes the checks is sound, so the room may choose,
-- and all three ends are promised.
use mathlib.Core.Path.{sym}
use mathlib.Core.List.{[]}
use Prim.Native.Nat.{ℕ}
use native.Mathlib.Omega.{arith}
use lib.ListN.{length}
use Rattle.places.proofs.Lists.{first_of}
use Rattle.places.proofs.Stored.{length_threes}
use Rattle.places.proofs.Stamps.{blank_part}
use Rattle.cell.specs.Steps.{Sound}
use Rattle.cell.proofs.Refusals.{sound}
use Rattle.geometry.proofs.TurnFaces.{turn_faces_refused, turn_faces_none, turn_faces_done}
use Rattle.geometry.proofs.turn_faces.Goals as goal
use Rattle.geometry.proofs.turn_faces.Goals.{In_ok-cell_refusal}

-- past the checks the cell is sound
whole : (c : In_ok-cell_refusal) → Sound c.args.coords.now c.args.corners.now c.args.ends.now
whole c =
    let args = c.args in
    sound args.coords.now args.corners.now args.ends.now [] [] (sym c.in_ok-cell_refusal.ensures)

pub returns-in_err-cell_refusal : goal.returns-in_err-cell_refusal
returns-in_err-cell_refusal c =
    turn_faces_refused c.args.coords.now c.args.corners.now c.args.ends.now c.from_residual.ensures.1 c.in_err-cell_refusal.ensures

pub slice_bounds-code-end : goal.slice_bounds-code-end
slice_bounds-code-end c = (whole (goal.at.slice_bounds-code-end c).In_ok-cell_refusal).few_faces

pub slice_bounds-part-end : goal.slice_bounds-part-end
slice_bounds-part-end c = first_of _ 256 0 (whole (goal.at.slice_bounds-part-end c).In_ok-cell_refusal).few_faces

pub choose-requires : goal.choose-requires
choose-requires c =
    let s = whole (goal.at.choose-requires c).In_ok-cell_refusal in record {
      each = rw (← length_threes c.args.coords.now) (s.inside, s.few);
      corners_len_bound = (s.few_corners, s.ordered, s.few_faces);
      blank = (blank_part (length c.args.ends.now) 256, sym (first_of _ 256 0 s.few_faces));
    }

pub returns-in_err-choose : goal.returns-in_err-choose
returns-in_err-choose c =
    turn_faces_none c.args.coords.now c.args.corners.now c.args.ends.now c.in_ok-cell_refusal.ensures
    c.from_residual-in_err-choose.ensures.1 c.in_err-choose.ensures

pub reverse_faces-requires : goal.reverse_faces-requires
reverse_faces-requires c =
    let s = whole (goal.at.reverse_faces-requires c).In_ok-cell_refusal in record {
      t = (s.ordered, s.few_corners);
      code_len = (omega (arith, sym (first_of {A = ℕ} (length c.args.ends.now) 256 0 s.few_faces)), s.few_faces);
    }

pub returns : goal.returns
returns c =
    turn_faces_done c.args.coords.now c.args.corners.now c.args.ends.now c.in_ok-cell_refusal.ensures c.in_ok-choose.ensures
    c.reverse_faces.ensures.list c.reverse_faces.ensures.count
