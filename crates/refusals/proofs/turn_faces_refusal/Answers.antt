-- `refusals::turn_faces_refusal` meets its contract: a refusal of the cell decides, and else `facing::refusal` does, which may be asked as
-- the cell is then sound.
use mathlib.Core.Path.{sym}
use mathlib.Core.List.{[]}
use Rattle.places.proofs.Stored.{length_threes}
use Rattle.cell.proofs.Refusals.{sound}
use Rattle.refusals.specs.Refusals.{turn_faces_refusal}
use Rattle.refusals.proofs.Refusals.{or_found, or_other}
use Rattle.refusals.proofs.turn_faces_refusal.Goals as goal

pub returns-in_err-cell_refusal : goal.returns-in_err-cell_refusal
unfolding turn_faces_refusal
returns-in_err-cell_refusal c = or_found _ c.from_residual.ensures.1 c.in_err-cell_refusal.ensures

pub refusal-requires : goal.refusal-requires
refusal-requires c =
    let s = sound c.args.coords.now c.args.corners.now c.args.ends.now [] [] (sym c.in_ok-cell_refusal.ensures) in
    rw (← length_threes c.args.coords.now)
    (record { each = (s.inside, s.few); corners_len_bound = (s.few_corners, s.ordered, s.few_faces) })

pub returns : goal.returns
unfolding turn_faces_refusal
returns c =
    or_other _ c.in_ok-cell_refusal.ensures c.refusal.ensures
