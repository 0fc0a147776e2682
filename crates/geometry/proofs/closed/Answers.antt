-- `geometry::closed` meets its contract: a cell that passes the checks is sound, and the room tests its sides.
use mathlib.Core.Path.{sym}
use mathlib.Core.List.{[]}
use Rattle.cell.proofs.Refusals.{sound}
use Rattle.places.proofs.Stored.{length_threes}
use Rattle.geometry.specs.Cells.{closed_answer}
use Rattle.geometry.proofs.Answers.{refused, passed}
use Rattle.geometry.proofs.closed.Goals as goal

pub returns-in_err-cell_refusal : goal.returns-in_err-cell_refusal
unfolding closed_answer
returns-in_err-cell_refusal c = refused _ c.from_residual.ensures.1 c.in_err-cell_refusal.ensures

pub closed-requires : goal.closed-requires
closed-requires c =
    let s = sound c.args.coords.now c.args.corners.now c.args.ends.now [] []
    (sym c.in_ok-cell_refusal.ensures) in
    rw (← length_threes c.args.coords.now) (record { each = (s.inside, s.few); corners_len_bound = (s.few_corners, s.ordered) })

pub returns : goal.returns
unfolding closed_answer
returns c =
    passed c.in_ok-cell_refusal.ensures (cc)
