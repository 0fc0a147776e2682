-- `geometry::centroid` meets its contract: a cell that passes the checks has vertices, and the room takes their mean.
use mathlib.Core.Path.{sym}
use mathlib.Core.List.{[]}
use native.Mathlib.Omega.{arith}
use Rattle.cell.proofs.Refusals.{sound}
use Rattle.places.proofs.Stored.{length_threes}
use Rattle.geometry.specs.Cells.{centroid_answer}
use Rattle.geometry.proofs.Answers.{refused, passed}
use Rattle.geometry.proofs.centroid.Goals as goal

pub returns-in_err-cell_refusal : goal.returns-in_err-cell_refusal
unfolding centroid_answer
returns-in_err-cell_refusal c = refused _ c.from_residual.ensures.1 c.in_err-cell_refusal.ensures

pub vertex_centroid-requires : goal.vertex_centroid-requires
vertex_centroid-requires c =
    let s = sound c.args.coords.now c.args.corners.now c.args.ends.now [] []
    (sym c.in_ok-cell_refusal.ensures) in
    omega (arith, length_threes c.args.coords.now, s.threes, s.few)

pub returns : goal.returns
unfolding centroid_answer
returns c =
    passed c.in_ok-cell_refusal.ensures (cc)
