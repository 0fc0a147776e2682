-- `geometry::in_space::vertex_centroid` meets its contract: the room takes the mean of the points, and its coordinates get names.
use mathlib.Core.Path.{sym}
use native.Mathlib.Omega.{arith}
use Rattle.places.proofs.Stored.{length_threes}
use Rattle.geometry.specs.Points.{vertex_centroid_answer}
use Rattle.geometry.proofs.Answers.{refused, passed}
use Rattle.refusals.proofs.Refusals.{list_counted}
use Rattle.geometry.proofs.in_space.vertex_centroid.Goals as goal

pub returns-in_err-list_refusal : goal.returns-in_err-list_refusal
unfolding vertex_centroid_answer
returns-in_err-list_refusal c = refused _ c.from_residual.ensures.1 c.in_err-list_refusal.ensures

pub vertex_centroid-requires : goal.vertex_centroid-requires
vertex_centroid-requires c =
    let s = list_counted c.args.coords.now (sym c.in_ok-list_refusal.ensures) in
    omega (arith, length_threes c.args.coords.now, s.threes, s.few)

pub returns : goal.returns
unfolding vertex_centroid_answer
returns c =
    passed c.in_ok-list_refusal.ensures (cc)
