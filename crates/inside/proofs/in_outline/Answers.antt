-- `inside::in_outline` meets its contract: the loop keeps the corner that it came from, and the sides still to walk make, with the answer
-- so far, the whole (`Walking`); no corners have no side.
use mathlib.Core.Path.{refl, sym, ◌∙◌}
use native.Mathlib.Omega.{arith}
use mathlib.Core.List.{[]}
use Rattle.flat.specs.Points.{vertices_of}
use Rattle.inside.specs.Ray.{in_outline}
use Rattle.places.proofs.Walks.{walk_start, walk_next, walk_end}
use Rattle.inside.proofs.Outlines.{length_points, points_at, no_outline}
use borrow.Author.Rules.{rules}
use Rattle.inside.proofs.in_outline.Goals as goal

pub returns-then-n-eq0 : goal.returns-then-n-eq0
returns-then-n-eq0 c = no_outline _ _ _ _ (search rules)

pub loop-i-init : goal.loop-i-init
unfolding in_outline
loop-i-init c =
    let as_many = length_points (vertices_of c.args.coords.now) c.args.axis c.args.face.now in
    walk_start [] (omega arith) (c.point_at-first.ensures ∙ sym (points_at _ _ _ 0 (omega arith))) refl

pub loop-i-preserved : goal.loop-i-preserved
loop-i-preserved c =
    let as_many = length_points (vertices_of c.args.coords.now) c.args.axis c.args.face.now in
    let point = points_at (vertices_of c.args.coords.now) c.args.axis c.args.face.now c.loop-i.i (omega arith) in
    walk_next [] c.loop-i.invariant (omega arith) (c.point_at-b.ensures ∙ sym point) c.pass_side-inside.ensures

pub returns : goal.returns
returns c =
    let as_many = length_points (vertices_of c.args.coords.now) c.args.axis c.args.face.now in
    walk_end c.loop-i.invariant (omega arith) c.pass_side.ensures
