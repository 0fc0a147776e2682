-- `flat::space::face_normal` meets its contract: the loop keeps the corner that it came from, and the sides still to walk make, with the
-- sums so far, the whole (`Walking`).
use mathlib.Core.Path.{refl, ap}
use mathlib.Core.List.{List, []}
use Prim.Native.Nat.{ℕ, ◌+◌}
use lib.ListN.{get_or}
use native.Mathlib.Omega.{arith}
use Rattle.places.proofs.Walks.{walk_start, walk_next, walk_end}
use Rattle.flat.specs.Points.{vertices_of}
use Rattle.flat.specs.Flat.{newell_of}
use Rattle.flat.proofs.Corners.{length_corners, corner_at, no_corners, rest_at}
use borrow.Author.Rules.{rules}
use Rattle.flat.proofs.space.face_normal.Goals as goal

pub returns-in_default : goal.returns-in_default
returns-in_default c = no_corners _ _ (search rules)

pub loop-v-init : goal.loop-v-init
unfolding newell_of
loop-v-init c =
    let split = c.in-Some.ensures.cases in
    let corners = length_corners (vertices_of c.args.coords.now) c.args.face.now in
    let first = corner_at (vertices_of c.args.coords.now) c.args.face.now 0 (omega (arith, split.1)) in
    walk_start [] (omega (arith, split.1)) (cc (first, ap (λ (f : List ℕ). get_or f 0 0) split.0)) refl

pub vertex-b-requires : goal.vertex-b-requires
vertex-b-requires c =
    let split = c.in-Some.ensures.cases in
    rw (rest_at c.loop-v.v-index split.0) (c.requires.holds (c.loop-v.v-index + 1) (omega (arith, split.1)))

pub loop-v-preserved : goal.loop-v-preserved
loop-v-preserved c =
    let split = c.in-Some.ensures.cases in
    let corners = length_corners (vertices_of c.args.coords.now) c.args.face.now in
    let corner =
    corner_at (vertices_of c.args.coords.now) c.args.face.now (c.loop-v.v-index + 1) (omega (arith, split.1)) in
    walk_next [] c.loop-v.invariant (omega (arith, split.1)) (cc (corner, rest_at c.loop-v.v-index split.0)) (cc)

pub returns : goal.returns
returns c =
    let split = c.in-Some.ensures.cases in
    let corners = length_corners (vertices_of c.args.coords.now) c.args.face.now in
    walk_end c.loop-v.invariant (omega (arith, split.1)) c.newell_side.ensures
