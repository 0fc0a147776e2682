-- `local::origin` meets its contract: each coordinate of the first vertex is in range, since no number of the list is out of it, and is
-- brought to a whole number by itself.
use Rattle.std.proofs.Common.{refl}
use Rattle.local.specs.Local.{origin_of}
use Rattle.local.specs.Steps.{InRange, WholePoint}
use Rattle.local.proofs.Moving.{vertex_in_range}
use Rattle.local.proofs.origin.Goals as goal
use Rattle.local.proofs.origin.Goals.{After-vertex-p}

-- the coordinates of the first vertex
near : (c : After-vertex-p) → InRange c.vertex-p.result
near c =
    rw c.vertex-p.ensures (vertex_in_range c.args.coords.now c.requires.coords_value 0 c.requires.nonzero)

pub whole-requires : goal.whole-requires
whole-requires c =
    let at = near (goal.at.whole-requires c).After-vertex-p in
    search (at.x, at.y, at.z)

pub whole-requires-2 : goal.whole-requires-2
whole-requires-2 c =
    let at = near (goal.at.whole-requires-2 c).After-vertex-p in
    search (at.x, at.y, at.z)

pub whole-requires-3 : goal.whole-requires-3
whole-requires-3 c =
    let at = near (goal.at.whole-requires-3 c).After-vertex-p in
    search (at.x, at.y, at.z)

pub returns : goal.returns
unfolding origin_of
returns c =
    let is : WholePoint _ = record { x = c.whole.ensures.is; y = c.whole-2.ensures.is; z = c.whole-3.ensures.is } in
    record { value = rw (c.whole.ensures.value, c.whole-2.ensures.value, c.whole-3.ensures.value, c.vertex-p.ensures) refl; is = is }
