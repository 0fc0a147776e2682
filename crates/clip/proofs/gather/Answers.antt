-- `clip::gather` meets its contract: the corners before place i stand at the front of the list, and those left to lay down make, with them,
-- the whole face.
use mathlib.Core.Path.{◌∙◌}
use mathlib.Core.List.{[]}
use native.Mathlib.Omega.{arith}
use Rattle.flat.specs.Points.{vertices_of}
use Rattle.flat.proofs.Corners.{length_corners}
use Rattle.work_lists.proofs.Filling.{rest_length, lay_next, lay_end}
use borrow.Author.Rules.{rules}
use Rattle.clip.proofs.gather.Goals as goal

pub put_vertex-requires : goal.put_vertex-requires
put_vertex-requires c =
    omega (arith, rest_length c.loop-i.invariant.1)

pub loop-i-preserved : goal.loop-i-preserved
loop-i-preserved c = (
  c.put_vertex.auto.coords ∙ c.loop-i.invariant.0,
  lay_next [] c.loop-i.invariant.1 (rw length_corners (search rules)) c.vertex_at.ensures c.put_vertex.ensures.vertices,
)

pub returns : goal.returns
returns c =
    rw (← length_corners (vertices_of c.args.coords.now) c.args.face.now)
    (lay_end c.loop-i.invariant.1 (rw length_corners (search rules)) (rw length_corners (search rules)))
