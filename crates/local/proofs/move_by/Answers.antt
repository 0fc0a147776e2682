-- `local::move_by` meets its contract: after i turns the first i vertices are moved and the others are as they were; a list with no number
-- over is its points joined.
use Rattle.std.proofs.Common.{◌<◌, ◌≤◌, [], length, sym, ap, ◌∙◌, arith}
use Rattle.places.specs.Stored.{joined}
use Rattle.places.proofs.Stored.{length_threes, joined_threes}
use Rattle.flat.specs.Points.{Point, vertices_of, minus_of}
use Rattle.local.specs.Local.{moved_by}
use Rattle.local.proofs.Moving.{replaced_at, replaced_next, replaced_all}
use Rattle.local.proofs.move_by.Goals as goal

pub vertex-p-requires : goal.vertex-p-requires
vertex-p-requires c =
    omega (arith, length_threes c.loop-v.coords, c.loop-v.invariant.0)

pub loop-v-preserved : goal.loop-v-preserved
loop-v-preserved c =
    let vs = vertices_of c.args.coords.now in
    let f : Point → Point = λ p. minus_of 3 p c.args.origin in
    let below : c.loop-v.v < length vs = omega (arith, length_threes c.args.coords.now) in
    let next = replaced_next f c.loop-v.v vs [] below in (
      c.put_vertex.auto.coords ∙ c.loop-v.invariant.0,
      c.put_vertex.ensures.vertices
          ∙ rw (c.minus3.ensures, c.vertex-p.ensures, c.loop-v.invariant.1, replaced_at f c.loop-v.v vs []) next,
    )

pub returns : goal.returns
unfolding moved_by
returns c =
    let vs = vertices_of c.args.coords.now in
    let f : Point → Point = λ p. minus_of 3 p c.args.origin in
    let done : length vs ≤ c.loop-v.v = omega (arith, length_threes c.args.coords.now) in
    sym (joined_threes c.loop-v.coords (rw c.loop-v.invariant.0 c.requires))
    ∙ ap joined (c.loop-v.invariant.1 ∙ replaced_all f c.loop-v.v vs done)
