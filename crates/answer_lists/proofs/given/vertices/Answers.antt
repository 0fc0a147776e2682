-- `answer_lists::given::vertices` meets its contract: the vertices, read one by one, are all the vertices of a list of that length.
use native.Mathlib.Omega.{arith}
use mathlib.Core.List.{[]}
use lib.ListN.{length-replicate}
use Rattle.places.proofs.Stored.{length_threes}
use Rattle.answer_lists.proofs.Corners.{copy_start, copy_step, copy_all}
use Rattle.answer_lists.proofs.given.vertices.Goals as goal

pub loop-k-init : goal.loop-k-init
loop-k-init g c = copy_start (rw length-replicate (omega (arith, length_threes c.args.p.now)))

pub loop-k-preserved : goal.loop-k-preserved
loop-k-preserved g c = rw c.vertex.ensures (copy_step [] c.loop-k.invariant (omega (arith, length_threes c.args.p.now)))

pub returns : goal.returns
returns g c =
    copy_all c.loop-k.invariant (omega (arith, length_threes c.args.p.now))
    (rw length-replicate (omega (arith, length_threes c.args.p.now)))
