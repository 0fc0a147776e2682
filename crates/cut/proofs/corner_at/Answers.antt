-- `cut::corner_at` meets its contract: what stands at place i of ks is a place of the face, and the ring has at i what the face has there.
use lib.ListN.{get_or}
use Rattle.places.proofs.Lists.{map_at}
use Rattle.cut.specs.Cut.{ring_at}
use Rattle.cut.proofs.corner_at.Goals as goal

pub returns : goal.returns
unfolding ring_at
returns c =
    cc (map_at (λ k. get_or c.args.face.now k 0) c.args.ks.now c.args.i 0 0 c.requires.1)
