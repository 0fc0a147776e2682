-- `volume::add_moments` meets its contract: each pass takes in one triangle, so the triangles that are left make, with the sums so far, the
-- whole (`Taking`).
use mathlib.Core.List.{[]}
use Rattle.places.proofs.Loops.{take_next, take_end}
use borrow.Author.Rules.{rules}
use Rattle.volume.proofs.add_moments.Goals as goal

pub loop-t-preserved : goal.loop-t-preserved
loop-t-preserved c =
    take_next [] c.loop-t.invariant (search rules) (cc)

pub returns : goal.returns
returns c = take_end c.loop-t.invariant (search rules)
