-- `volume::add_triangles` meets its contract: each pass adds one triple product, so the triangles that are left make, with the sum so far,
-- the whole (`Taking`).
use mathlib.Core.List.{[]}
use Rattle.places.proofs.Loops.{take_next, take_end}
use borrow.Author.Rules.{rules}
use Rattle.volume.proofs.add_triangles.Goals as goal

pub loop-t-preserved : goal.loop-t-preserved
loop-t-preserved c =
    take_next [] c.loop-t.invariant (search rules) (cc)

pub returns : goal.returns
returns c = take_end c.loop-t.invariant (search rules)
