-- `inside::count_contained` meets its contract: the count so far and the count over the points from i on make the whole (`Counting`), and a
-- pass adds the 1 or 0 of its point.
use mathlib.Core.Path.{◌≡◌, refl}
use mathlib.Core.Bool.{Bool, true, false}
use mathlib.Core.List.{[]}
use mir.Val.{bool_byte}
use native.Mathlib.Omega.{arith}
use Rattle.places.specs.Loops.{one_if}
use Rattle.places.proofs.Loops.{count_next, count_end}
use Rattle.places.proofs.Stored.{length_threes}
use Rattle.inside.proofs.count_contained.Goals as goal

counted : (b : Bool) → bool_byte b ≡ one_if b
counted true = refl
counted false = refl

pub vertex-p-requires : goal.vertex-p-requires
vertex-p-requires c = omega (arith, length_threes c.args.queries.now)

pub loop-i-preserved : goal.loop-i-preserved
loop-i-preserved c =
    count_next [] c.loop-i.invariant (omega (arith, length_threes c.args.queries.now))
    (rw (c.from-found.ensures, counted, c.contains.ensures, c.vertex-p.ensures))

pub returns : goal.returns
returns c = count_end c.loop-i.invariant (omega (arith, length_threes c.args.queries.now))
