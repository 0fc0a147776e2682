-- `overlap::contribution` meets its contract: from place i on, with the point before it already taken from the reference, the sum comes
-- to the whole fan's; an outline under 3 points has no triangle, and 0 is the sum of none.
use Rattle.places.proofs.Stored.{length_threes}
use native.Mathlib.Omega.{arith}
use Rattle.overlap.proofs.Fans.{fan_next, fan_end, contribution_is, contribution_none}
use borrow.Author.Rules.{rules}
use Rattle.overlap.proofs.contribution.Goals as goal

pub returns-then-n-lt3 : goal.returns-then-n-lt3
returns-then-n-lt3 c =
    contribution_none c.args.reference _ (omega (arith, length_threes c.args.s.now))

pub vertex-requires : goal.vertex-requires
vertex-requires c =
    omega (arith, length_threes c.args.s.now)

pub vertex-requires-2 : goal.vertex-requires-2
vertex-requires-2 c =
    omega (arith, length_threes c.args.s.now)

pub loop-i-preserved : goal.loop-i-preserved
loop-i-preserved c =
    fan_next c.loop-i.invariant (search (rules, length_threes)) (cc) (cc)

pub returns : goal.returns
returns c =
    rw (fan_end c.loop-i.invariant (search (rules, length_threes)))
    (contribution_is c.args.reference _ (omega (arith, length_threes c.args.s.now)))

pub vertex-requires-in-loop-i : goal.vertex-requires-in-loop-i
vertex-requires-in-loop-i c = search (rules, length_threes)
