-- `outward::see` meets its contract: the three ways out are the definition's tests for above and for below, the second asked only where the
-- first fails.
use Rattle.outward.specs.Convexity.{level_of, above, below}
use Rattle.outward.specs.Steps.{see_of}
use Rattle.outward.proofs.see.Goals as goal

pub returns-then-v-eps : goal.returns-then-v-eps
unfolding level_of above below see_of
returns-then-v-eps c = rw (← c.dot.ensures, c.if-v-eps.true)

pub returns-then-v-eps-2 : goal.returns-then-v-eps-2
unfolding level_of above below see_of
returns-then-v-eps-2 c =
    rw (← c.dot.ensures, c.if-v-eps.false, c.if-v-eps-2.true)

pub returns : goal.returns
unfolding level_of above below see_of
returns c =
    rw (← c.dot.ensures, c.if-v-eps.false, c.if-v-eps-2.false)
