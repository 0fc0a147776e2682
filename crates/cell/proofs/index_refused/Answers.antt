-- `cell::index_refused` meets its contract: after i numbers `refused` says whether one of the first i numbers is not below n.
use Rattle.places.proofs.Loops.{take_start, take_next, take_end, any_taken}
use Rattle.cell.specs.Refusals.{not_below, index_refused}
use borrow.Author.Rules.{rules}
use Rattle.cell.proofs.index_refused.Goals as goal

pub loop-c-init : goal.loop-c-init
unfolding index_refused
loop-c-init c = take_start (any_taken (not_below _) _)

pub loop-c-preserved : goal.loop-c-preserved
loop-c-preserved c =
    take_next 0 c.loop-c.invariant (search rules) (cc)

pub returns : goal.returns
returns c = take_end c.loop-c.invariant (search rules)
