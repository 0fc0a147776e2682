-- `cell::number_refused` meets its contract: after i numbers `refused` says whether one of the first i numbers is out of range.
use lib.Ieee.{nan}
use Rattle.places.proofs.Loops.{take_start, take_next, take_end, any_taken}
use Rattle.cell.specs.Refusals.{out_of_range, number_refused}
use borrow.Author.Rules.{rules}
use Rattle.cell.proofs.number_refused.Goals as goal

pub loop-x-init : goal.loop-x-init
unfolding number_refused
loop-x-init c = take_start (any_taken out_of_range _)

pub loop-x-preserved : goal.loop-x-preserved
loop-x-preserved c =
    take_next nan c.loop-x.invariant (search rules) (cc)

pub returns : goal.returns
returns c = take_end c.loop-x.invariant (search rules)
