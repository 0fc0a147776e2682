-- `refusals::strays_in` meets its contract: each pass joins the test of one entry to `any` by an or, and such an or over the whole list is
-- `any_of` (`any_taken`).
use Rattle.places.proofs.Loops.{take_start, take_next, take_end, any_taken}
use Rattle.refusals.specs.Refusals.{strays}
use borrow.Author.Rules.{rules}
use Rattle.refusals.proofs.strays_in.Goals as goal

pub loop-c-init : goal.loop-c-init
loop-c-init c = take_start (any_taken (strays _) _)

pub loop-c-preserved : goal.loop-c-preserved
loop-c-preserved c =
    take_next 0 c.loop-c.invariant (search rules) (cc)

pub returns : goal.returns
returns c = take_end c.loop-c.invariant (search rules)
