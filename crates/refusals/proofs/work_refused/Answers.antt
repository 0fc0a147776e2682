-- `refusals::work_refused` meets its contract: its one comparison is the definition's.
use Rattle.refusals.specs.Refusals.{work_refused}
use borrow.Author.Rules.{rules}
use Rattle.refusals.proofs.work_refused.Goals as goal

pub returns : goal.returns
unfolding work_refused
returns c = search rules
