-- `records::tally::why` meets its contract: the record is tested before the room, as in the definition, so 7 comes before 1.
use borrow.Author.Tests.{lt-ltb, le-ltb}
use Rattle.records.specs.Tally.{why_of}
use Rattle.records.proofs.tally.why.Goals as goal

pub returns-then-not-fine : goal.returns-then-not-fine
unfolding why_of
returns-then-not-fine c = simp (c.if-not-fine.true)

pub returns-then-n-most : goal.returns-then-n-most
unfolding why_of
returns-then-n-most c =
    simp (c.if-not-fine.false, lt-ltb _ _ c.if-n-most.true)

pub returns-else-n-most : goal.returns-else-n-most
unfolding why_of
returns-else-n-most c =
    simp (c.if-not-fine.false, le-ltb _ _ c.if-n-most.false)
