-- `side_table::number_vertex` meets its contract: a vertex that has a number keeps it, and one that has none gets k, which no other has.
use Rattle.side_table.proofs.Numbers.{already, newly}
use Rattle.side_table.proofs.number_vertex.Goals as goal

pub returns-then-number-x-ne256 : goal.returns-then-number-x-ne256
returns-then-number-x-ne256 c =
    already c.requires.0 c.requires.1 c.if-number-x-ne256.true

pub returns : goal.returns
returns c =
    newly c.requires.0 c.requires.1 c.if-number-x-ne256.false
