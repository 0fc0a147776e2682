use Rattle.side_table.proofs.Numbers.{Seen}
use Rattle.side_table.proofs.number_all.Given as goal

abbrev pub invariant-loop-x : goal.invariant-loop-x
invariant-loop-x l = Seen l.number l.k l.corners l.x-index
