use Rattle.places.proofs.Loops.{Taking, or_test}
use Rattle.cell.specs.Refusals.{out_of_range, number_refused}
use Rattle.cell.proofs.number_refused.Given as goal

abbrev pub invariant-loop-x : goal.invariant-loop-x
invariant-loop-x l = Taking (or_test out_of_range) l.xs (number_refused l.xs) l.x-index l.refused
