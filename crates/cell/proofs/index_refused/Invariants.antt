use Rattle.places.proofs.Loops.{Taking, or_test}
use Rattle.cell.specs.Refusals.{not_below, index_refused}
use Rattle.cell.proofs.index_refused.Given as goal

abbrev pub invariant-loop-c : goal.invariant-loop-c
invariant-loop-c l = Taking (or_test (not_below l.n)) l.cs (index_refused l.n l.cs) l.c-index l.refused
