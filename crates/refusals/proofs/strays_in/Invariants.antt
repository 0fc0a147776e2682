use Rattle.places.specs.Loops.{any_of}
use Rattle.places.proofs.Loops.{Taking, or_test}
use Rattle.refusals.specs.Refusals.{strays}
use Rattle.refusals.proofs.strays_in.Given as goal

abbrev pub invariant-loop-c : goal.invariant-loop-c
invariant-loop-c l = Taking (or_test (strays l.n)) l.cs (any_of (strays l.n) l.cs) l.c-index l.any
