use Rattle.report.proofs.Taken.{Goes}
use Rattle.report.proofs.block.take_block.Given as goal

abbrev pub invariant-loop-k : goal.invariant-loop-k
invariant-loop-k l =
    Goes l.s l.initial.coords l.initial.corners l.initial.ends l.initial.queries l.initial.out l.n l.initial.t
    l.coords l.corners l.ends l.queries l.out l.t l.made l.k
