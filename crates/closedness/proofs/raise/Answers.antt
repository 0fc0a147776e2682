-- `closedness::raise` meets its contract: where the opposite code has more sides there is a gap, and it narrows by one.
use native.Mathlib.Omega.{arith}
use Rattle.closedness.proofs.Gap.{gap_narrows}
use Rattle.closedness.proofs.raise.Goals as goal

pub overflow_sub-result : goal.overflow_sub-result
overflow_sub-result c =
    let less = gap_narrows c.args.tally.now c.args.c c.opposite.result c.requires.tally_len.0 c.requires.tally_len.1 c.opposite.ensures.0
    c.if-x-y.true in
    omega arith
