use native.Mathlib.Omega.{arith}
use Rattle.lines.proofs.Writing.{then, decimal_small, decimal_step, tenth_length}
use Rattle.lines.proofs.+put_decimal.Goals as goal

pub returns-then-n-lt10-clause-put : goal.returns-then-n-lt10-clause-put
returns-then-n-lt10-clause-put t c = rw (decimal_small c.args.n (omega arith)) c.put_byte.ensures

pub put_byte-requires-2 : goal.put_byte-requires-2
put_byte-requires-2 t c = omega (arith, tenth_length c.args.n (omega arith))

pub returns-clause-put : goal.returns-clause-put
returns-clause-put t c = rw (decimal_step c.args.n (omega arith) (omega arith)) (then c.put_decimal-p.ensures.put c.put_byte-2.ensures)

pub returns-clause-upper_bound : goal.returns-clause-upper_bound
returns-clause-upper_bound t c = omega (arith, tenth_length c.args.n (omega arith))
