use mathlib.Core.Path.{refl}
use native.Mathlib.Omega.{arith}
use Rattle.lines.proofs.Writing.{then, hex_none, hex_step, same_byte}
use Rattle.lines.proofs.+put_hex.Goals as goal

pub returns-then-k-eq0-clause-put : goal.returns-then-k-eq0-clause-put
returns-then-k-eq0-clause-put t c = rw (hex_none c.args.k c.args.n c.if-k-eq0.true) (record { holds = refl; ends = omega arith })

pub returns-clause-put : goal.returns-clause-put
returns-clause-put t c =
    rw (hex_step c.args.k c.args.n c.if-k-eq0.false) (then c.put_hex-p.ensures.put (same_byte c.digit.ensures c.put_byte.ensures))
