-- `lines::put_refused` meets its contract: two fields and a line feed are put one behind the other.
use Rattle.lines.specs.Lines.{refused_line}
use Rattle.lines.proofs.Writing.{then}
use Rattle.lines.proofs.put_refused.Goals as goal

pub returns-clause-put : goal.returns-clause-put
unfolding refused_line
returns-clause-put c =
    then (then c.put_field-p1.ensures.put (rw c.from.ensures at c.put_field-p2.ensures.put)) c.put_byte.ensures
