-- `lines::put_counts` meets its contract: four fields are put one behind the other, each of its label and at most 20 digits.
use Rattle.lines.proofs.Writing.{then}
use Rattle.lines.proofs.put_counts.Goals as goal

pub returns-clause-put : goal.returns-clause-put
returns-clause-put c =
    then (then (then c.put_field-p1.ensures.put c.put_field-p2.ensures.put) c.put_field-p3.ensures.put) c.put_field.ensures.put
