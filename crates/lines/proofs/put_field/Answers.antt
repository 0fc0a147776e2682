-- `lines::put_field` meets its contract: the label is put, and behind it the digits, of which there are at most 20.
use Rattle.lines.proofs.Writing.{then}
use Rattle.lines.proofs.put_field.Goals as goal

pub returns-clause-put : goal.returns-clause-put
returns-clause-put c = then c.put_text-p.ensures c.put_decimal.ensures.put
