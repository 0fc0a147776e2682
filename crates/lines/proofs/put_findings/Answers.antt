-- `lines::put_findings` meets its contract: what is put in hex is the bits of the volume, 16 digits, and the rest follows one by one.
use Rattle.lines.proofs.Writing.{then}
use Rattle.lines.proofs.put_findings.Goals as goal

pub returns-clause-put : goal.returns-clause-put
returns-clause-put c =
    let bits = rw c.pattern.ensures at c.put_hex-p2.ensures.put in
    then (then (then c.put_text-p1.ensures bits) c.put_field-p3.ensures.put) c.put_byte.ensures
