-- `lines::put_cell` meets its contract: counts, shape and findings are put one behind the other, and their bounds add up to at most 256.
use Rattle.lines.specs.Lines.{cell_line}
use Rattle.lines.proofs.Writing.{then}
use Rattle.lines.proofs.put_cell.Goals as goal

pub returns-clause-put : goal.returns-clause-put
unfolding cell_line
returns-clause-put c = then (then c.put_counts-p1.ensures.put c.put_shape-p2.ensures.put) c.put_findings.ensures.put
