-- `report::block::take_record` meets its contract: the lists hold the cell with what the record adds, a cell end prints that cell's
-- line and starts a new tally, and any other record prints nothing.
use mathlib.Core.Path.{sym, ◌∙◌}
use native.Mathlib.Omega.{arith}
use Rattle.report.proofs.Taken.{follows, stored, taken_end, taken_on, says_end, says_on}
use Rattle.report.proofs.block.take_record.Goals as goal

pub put_line-made-requires-clause-fits : goal.put_line-made-requires-clause-fits
put_line-made-requires-clause-fits c = (follows c.take-u.ensures c.requires.sized c.requires.fits).fits

pub returns-then-ends_cell-clause-queries_value : goal.returns-then-ends_cell-clause-queries_value
returns-then-ends_cell-clause-queries_value c =
    taken_end c.take-u.ensures c.requires.sized c.requires.fits c.new.result
    (sym c.ends_cell.ensures ∙ c.if-ends_cell.true) c.new.ensures

pub returns-then-ends_cell-clause-queries_value_2 : goal.returns-then-ends_cell-clause-queries_value_2
returns-then-ends_cell-clause-queries_value_2 c = stored c.take-u.ensures c.requires.sized c.requires.fits

pub returns-then-ends_cell-clause-put : goal.returns-then-ends_cell-clause-put
returns-then-ends_cell-clause-put c =
    says_end c.take-u.ensures c.requires.sized c.requires.fits (sym c.ends_cell.ensures ∙ c.if-ends_cell.true) c.put_line-made.ensures.put

pub returns-clause-queries_value : goal.returns-clause-queries_value
returns-clause-queries_value c =
    taken_on c.take-u.ensures c.requires.sized c.requires.fits (sym c.ends_cell.ensures ∙ c.if-ends_cell.false)

pub returns-clause-queries_value_2 : goal.returns-clause-queries_value_2
returns-clause-queries_value_2 c = stored c.take-u.ensures c.requires.sized c.requires.fits

pub returns-clause-put : goal.returns-clause-put
returns-clause-put c =
    says_on c.take-u.ensures c.requires.sized c.requires.fits c.args.out.now c.args.at
    (sym c.ends_cell.ensures ∙ c.if-ends_cell.false)

pub returns-clause-fits_2 : goal.returns-clause-fits_2
returns-clause-fits_2 c =
    let g = follows c.take-u.ensures c.requires.sized c.requires.fits in
    (g.fits, omega (arith, g.number), omega arith)
