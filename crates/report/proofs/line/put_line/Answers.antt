-- `report::line::put_line` meets its contract: a refusal in the tally decides the line, and where there is none the survey's answer does,
-- as the definition has it.
use Rattle.report.specs.Report.{held_of}
use Rattle.std.specs.Prelude.{Ok, Err}
use Rattle.report.proofs.Taken.{line_refused, line_found}
use Rattle.report.proofs.line.put_line.Goals as goal

pub returns-in-Some-clause-put : goal.returns-in-Some-clause-put
returns-in-Some-clause-put c =
    let held = held_of c.args.t c.args.coords.now c.args.corners.now c.args.ends.now c.args.queries.now in
    line_refused held c.in-Some.is (rw c.number.ensures at c.put_refused.ensures.put)

pub returns-in-Ok-clause-put : goal.returns-in-Ok-clause-put
returns-in-Ok-clause-put c =
    let held = held_of c.args.t c.args.coords.now c.args.corners.now c.args.ends.now c.args.queries.now in
    line_found held c.found.result (Ok c.in-Ok.s) c.in_default.is c.found.ensures c.in-Ok.is c.put_cell.ensures.put

pub returns-in-Err-clause-put : goal.returns-in-Err-clause-put
returns-in-Err-clause-put c =
    let held = held_of c.args.t c.args.coords.now c.args.corners.now c.args.ends.now c.args.queries.now in
    line_found held c.found.result (Err c.in-Err.why) c.in_default.is c.found.ensures c.in-Err.is
    (rw c.number-in-Err.ensures at c.put_refused-in-Err.ensures.put)
