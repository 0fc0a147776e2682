-- `report::stream::finish` meets its contract: in each branch what is put is the tail, and the tail makes the report whole.
use mathlib.Core.Path.{◌≡◌, refl}
use mathlib.Core.List.{[]}
use native.Mathlib.Omega.{arith}
use borrow.Author.Tests.{eq-eqb, ne_eqb}
use Rattle.lines.specs.Lines.{tail_line}
use Rattle.report.proofs.Split.{finished}
use Rattle.report.proofs.stream.finish.Goals as goal

pub returns-then-t-clause-upper_bound : goal.returns-then-t-clause-upper_bound
unfolding tail_line
returns-then-t-clause-upper_bound c = omega (arith, c.put_tail.ensures.ends)

pub returns-then-t-clause-finishes : goal.returns-then-t-clause-finishes
unfolding tail_line
returns-then-t-clause-finishes c =
    (finished c.args.t c.args.have (rw c.if-t.true) c.put_tail.ensures (omega (arith, c.put_tail.ensures.ends))).1.1

pub returns-then-have-eq0-clause-finishes : goal.returns-then-have-eq0-clause-finishes
returns-then-have-eq0-clause-finishes c =
    let none : c.args.have ≡ 0 = omega arith in
    (finished {o = c.args.out.now} {xs = []} c.args.t c.args.have (rw (c.if-t.false, eq-eqb _ _ none))
    (record { holds = refl; ends = refl }) (omega arith)).1.1

pub returns-clause-upper_bound : goal.returns-clause-upper_bound
unfolding tail_line
returns-clause-upper_bound c = omega (arith, c.put_tail-2.ensures.ends)

pub returns-clause-finishes : goal.returns-clause-finishes
unfolding tail_line
returns-clause-finishes c =
    (finished c.args.t c.args.have (rw (c.if-t.false, ne_eqb _ _ c.if-have-eq0.false)) c.put_tail-2.ensures
    (omega (arith, c.put_tail-2.ensures.ends))).1.1
