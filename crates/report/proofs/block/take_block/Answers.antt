-- `report::block::take_block` meets its contract: after k turns the tally, the lists and the lines are those of the first k records,
-- and after the last turn those of all of them.
use mathlib.Core.Path.{◌≡◌, sym, ◌∙◌}
use mathlib.Core.List.{List}
use Prim.Native.Nat.{ℕ, ◌+◌, ◌*◌, ◌/◌, ◌≤◌}
use native.Mathlib.Omega.{arith}
use lib.ListN.{length}
use Rattle.report.specs.Report.{held_of, lent_of, records_of}
use Rattle.report.proofs.Joining.{first_records, all_records}
use Rattle.report.proofs.Taken.{goes_start, after_step, stored_step, lines_step}
use Rattle.report.proofs.block.take_block.Goals as goal

-- after the last turn the first records are all of them
all_of : (s : List ℕ) (k : ℕ) → k ≡ length s / 32 → first_records k s ≡ records_of s
all_of s k e = rw e (sym (all_records s))

pub loop-k-init : goal.loop-k-init
loop-k-init c =
    goes_start c.args.s.now c.args.coords.now c.args.corners.now c.args.ends.now c.args.queries.now c.args.out.now
    (length c.args.s.now / 32) c.args.start c.requires.fits

pub loop-k-preserved : goal.loop-k-preserved
loop-k-preserved c =
    let args = c.args in
    let first = held_of args.start args.coords.now args.corners.now args.ends.now args.queries.now in
    let lists = lent_of args.coords.now args.corners.now args.ends.now args.queries.now in
    let i = c.loop-k.invariant in
    let d = c.take_record-d in
    let there : (c.loop-k.k + 1) * 32 ≤ length args.s.now = omega arith in
    record {
      bound = omega arith;
      held = after_step first args.s.now c.loop-k.k there i.held c.read_record-r.ensures d.ensures.queries_value;
      put = lines_step first args.s.now c.loop-k.k there i.held c.read_record-r.ensures i.put d.ensures.put;
      lent = stored_step first args.s.now c.loop-k.k there i.held c.read_record-r.ensures lists i.lent d.ensures.queries_value_2;
      for_a = d.auto.coords ∙ i.for_a;
      for_b = d.auto.corners ∙ i.for_b;
      for_c = d.auto.ends ∙ i.for_c;
      for_d = d.auto.queries ∙ i.for_d;
      for_o = d.auto.out ∙ i.for_o;
      fits = d.ensures.fits_2.0;
      number = omega (arith, d.ensures.fits_2.1, i.number);
      room = omega (arith, d.ensures.fits_2.2, i.room);
    }

pub returns-clause-queries_value : goal.returns-clause-queries_value
returns-clause-queries_value c =
    rw (all_of c.args.s.now c.loop-k.k (omega arith)) at c.loop-k.invariant.held

pub returns-clause-queries_value_2 : goal.returns-clause-queries_value_2
returns-clause-queries_value_2 c =
    rw (all_of c.args.s.now c.loop-k.k (omega arith)) at c.loop-k.invariant.lent

pub returns-clause-put : goal.returns-clause-put
returns-clause-put c =
    rw (all_of c.args.s.now c.loop-k.k (omega arith)) at c.loop-k.invariant.put
