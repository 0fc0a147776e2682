use mathlib.Core.Path.{◌≡◌, refl, ap, ◌∙◌}
use Prim.Native.Nat.{ℕ}
use native.Mathlib.Omega.{arith}
use lib.ListN.{take}
use Rattle.report.proofs.Taken.{new_fits}
use Rattle.report.proofs.Split.{new_runs, runs_on}
use Rattle.cell_report.proofs.run.Goals as goal

pub loop-more-init : goal.loop-more-init
loop-more-init g c =
    let new = new_fits c.new-t.ensures in
    record {
      for_block = refl;
      for_coords = refl;
      for_corners = refl;
      for_ends = refl;
      for_queries = refl;
      for_out = refl;
      fits = new.0;
      number = omega (arith, new.1);
      small = omega arith;
      running = new_runs c.args.coords.now c.args.corners.now c.args.ends.now c.args.queries.now c.new-t.ensures;
    }

pub loop-more-preserved : goal.loop-more-preserved
loop-more-preserved g c =
    let i = c.loop-more.invariant in
    let read = c.read_more-came in
    let after = c.after_read-w in
    let went = after.ensures.fits_2 in
    let waits : take read.result.waited read.new.block ≡ take c.loop-more.have c.loop-more.block =
    ap (λ (n : ℕ). take n read.new.block) read.ensures.waited_value.0 ∙ read.ensures.block_value in
    record {
      for_block = after.auto.block ∙ read.auto.block ∙ i.for_block;
      for_coords = after.auto.coords ∙ i.for_coords;
      for_corners = after.auto.corners ∙ i.for_corners;
      for_ends = after.auto.ends ∙ i.for_ends;
      for_queries = after.auto.queries ∙ i.for_queries;
      for_out = after.auto.out ∙ i.for_out;
      fits = went.0;
      number = omega (arith, went.1, i.number);
      small = went.2;
      running = runs_on i.running waits after.ensures.took_read;
    }
