-- `clip_step::trim_by_plane` meets its contract: the chunks of three are the points; what the sides from the place on leave makes, with
-- what was laid down, the whole; a is the point before the place, and da its distance.
use mathlib.Core.Path.{refl, ◌∙◌}
use native.Mathlib.Omega.{arith}
use Prim.Native.Nat.{zero-le}
use Rattle.places.proofs.Stored.{length_threes, threes_chunks}
use Rattle.clip_step.proofs.Trimming.{trimming_start, trimming_more, trimming_end, trimmed_last}
use Rattle.clip_step.proofs.trim_by_plane.Goals as goal

pub overflow_sub-a : goal.overflow_sub-a
overflow_sub-a c = omega (arith, length_threes c.args.src.now)

pub bounds-points-points : goal.bounds-points-points
bounds-points-points c = omega (arith, length_threes c.args.src.now)

pub loop-b-init : goal.loop-b-init
loop-b-init c = (refl, c.distance-da.ensures, trimming_start zero-le (trimmed_last c.args.plane c.args.eps _ refl))

pub loop-b-preserved : goal.loop-b-preserved
loop-b-preserved c = (
  c.emit-m.auto.s ∙ c.loop-b.invariant.0,
  c.distance-db.ensures,
  trimming_more c.loop-b.invariant.2 (omega arith) refl
      (rw (c.loop-b.invariant.1, c.distance-db.ensures) at c.emit-m.ensures),
)

pub returns : goal.returns
returns c =
    rw (← (c.as_chunks.ensures.front ∙ threes_chunks c.args.src.now)) (trimming_end c.loop-b.invariant.2 (omega arith))
