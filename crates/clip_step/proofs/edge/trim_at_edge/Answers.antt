-- `clip_step::edge::trim_at_edge` meets its contract: the sides run through the outline with its first point once more; what those from
-- place i on leave makes, with what was laid down, the whole, and the last is taken after the loop.
use mathlib.Core.Path.{refl, ◌∙◌}
use native.Mathlib.Omega.{arith}
use Rattle.places.specs.Stored.{in_pairs}
use Rattle.places.proofs.Stored.{length_pairs}
use Rattle.clip_step.proofs.Trimming.{trimming_start, length_ringed, trimmed_ringed, ringed_more, ringed_end}
use borrow.Author.Rules.{rules}
use Rattle.clip_step.proofs.edge.trim_at_edge.Goals as goal

pub loop-i-init : goal.loop-i-init
loop-i-init c =
    let points = in_pairs c.args.src.now in (
      refl,
      c.on_left-first_in.ensures,
      omega (arith, length_pairs c.args.src.now),
      trimming_start (omega (arith, length_ringed points))
          (trimmed_ringed c.args.a c.args.b points c.requires.nonzero c.pair-first.ensures),
    )

pub loop-i-preserved : goal.loop-i-preserved
loop-i-preserved c = (
  c.emit-m.auto.s ∙ c.loop-i.invariant.0,
  c.on_left-q_in.ensures,
  omega arith,
  ringed_more (in_pairs c.args.src.now) c.loop-i.invariant.3 (search (rules, length_pairs))
      c.pair-q.ensures (rw (c.loop-i.invariant.1, c.on_left-q_in.ensures) at c.emit-m.ensures),
)

pub returns : goal.returns
returns c =
    ringed_end (in_pairs c.args.src.now) c.loop-i.invariant.3
    (omega (arith, length_pairs c.args.src.now, c.loop-i.invariant.2, c.loop-i-test.false))
    c.pair-first.ensures (rw (c.loop-i.invariant.1, c.on_left-first_in.ensures) at c.emit.ensures)

pub pair-q-requires : goal.pair-q-requires
pair-q-requires c = search (rules, length_pairs)
