-- `clip_step::doubled::space_out` meets its contract: kept points are stored before the place that is read, so the points from place i on
-- stand as they were, and what they give makes, with the kept ones, the whole.
use mathlib.Core.Path.{refl, sym, ◌∙◌}
use native.Mathlib.Omega.{arith}
use Rattle.places.proofs.Stored.{length_threes}
use Rattle.clip_step.proofs.Spacing.{spacing_start, spacing_keep, spacing_drop, spacing_end}
use borrow.Author.Rules.{rules}
use Rattle.clip_step.proofs.doubled.space_out.Goals as goal
use Rattle.clip_step.proofs.doubled.space_out.Goals.{then-is_far, else-is_far}

pub loop-i-init : goal.loop-i-init
loop-i-init c =
    (refl, spacing_start c.requires.0 c.vertex-last.ensures)

pub vertex-p-requires : goal.vertex-p-requires
vertex-p-requires c =
    omega (arith, length_threes c.loop-i.s, length_threes c.args.s.now, c.loop-i.invariant.0)

pub loop-i-preserved : goal.loop-i-preserved
loop-i-preserved c =
    elim c.if-is_far.branch [
      | then-is_far w ↦ rw (w.s-is, w.kept-is, w.last-is) (
        w.put_vertex.auto.coords ∙ c.loop-i.invariant.0,
        spacing_keep c.loop-i.invariant.1 (search (rules, length_threes)) c.vertex-p.ensures
            (sym c.is_far.ensures ∙ w.if-is_far.true) w.put_vertex.ensures.vertices,
      )
      | else-is_far w ↦ rw (w.s-is, w.kept-is, w.last-is) (
        c.loop-i.invariant.0,
        spacing_drop c.loop-i.invariant.1 (search (rules, length_threes)) c.vertex-p.ensures
            (sym c.is_far.ensures ∙ w.if-is_far.false),
      )
    ]

pub returns : goal.returns
returns c =
    let e = spacing_end c.loop-i.invariant.1 (search (rules, length_threes)) in
    record { value = e.0; s_value = e.1 }
