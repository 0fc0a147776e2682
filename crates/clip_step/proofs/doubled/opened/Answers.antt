-- `clip_step::doubled::opened` meets its contract: of fewer than 2 points none goes, and of more the last goes where `is_near` says that it
-- doubles the first, as in `opened_of`.
use mathlib.Core.Path.{sym, ◌∙◌}
use native.Mathlib.Omega.{arith}
use Rattle.places.proofs.Stored.{length_threes}
use Rattle.flat.specs.Points.{vertices_of}
use Rattle.clip_step.proofs.Spacing.{opened_short, opened_long}
use Rattle.clip_step.proofs.doubled.opened.Goals as goal

pub returns-then-n-lt2 : goal.returns-then-n-lt2
returns-then-n-lt2 c =
    sym (length_threes c.args.s.now) ∙ opened_short c.args.eps (vertices_of c.args.s.now) (omega (arith, length_threes c.args.s.now))

pub vertex-first-requires : goal.vertex-first-requires
vertex-first-requires c =
    omega (arith, length_threes c.args.s.now)

pub vertex-last-requires : goal.vertex-last-requires
vertex-last-requires c =
    omega (arith, length_threes c.args.s.now)

pub returns-then-is_near : goal.returns-then-is_near
returns-then-is_near c =
    rw (← length_threes c.args.s.now)
    (rw c.if-is_near.true at
    (opened_long c.args.eps (vertices_of c.args.s.now) (omega (arith, length_threes c.args.s.now)) c.vertex-first.ensures
    (rw (length_threes c.args.s.now) c.vertex-last.ensures) c.is_near.ensures))

pub returns : goal.returns
returns c =
    rw (← length_threes c.args.s.now)
    (rw c.if-is_near.false at
    (opened_long c.args.eps (vertices_of c.args.s.now) (omega (arith, length_threes c.args.s.now)) c.vertex-first.ensures
    (rw (length_threes c.args.s.now) c.vertex-last.ensures) c.is_near.ensures))
