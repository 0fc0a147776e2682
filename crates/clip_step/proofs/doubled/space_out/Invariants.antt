use mathlib.Core.Path.{◌≡◌}
use lib.ListN.{length}
use Rattle.flat.specs.Points.{vertices_of}
use Rattle.clip_step.proofs.Spacing.{Spacing}
use Rattle.clip_step.proofs.doubled.space_out.Given as goal

abbrev pub invariant-loop-i : goal.invariant-loop-i
invariant-loop-i l =
    (length l.s ≡ length l.initial.s) × Spacing l.eps (vertices_of l.initial.s) l.last l.kept l.i (vertices_of l.s)
