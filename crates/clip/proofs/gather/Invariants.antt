use mathlib.Core.Path.{◌≡◌}
use lib.ListN.{length, drop}
use Rattle.flat.specs.Points.{vertices_of, corners_of}
use Rattle.work_lists.proofs.Filling.{Rest}
use Rattle.clip.proofs.gather.Given as goal

abbrev pub invariant-loop-i : goal.invariant-loop-i
invariant-loop-i l =
    (length l.dst ≡ length l.initial.dst) ×
    Rest (corners_of (vertices_of l.coords) l.face) (vertices_of l.initial.dst) l.i (drop l.i (corners_of (vertices_of l.coords) l.face))
    (vertices_of l.dst)
