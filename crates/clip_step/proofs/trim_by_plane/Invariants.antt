use mathlib.Core.Path.{◌≡◌}
use lib.ListN.{length}
use Rattle.flat.specs.Points.{vertices_of}
use Rattle.planes.specs.Planes.{distance_of}
use Rattle.clip_step.specs.ClipStep.{within, cross_plane, trimmed_by}
use Rattle.clip_step.proofs.Trimming.{Trimming}
use Rattle.clip_step.proofs.trim_by_plane.Given as goal

abbrev pub invariant-loop-b : goal.invariant-loop-b
invariant-loop-b l =
    (length l.dst ≡ length l.initial.dst) × (l.da ≡ distance_of l.plane l.a) ×
    Trimming (within l.plane l.eps) (cross_plane l.plane) l.points (trimmed_by l.plane l.eps l.points)
    (vertices_of l.initial.dst) l.a l.b-index l.m (vertices_of l.dst)
