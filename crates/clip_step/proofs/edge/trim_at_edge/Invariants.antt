use mathlib.Core.Path.{◌≡◌}
use Prim.Native.Nat.{◌≤◌}
use lib.ListN.{length}
use Rattle.places.specs.Stored.{in_pairs}
use Rattle.flat.specs.Flat.{crossing_of}
use Rattle.clip_step.specs.ClipStep.{on_left, trimmed_at}
use Rattle.clip_step.proofs.Trimming.{Trimming, ringed}
use Rattle.clip_step.proofs.edge.trim_at_edge.Given as goal

abbrev pub invariant-loop-i : goal.invariant-loop-i
invariant-loop-i l =
    (length l.dst ≡ length l.initial.dst) × (l.p_in ≡ on_left l.a l.b l.p) × (l.i ≤ l.n) ×
    Trimming (on_left l.a l.b) (crossing_of l.a l.b) (ringed (in_pairs l.src)) (trimmed_at l.a l.b (in_pairs l.src))
    (in_pairs l.initial.dst) l.p l.i l.m (in_pairs l.dst)
