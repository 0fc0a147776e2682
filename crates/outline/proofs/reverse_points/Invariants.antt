use mathlib.Core.Path.{◌≡◌}
use Prim.Native.Nat.{◌/◌}
use lib.ListN.{length}
use mathlib.Core.List.{[], reverse}
use Rattle.places.specs.Stored.{in_pairs}
use Rattle.places.specs.Steps.{over_pairs}
use Rattle.places.proofs.Folding.{Folding}
use Rattle.places.proofs.Reversal.{mirror}
use Rattle.outline.proofs.reverse_points.Given as goal

abbrev pub invariant-loop-i : goal.invariant-loop-i
invariant-loop-i l =
    (l.n ≡ length (in_pairs l.initial.ps)) × (length l.ps ≡ length l.initial.ps) ×
    Folding (mirror [] l.n) (l.n / 2) (reverse (in_pairs l.initial.ps)) l.i (in_pairs l.ps) × (over_pairs l.ps ≡ over_pairs l.initial.ps)
