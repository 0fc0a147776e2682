use mathlib.Core.Path.{◌≡◌}
use Prim.Native.Nat.{◌-◌}
use lib.ListN.{length}
use Rattle.cell.specs.Faces.{faces_of}
use Rattle.facing.specs.Steps.{Spread}
use Rattle.facing.proofs.Paired.reach_over.Given as goal

abbrev pub invariant-loop-at : goal.invariant-loop-at
invariant-loop-at l =
    (length l.code ≡ length l.initial.code) × (length l.list ≡ length l.initial.list) ×
    Spread (faces_of l.self.corners.now l.self.ends.now) l.code l.list l.at.low l.at.head l.at.tail

abbrev pub decreases-loop-at : goal.decreases-loop-at
decreases-loop-at l = length l.self.ends.now - l.at.head
