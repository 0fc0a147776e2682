use mathlib.Core.Path.{◌≡◌}
use Prim.Native.Nat.{◌≤◌}
use lib.ListN.{length}
use Rattle.cell.specs.Faces.{faces_of}
use Rattle.facing.proofs.Rounds.{Round}
use Rattle.facing.proofs.Paired.ask.Given as goal

abbrev pub invariant-loop-i : goal.invariant-loop-i
invariant-loop-i l =
    (l.i ≤ l.n) × (length l.code ≡ length l.initial.code) × (length l.list ≡ length l.initial.list) ×
    Round (faces_of l.self.corners.now l.self.ends.now) l.code l.list l.at.low l.at.head l.tail l.f l.w l.i
