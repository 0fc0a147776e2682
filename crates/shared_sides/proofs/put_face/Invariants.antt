use Prim.Native.Nat.{◌≤◌}
use lib.ListN.{length, drop}
use mathlib.Core.Path.{◌≡◌}
use Rattle.places.specs.Ring.{sides}
use Rattle.shared_sides.specs.Steps.{marks_in}
use Rattle.side_table.specs.Numbers.{Known, entry_of}
use Rattle.shared_sides.proofs.Table.{Putting}
use Rattle.shared_sides.proofs.put_face.Given as goal

abbrev pub invariant-loop-i : goal.invariant-loop-i
invariant-loop-i l =
    (length l.table ≡ length l.initial.table) × (l.i ≤ l.n) ×
    Putting (Known l.number l.k) (entry_of l.number l.k) l.initial.table (λ a b. marks_in a b l.f (sides l.face))
    (λ a b. marks_in a b l.f (drop l.i (sides l.face))) l.table
