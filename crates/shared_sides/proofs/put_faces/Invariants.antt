use Prim.Native.Nat.{◌≤◌}
use lib.Dec.{T}
use lib.ListN.{length, drop}
use mathlib.Core.Path.{◌≡◌}
use Rattle.cell.specs.Faces.{faces_from, faces_of, rises}
use Rattle.shared_sides.specs.Steps.{marks_from}
use Rattle.side_table.specs.Numbers.{Known, entry_of}
use Rattle.shared_sides.proofs.Table.{Putting}
use Rattle.shared_sides.proofs.put_faces.Given as goal

abbrev pub invariant-loop-j : goal.invariant-loop-j
invariant-loop-j l =
    (length l.table ≡ length l.initial.table) × (l.j ≤ length l.ends) × T (rises l.start (drop l.j l.ends) (length l.corners)) ×
    Putting (Known l.number l.k) (entry_of l.number l.k) l.initial.table (λ a b. marks_from a b 0 (faces_of l.corners l.ends))
    (λ a b. marks_from a b l.j (faces_from l.start l.corners (drop l.j l.ends))) l.table
