use mathlib.Core.Path.{◌≡◌}
use mathlib.Core.List.{List}
use Prim.Native.Nat.{ℕ, ◌+◌}
use lib.Dec.{T}
use lib.ListN.{length, drop}
use Rattle.cell.specs.Faces.{rises}
use Rattle.closedness.specs.Steps.{Lists}
use Rattle.closedness.proofs.Linked.{FacesLinked}
use Rattle.closedness.proofs.Chains.link_faces.Given as goal

abbrev pub invariant-loop-end : goal.invariant-loop-end
invariant-loop-end g l = record {
  taken : l.self.len ≡ l.initial.self.len + l.start;
  ordered : T (rises l.start (drop l.end-index l.ends) (length l.corners));
  linked : (gone : List (ℕ × ℕ)) → Lists l.initial.self.head l.initial.self.next l.initial.self.other gone
      → FacesLinked (Lists l.self.head l.self.next l.self.other) l.corners l.ends gone l.start l.end-index;
}
