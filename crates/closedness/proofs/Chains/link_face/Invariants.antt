use mathlib.Core.Path.{◌≡◌}
use mathlib.Core.List.{List}
use Prim.Native.Nat.{ℕ, ◌+◌}
use lib.ListN.{length}
use Rattle.closedness.specs.Steps.{Lists}
use Rattle.closedness.proofs.Linked.{FaceLinked}
use Rattle.closedness.proofs.Chains.link_face.Given as goal

abbrev pub invariant-loop-i : goal.invariant-loop-i
invariant-loop-i g l = record {
  whole : l.n ≡ length l.face;
  taken : l.self.len ≡ l.initial.self.len + l.i;
  linked : (gone : List (ℕ × ℕ)) → Lists l.initial.self.head l.initial.self.next l.initial.self.other gone
      → FaceLinked (Lists l.self.head l.self.next l.self.other) l.face gone l.i;
}
