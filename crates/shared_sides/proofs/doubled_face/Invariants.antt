use lib.ListN.{length}
use mathlib.Core.Path.{◌≡◌}
use Rattle.exact.specs.Facing.{doubled}
use Rattle.shared_sides.proofs.Stamps.{Stamping}
use Rattle.shared_sides.proofs.doubled_face.Given as goal

abbrev pub invariant-loop-x : goal.invariant-loop-x
invariant-loop-x l =
    (length l.stamp ≡ length l.initial.stamp) × Stamping l.stamp l.own l.face (doubled l.face) l.x-index
