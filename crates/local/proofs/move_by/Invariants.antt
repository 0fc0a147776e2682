use Rattle.std.proofs.Common.{◌≡◌, length}
use Rattle.flat.specs.Points.{vertices_of, minus_of}
use Rattle.local.proofs.Moving.{replaced}
use Rattle.local.proofs.move_by.Given as goal

abbrev pub invariant-loop-v : goal.invariant-loop-v
invariant-loop-v l =
    (length l.coords ≡ length l.initial.coords)
    × (vertices_of l.coords ≡ replaced (λ p. minus_of 3 p l.origin) l.v (vertices_of l.initial.coords))
