-- `facing::next_unreached` meets its contract: all faces before f are reached, so the first without a code is the first of all.
use Prim.Native.Nat.{ℕ, ◌<◌}
use lib.ListN.{get_or}
use Rattle.facing.proofs.next_unreached.Given as goal

abbrev pub invariant-loop-f : goal.invariant-loop-f
invariant-loop-f l = (m : ℕ) → m < l.f → 0 < get_or l.code m 0
