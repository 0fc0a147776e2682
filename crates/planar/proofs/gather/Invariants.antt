use mathlib.Core.Path.{◌≡◌}
use lib.ListN.{length, drop}
use Rattle.places.specs.Stored.{in_pairs}
use Rattle.work_lists.proofs.Filling.{Rest}
use Rattle.planar.proofs.gather.Given as goal

abbrev pub invariant-loop-i : goal.invariant-loop-i
invariant-loop-i l =
    (length l.dst ≡ length l.initial.dst) ×
    Rest (in_pairs l.src) (in_pairs l.initial.dst) l.i (drop l.i (in_pairs l.src)) (in_pairs l.dst)
