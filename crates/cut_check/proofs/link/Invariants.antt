use mathlib.Core.Path.{◌≡◌}
use lib.ListN.{length}
use Rattle.cut_check.specs.Steps.{Linked}
use Rattle.cut_check.proofs.link.Given as goal

abbrev pub invariant-loop-s : goal.invariant-loop-s
invariant-loop-s l = record {
  head_len : length l.head ≡ length l.initial.head;
  next_len : length l.next ≡ length l.initial.next;
  linked : Linked l.head l.next l.corners l.s;
}
