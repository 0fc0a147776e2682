-- `stored_answers::text::read` meets its contract: it counts the places that it has written to.
use Rattle.std.proofs.Common.{◌≡◌, length}
use Rattle.stored_answers.proofs.text.read.Given as goal

abbrev pub invariant-loop-place : goal.invariant-loop-place
invariant-loop-place l =
    (goal.iterator-loop-place).can_next l.place-iterator ×
    (goal.iterator-loop-place).is_finite l.place-iterator ×
    (l.count ≡ length l.yielded)
