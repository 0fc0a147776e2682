-- `stored_answers::questions` meets its contract: each question takes a word or more, so there are no more questions than words, no more
-- different ones than questions, and the loop comes to the end of the line.
use Rattle.std.proofs.Common.{◌+◌, ◌≤◌, length}
use Rattle.stored_answers.proofs.questions.Given as goal

abbrev pub invariant-loop-size : goal.invariant-loop-size
invariant-loop-size l =
    (l.verdict.asked + length l.rest ≤ length l.ws) × (l.verdict.different ≤ l.verdict.asked)

abbrev pub decreases-loop-size : goal.decreases-loop-size
decreases-loop-size l = length l.rest
