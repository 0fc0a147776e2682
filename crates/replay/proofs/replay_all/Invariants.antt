-- `replay::replay_all` meets its contract: each turn takes a line and its line feed away, so what is left becomes shorter; it is never
-- longer than the text, so the place behind a line is no number too large.
use Rattle.std.proofs.Common.{◌≤◌, length}
use Rattle.replay.proofs.replay_all.Given as goal

abbrev pub invariant-loop-rest : goal.invariant-loop-rest
invariant-loop-rest g l = length l.rest ≤ length l.text

abbrev pub decreases-loop-rest : goal.decreases-loop-rest
decreases-loop-rest g l = length l.rest
