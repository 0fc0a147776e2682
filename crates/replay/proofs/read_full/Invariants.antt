-- `replay::read_full` meets its contract: a read gives no more bytes than there is room behind those that are done.
use Rattle.std.proofs.Common.{◌≤◌, length}
use Rattle.replay.proofs.read_full.Given as goal

abbrev pub invariant-loop : goal.invariant-loop
invariant-loop g l = l.done ≤ length l.text
