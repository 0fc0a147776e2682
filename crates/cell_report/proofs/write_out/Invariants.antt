-- `cell_report::write_out` meets its contract: what was taken is never more than the bytes, and the writes that are left become fewer.
use Rattle.std.proofs.Common.{◌≤◌, length}
use Rattle.cell_report.proofs.write_out.Given as goal

abbrev pub invariant-loop-done : goal.invariant-loop-done
invariant-loop-done g l = l.done ≤ length l.bytes

abbrev pub decreases-loop-done : goal.decreases-loop-done
decreases-loop-done g l = l.writes
