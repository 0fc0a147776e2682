-- `work_lists::shorter` meets its contract: std's `min` asks as `shorter_of` does whether the second number is below the first.
use Rattle.work_lists.proofs.Smaller.{min_is}
use Rattle.work_lists.proofs.shorter.Goals as goal

pub returns : goal.returns
returns c = rw c.min.ensures (min_is c.args.a c.args.b)
