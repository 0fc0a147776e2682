-- `local::inexact` meets its contract: the sum that it compares with x is exact, so it is x exactly where the difference was not rounded
-- (proofs/Exact.antt).
use Rattle.floats.proofs.Nans.{holds}
use Rattle.local.proofs.Exact.{inexact_test}
use Rattle.local.proofs.inexact.Goals as goal

pub returns : goal.returns
returns c =
    inexact_test c.args.x c.args.o (holds c.well_formed.0.1) (holds c.well_formed.1.0.1) c.requires.x_value c.requires.whole
