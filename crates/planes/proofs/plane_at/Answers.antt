-- `planes::plane_at` meets its contract: of a list in fours the plane at k has the four numbers from 4 k on (`fours_at`), and where there
-- is a plane at k these are in the list.
use native.Mathlib.Omega.{arith}
use lib.Ieee.{nan}
use Rattle.planes.proofs.Stored.{length_fours, fours_at}
use Rattle.planes.proofs.plane_at.Goals as goal

pub returns : goal.returns
returns c =
    cc (fours_at c.args.planes.now c.args.k nan (omega (arith, length_fours c.args.planes.now)))
