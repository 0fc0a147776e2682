-- `planes::put_plane` meets its contract: storing a plane's four numbers from 4 k on is storing the plane at k (`fours_set`), and where
-- there is a plane at k these places are in the list.
use native.Mathlib.Omega.{arith}
use lib.ListN.{length-set}
use Rattle.planes.proofs.Stored.{fours_set, length_fours}
use borrow.Author.Rules.{rules}
use Rattle.planes.proofs.put_plane.Goals as goal

pub returns : goal.returns
returns c =
    fours_set c.args.out.now c.args.k c.args.plane (search rules) (omega (arith, length_fours c.args.out.now))

pub bounds-out-i-2 : goal.bounds-out-i-2
bounds-out-i-2 c = simp length-set (omega (arith, length_fours c.args.out.now))

pub bounds-out-i-3 : goal.bounds-out-i-3
bounds-out-i-3 c = simp length-set (omega (arith, length_fours c.args.out.now))

pub bounds-out-i-4 : goal.bounds-out-i-4
bounds-out-i-4 c = simp length-set (omega (arith, length_fours c.args.out.now))
