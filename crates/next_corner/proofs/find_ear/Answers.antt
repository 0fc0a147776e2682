-- `next_corner::find_ear` meets its contract: `find` tries the places in order and answers the first at which the test holds.
use native.Mathlib.Omega.{arith}
use borrow.Author.Rules.{rules}
use Rattle.std.proofs.Common.{tests, length}
use Rattle.std.proofs.lemmas.Iterator.{YieldsList-from_range}
use Rattle.std.proofs.lemmas.Iterator.Search.{find_from_yields_List}
use Rattle.places.proofs.Loops.{find_is}
use Rattle.next_corner.specs.NextCorner.{ear_at, find_ear}
use Rattle.next_corner.proofs.find_ear.Goals as goal

pub returns : goal.returns
unfolding find_ear
returns c =
    let test = ear_at c.args.ps.now c.args.dir in
    let n = length c.args.ps.now in
    let below = YieldsList-from_range 0 n n (cc) (omega arith) in
    find_is test n _ (find_from_yields_List test _ _ c.find.result c.find.ensures.ran below (λ x b q k. search (rules, tests)))
