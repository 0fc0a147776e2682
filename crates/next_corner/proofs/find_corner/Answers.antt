-- `next_corner::find_corner` meets its contract: where the first pass takes an ear, that is the choice, and the corners that it tried were
-- tested; else those that the second pass tried are added, and the choice is what it takes.
use Rattle.std.proofs.Common.{arith}
use Rattle.next_corner.proofs.NextCorner.{ear_tried, turn_tried, first_takes, second_takes}
use Rattle.next_corner.proofs.find_corner.Goals as goal

pub tried-first-requires : goal.tried-first-requires
tried-first-requires c = rw c.find_ear-ear.ensures (ear_tried c.args.ps.now c.args.dir)

pub returns-in-Some : goal.returns-in-Some
returns-in-Some c = first_takes _ _ c.find_ear-ear.ensures c.tried-first.ensures _ c.in-Some.is

pub tried-second-requires : goal.tried-second-requires
tried-second-requires c = rw c.find_turn-turn.ensures (turn_tried c.args.ps.now c.args.dir)

pub overflow_add-result : goal.overflow_add-result
overflow_add-result c =
    let few = ear_tried c.args.ps.now c.args.dir in
    let few_again = turn_tried c.args.ps.now c.args.dir in
    let one = rw c.find_ear-ear.ensures at c.tried-first.ensures in
    let other = rw c.find_turn-turn.ensures at c.tried-second.ensures in
    omega (arith, c.requires)

pub returns : goal.returns
returns c =
    second_takes _ _ c.find_ear-ear.ensures c.tried-first.ensures c.in_default.is c.find_turn-turn.ensures c.tried-second.ensures
