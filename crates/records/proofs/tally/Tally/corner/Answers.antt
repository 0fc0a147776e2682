-- `records::tally::Tally::corner` meets its contract: where nothing speaks against the record there is room and its number fits 32 bits,
-- and else the tally is refused for that reason.
use mathlib.Core.Path.{◌≡◌}
use native.Mathlib.Omega.{arith}
use Rattle.records.specs.Tally.{with_corner, corner_taken, corner_why}
use Rattle.records.proofs.Tests.{room_left, corner_fits, counts, refuses}
use Rattle.records.proofs.tally.Tally.corner.Goals as goal

pub overflow_cast-corners : goal.overflow_cast-corners
overflow_cast-corners c =
    let why : c.why.result ≡ corner_why c.args.self c.args.r = cc in
    omega (arith, corner_fits _ _ why c.in-Ok.is)

pub offset_bounds-corners-self : goal.offset_bounds-corners-self
offset_bounds-corners-self c = omega (arith, room_left _ _ _ c.why.ensures c.in-Ok.is)

pub bounds-corners-self : goal.bounds-corners-self
bounds-corners-self c = omega (arith, room_left _ _ _ c.why.ensures c.in-Ok.is)

pub overflow_add-result : goal.overflow_add-result
overflow_add-result c = omega (arith, room_left _ _ _ c.why.ensures c.in-Ok.is)

pub returns-in-Ok-clause-value : goal.returns-in-Ok-clause-value
unfolding corner_taken
returns-in-Ok-clause-value c =
    let why : c.why.result ≡ corner_why c.args.self c.args.r = cc in
    counts c.args.self why c.in-Ok.is

pub returns-in-Err-clause-value : goal.returns-in-Err-clause-value
unfolding corner_taken
returns-in-Err-clause-value c =
    let why : c.why.result ≡ corner_why c.args.self c.args.r = cc in
    refuses c.args.self (with_corner c.args.self) why c.in-Err.is c.refused.ensures
