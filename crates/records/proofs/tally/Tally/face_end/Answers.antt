-- `records::tally::Tally::face_end` meets its contract: where nothing speaks against the record there is room for one end more, and else
-- the tally is refused for that reason.
use mathlib.Core.Path.{◌≡◌}
use native.Mathlib.Omega.{arith}
use Rattle.records.specs.Tally.{with_face, face_end_taken, face_end_why}
use Rattle.records.proofs.Tests.{room_left, counts, refuses}
use Rattle.records.proofs.tally.Tally.face_end.Goals as goal

pub offset_bounds-ends-self : goal.offset_bounds-ends-self
offset_bounds-ends-self c = omega (arith, room_left _ _ _ c.why.ensures c.in-Ok.is)

pub bounds-ends-self : goal.bounds-ends-self
bounds-ends-self c = omega (arith, room_left _ _ _ c.why.ensures c.in-Ok.is)

pub overflow_add-result : goal.overflow_add-result
overflow_add-result c = omega (arith, room_left _ _ _ c.why.ensures c.in-Ok.is)

pub returns-in-Ok-clause-value : goal.returns-in-Ok-clause-value
unfolding face_end_taken
returns-in-Ok-clause-value c =
    let why : c.why.result ≡ face_end_why c.args.self c.args.r = cc in
    counts c.args.self why c.in-Ok.is

pub returns-in-Err-clause-value : goal.returns-in-Err-clause-value
unfolding face_end_taken
returns-in-Err-clause-value c =
    let why : c.why.result ≡ face_end_why c.args.self c.args.r = cc in
    refuses c.args.self (with_face c.args.self) why c.in-Err.is c.refused.ensures
