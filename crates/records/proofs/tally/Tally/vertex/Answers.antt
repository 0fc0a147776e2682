-- `records::tally::Tally::vertex` meets its contract: where nothing speaks against the record there is room for three numbers more, and
-- else the tally is refused for that reason.
use native.Mathlib.Omega.{arith}
use Rattle.records.specs.Tally.{with_vertex, vertex_taken}
use Rattle.records.proofs.Tests.{room_left, counts, refuses}
use Rattle.records.proofs.tally.Tally.vertex.Goals as goal

pub overflow_mul-self : goal.overflow_mul-self
overflow_mul-self c = omega (arith, room_left _ _ _ c.why.ensures c.in-Ok.is)

pub put_point-requires : goal.put_point-requires
put_point-requires c = omega (arith, room_left _ _ _ c.why.ensures c.in-Ok.is)

pub overflow_add-result : goal.overflow_add-result
overflow_add-result c = omega (arith, room_left _ _ _ c.why.ensures c.in-Ok.is)

pub returns-in-Ok-clause-value : goal.returns-in-Ok-clause-value
unfolding vertex_taken
returns-in-Ok-clause-value c = counts c.args.self c.why.ensures c.in-Ok.is

pub returns-in-Err-clause-value : goal.returns-in-Err-clause-value
unfolding vertex_taken
returns-in-Err-clause-value c = refuses c.args.self (with_vertex c.args.self) c.why.ensures c.in-Err.is c.refused.ensures
