-- `shapes::numbers` meets its contract: points of three numbers each, one after the other, are read as these points.
use Rattle.shapes.proofs.Flattened.{vertices_flat}
use Rattle.shapes.proofs.numbers.Goals as goal

pub returns-clause-vertices : goal.returns-clause-vertices
returns-clause-vertices c = rw c.as_flattened.ensures.value (vertices_flat c.args.ps.now (record { holds = c.told-ps }))
