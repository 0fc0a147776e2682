-- `geometry::leaves::plane_coplanar_opposite` meets its contract: the room asks the same of the planes as they are taken.
use Rattle.geometry.specs.Leaves.{plane_coplanar_opposite_answer}
use Rattle.geometry.proofs.leaves.plane_coplanar_opposite.Goals as goal

pub returns : goal.returns
unfolding plane_coplanar_opposite_answer
returns c = cc
