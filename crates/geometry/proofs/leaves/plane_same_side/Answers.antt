-- `geometry::leaves::plane_same_side` meets its contract: the room asks the same of the planes as they are taken.
use Rattle.geometry.specs.Leaves.{plane_same_side_answer}
use Rattle.geometry.proofs.leaves.plane_same_side.Goals as goal

pub returns : goal.returns
unfolding plane_same_side_answer
returns c = cc
