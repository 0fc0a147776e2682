-- What turn_faces answers, and what stands in the corner list afterwards.
use Rattle.std.specs.Prelude.{ℕ, ◌≡◌, Bool, List, length, Float}
use Rattle.places.specs.Refusals.{Check}
use Rattle.exact.specs.Facing.{how_many, Reversed}
use Rattle.cell.specs.Faces.{faces_of}
use Rattle.refusals.specs.Refusals.{turn_faces_refusal}
use Rattle.geometry.specs.Answers.{Answer, answered}

-- on success how many faces the choice reverses that closes the cell and leaves the lowest face of each group as it is,
-- and the corners after it; else the refusal, and the corners as they were: then nothing depends on the choice
pub record TurnFacesGives (coords : List Float) (corners ends : List ℕ) (r : Answer ℕ) (after : List ℕ) : Type 0 where
  pub choice : ℕ → Bool
  pub answer : r ≡ answered (turn_faces_refusal coords corners ends) (how_many choice (length ends))
  pub reversed : Reversed (turn_faces_refusal coords corners ends) (faces_of corners ends) choice corners after

-- can_turn: whether turn_faces would be carried out, or its refusal
unfoldable pub can_turn_answer : List Float → List ℕ → List ℕ → Check
can_turn_answer coords corners ends = turn_faces_refusal coords corners ends
