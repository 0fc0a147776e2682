-- Why no faces of a cell are reversed, as request 3 has it: the first row that applies decides.
use Rattle.std.specs.Prelude.{List, [], ◌∷◌, ℕ}
use Rattle.places.specs.Refusals.{Check}
use Rattle.places.specs.declared.refusal.Refusal.TheVariants.{Sides, Choice}
use Rattle.exact.specs.Facing.{unfit, unclosable}
use Rattle.cell.specs.Refusals.{first_row}

-- 11 a condition fails, on sides or on doubled vertices; 12 no choice of reversals closes the cell
unfoldable pub reversal_refusal : List (List ℕ) → Check
reversal_refusal fs = first_row ((Sides, unfit fs) ∷ (Choice, unclosable fs) ∷ [])
