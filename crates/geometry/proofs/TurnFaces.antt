-- The ways in which turn_faces answers, each by the promise: a check of the cell refuses, no choice is made,
-- or the faces stand as the codes have them.
use mathlib.Core.Path.{◌≡◌, refl}
use mathlib.Core.Bool.{false}
use mathlib.Core.List.{List}
use Prim.Native.Nat.{ℕ}
use lib.ListN.{length}
use lib.Ieee.{Float}
use Rattle.std.specs.Prelude.{Ok, Err}
use Rattle.std.specs.Result.{IsErrAnd}
use Rattle.geometry.specs.Answers.{Answer}
use Rattle.places.specs.Refusals.{Check, no_refusal}
use Rattle.places.specs.declared.refusal.Refusal.{Refusal}
use Rattle.places.specs.Stored.{joined}
use Rattle.exact.specs.Facing.{reversed_by, how_many}
use Rattle.cell.specs.Faces.{faces_of}
use Rattle.facing.specs.Refused.{reversal_refusal}
use Rattle.facing.specs.Steps.{code_choice, Chosen}
use Rattle.refusals.specs.Refusals.{cell_refusal, turn_faces_refusal}
use Rattle.refusals.proofs.Refusals.{or_found, or_other}
use Rattle.geometry.specs.TurnFaces.{TurnFacesGives}
use Rattle.geometry.proofs.Answers.{refused, passed}

module _ (coords : List Float) (corners ends : List ℕ) where
  -- a refusal, and the corners as they were
  left : {r : Answer ℕ} {why : Refusal} → IsErrAnd r (λ y. y ≡ why) → Err why ≡ turn_faces_refusal coords corners ends
      → TurnFacesGives coords corners ends r corners
  left up found =
      record {
        choice = λ f. false;
        answer = refused _ up found;
        reversed = record { made = λ z. absurd (cc); list = rw (← found) };
      }

  pub turn_faces_refused : {r : Answer ℕ} {why : Refusal} → IsErrAnd r (λ y. y ≡ why) → Err why ≡ cell_refusal coords corners ends
      → TurnFacesGives coords corners ends r corners
  unfolding turn_faces_refusal
  turn_faces_refused up found = left up (or_found (reversal_refusal (faces_of corners ends)) refl found)

  module _ (through : no_refusal ≡ cell_refusal coords corners ends) {t : List ℕ} where
    reasons : {check : Check} → Chosen (faces_of corners ends) t check → check ≡ turn_faces_refusal coords corners ends
    unfolding turn_faces_refusal
    reasons c = or_other (reversal_refusal (faces_of corners ends)) through c.why

    pub turn_faces_none : {r : Answer ℕ} {why : Refusal} → IsErrAnd r (λ y. y ≡ why) → Chosen (faces_of corners ends) t (Err why)
        → TurnFacesGives coords corners ends r corners
    turn_faces_none up c = left up (reasons c)

    pub turn_faces_done : {n : ℕ} {after : List ℕ} → Chosen (faces_of corners ends) t no_refusal
        → after ≡ joined (reversed_by (code_choice t) (faces_of corners ends))
        → n ≡ how_many (code_choice t) (length ends) → TurnFacesGives coords corners ends (Ok n) after
    turn_faces_done c l m =
        record {
          choice = code_choice t;
          answer = passed (reasons c) m;
          reversed = record { made = λ _. c.made refl; list = rw (← reasons c) l };
        }
