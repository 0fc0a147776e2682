-- The two ways in which an entry answers: refused for the reason that was found, or with the value; that a promise leaves one outcome; and
-- that `local_origin` answers what `to_local` does.
use mathlib.Core.Bool.{Bool, true, false, cond}
use mathlib.Core.Path.{◌≡◌, refl, sym, ◌∙◌}
use mathlib.Core.List.{List}
use lib.Ieee.{Float}
use Rattle.std.specs.Prelude.{Ok, Err}
use Rattle.std.specs.Result.{IsErrAnd}
use Rattle.places.proofs.Refusals.{handed_on}
use Rattle.places.specs.Refusals.{Check, no_refusal}
use Rattle.places.specs.declared.refusal.Refusal.{Refusal}
use Rattle.refusals.specs.Refusals.{local_refusal}
use Rattle.geometry.specs.Answers.{Answer, answered, beside, beside_two, OneAnswer}
use Rattle.geometry.specs.Points.{to_local_answer, local_origin_answer}

pub one_answer : OneAnswer
one_answer A answer one other p q = p ∙ sym q

-- ---- the answer of an entry that also writes into a list, without the list
pub first_answered : {A B : Type 0} (b : Bool) (x : A × B) (y : A) (z : B) → (cond b x (y, z)).0 ≡ cond b x.0 y
first_answered true x y z = refl
first_answered false x y z = refl

pub first_beside : {A L : Type 0} (check : Check) (value : A) (after before : L)
    → (beside check (Ok value, after) before).0 ≡ answered check value
first_beside (Ok _) value after before = refl
first_beside (Err why) value after before = refl

-- what `local_origin` answers is what `to_local` answers
pub origin_alike : (coords : List Float) → local_origin_answer coords ≡ (to_local_answer coords).0
unfolding local_origin_answer to_local_answer
origin_alike coords = sym (first_beside (local_refusal coords) _ _ _)

-- ---- refused, or with the value
module _ {A : Type 0} {check : Check} where
  pub refused : {r : Answer A} {why : Refusal} (value : A) → IsErrAnd r (λ y. y ≡ why) → Err why ≡ check → r ≡ answered check value
  refused value up found = rw (handed_on up, ← found)

  pub passed : {value found : A} → no_refusal ≡ check → found ≡ value → Ok found ≡ answered check value
  passed through e = rw (← through, e)

-- ---- the same beside a lent list, and beside two
module _ {A L : Type 0} {check : Check} where
  pub refused_beside : {r : Answer A} {why : Refusal} (outcome : Answer A × L) {list : L} → IsErrAnd r (λ y. y ≡ why) → Err why ≡ check
      → (r, list) ≡ beside check outcome list
  refused_beside outcome up found = rw (handed_on up, ← found)

  pub passed_beside : {outcome found : Answer A × L} (list : L) → no_refusal ≡ check → found ≡ outcome → found ≡ beside check outcome list
  passed_beside list through e = rw (← through) e

  pub refused_beside_two : {r : Answer A} {why : Refusal} (outcome : Answer A × L × L) {first second : L} → IsErrAnd r (λ y. y ≡ why)
      → Err why ≡ check → (r, first, second) ≡ beside_two check outcome first second
  refused_beside_two outcome up found = rw (handed_on up, ← found)

  pub passed_beside_two : {outcome found : Answer A × L × L} (first second : L) → no_refusal ≡ check → found ≡ outcome
      → found ≡ beside_two check outcome first second
  passed_beside_two first second through e = rw (← through) e
