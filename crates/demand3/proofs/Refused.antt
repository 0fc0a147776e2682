-- What the refusals of turning say: a cell's own numbers end at 4, so 11, 12 and none are told by the rows of turning, and these by tests.
use mathlib.Core.Path.{◌≡◌, refl, sym, ap}
use mathlib.Core.Logic.Iff
use mathlib.Core.Logic.{◌↔◌, ◌≢◌, ⊎_elim}
use mathlib.Core.Bool.{Bool, true, false, ◌||◌, false≢true, cond}
use mathlib.Core.List.{List, [], ◌∷◌}
use Prim.Native.Nat.{ℕ, ◌<◌, ◌≤◌}
use native.Mathlib.Omega.{arith}
use borrow.Author.Tests.{not-false}
use lib.ListN.{length}
use lib.Ieee.{Float}
use Rattle.std.specs.Prelude.{Ok, Err}
use Rattle.std.proofs.lemmas.Bool.{cases_lt}
use Rattle.places.specs.Refusals.{Check, no_refusal, number_of}
use Rattle.places.specs.declared.refusal.Refusal.{Refusal}
use Rattle.places.specs.declared.refusal.Refusal.TheVariants.{Size, Number, Ends, Index, Sides, Choice}
use Rattle.places.specs.Loops.{any_of}
use Rattle.exact.specs.Facing.{unfit, choices, choice_of, closes_by, unclosable}
use Rattle.exact.proofs.Conditions.{unfit_is, unfit_not, unclosable_is, closable}
use Rattle.exact.proofs.Test.{closed_test}
use Rattle.flat.specs.Points.{vertices_of}
use Rattle.cell.specs.Faces.{faces_of}
use Rattle.cell.specs.Refusals.{first_row, size_refused, number_refused, ends_refused, index_refused, refusal_of}
use Rattle.facing.specs.Refused.{reversal_refusal}
use Rattle.refusals.specs.Refusals.{first_refusal, cell_refusal, turn_faces_refusal}
use Rattle.demand3.specs.TurnFaces.{Closing, Refuses}

-- ---- the rows of a cell, whose numbers end at 4
low_row : (v w : Refusal) → number_of v ≤ 4 → 4 < number_of w → ◌≢◌ {A = Check} (Err v) (Err w)
low_row v w low high e =
    let same : v ≡ w = cc in
    omega (arith, low, high, ap number_of same)

four_rows : (w : Refusal) → 4 < number_of w → (a b c d : Bool)
    → first_row ((Size, a) ∷ (Number, b) ∷ (Ends, c) ∷ (Index, d) ∷ []) ≢ Err w
unfolding first_row
four_rows w high true b c d e = low_row Size w (omega arith) high e
four_rows w high false true c d e = low_row Number w (omega arith) high e
four_rows w high false false true d e = low_row Ends w (omega arith) high e
four_rows w high false false false true e = low_row Index w (omega arith) high e
four_rows w high false false false false e = cc

-- ---- the rows of turning
abbrev rows_of : Bool → Bool → Check
rows_of a b = first_row ((Sides, a) ∷ (Choice, b) ∷ [])

row_11 : (a b : Bool) → (rows_of a b ≡ Err Sides) ↔ (a ≡ true)
unfolding first_row
row_11 true b = (λ e. refl, λ e. refl)
row_11 false true = (λ e. absurd cc, λ e. absurd (false≢true e))
row_11 false false = (λ e. absurd cc, λ e. absurd (false≢true e))

row_12 : (a b : Bool) → (rows_of a b ≡ Err Choice) ↔ ((a ≡ false) × (b ≡ true))
unfolding first_row
row_12 true b = (λ e. absurd cc, λ p. absurd (false≢true (sym p.0)))
row_12 false true = (λ e. (refl, refl), λ p. refl)
row_12 false false = (λ e. absurd cc, λ p. absurd (false≢true p.1))

row_0 : (a b : Bool) → (rows_of a b ≡ no_refusal) ↔ ((a ≡ false) × (b ≡ false))
unfolding first_row
row_0 true b = (λ e. absurd cc, λ p. absurd (false≢true (sym p.0)))
row_0 false true = (λ e. absurd cc, λ p. absurd (false≢true (sym p.1)))
row_0 false false = (λ e. (refl, refl), λ p. refl)

-- what the first does not give is given by the second, where the first passes
pub second : (first rest r : Check) → (first ≢ no_refusal → first ≢ r)
    → (first_refusal first rest ≡ r) ↔ ((first ≡ no_refusal) × (rest ≡ r))
unfolding first_refusal
second (Ok _) rest r n = (λ e. (refl, e), λ p. p.1)
second (Err why) rest r n = (λ e. absurd (n (λ z. cc) e), λ p. absurd (let z = p.0 in cc))

-- ---- a search that finds something
pub record Hit {A : Type 0} (test : A → Bool) : Type 0 where
  pub it : A
  pub so : test it ≡ true

pub hit : {A : Type 0} (test : A → Bool) (l : List A) → any_of test l ≡ true → Hit test
unfolding any_of
hit test [] e = absurd (false≢true e)
hit test (x ∷ l) e = go (test x) refl (hit test l) e
  where
    go : (b : Bool) → test x ≡ b → (any_of test l ≡ true → Hit test) → cond b true (any_of test l) ≡ true → Hit test
    go true q ih e = record { it = x; so = q }
    go false q ih e = ih e

-- the test for 12 says no exactly where there is a choice that closes
closing : (fs : List (List ℕ)) → (unclosable fs ≡ false) ↔ Closing fs
unfolding unclosable closes_by
closing fs = (
  λ e. found (hit (closes_by fs) (choices (length fs)) (not-false (any_of (closes_by fs) (choices (length fs))) e)),
  λ c. closable fs c.choice c.closes,
)
  where
    found : Hit (closes_by fs) → Closing fs
    found h = record { choice = choice_of h.it; closes = (closed_test _).0 h.so }

-- ---- the cell
module _ (coords : List Float) (corners ends : List ℕ) where
  cell_not : (w : Refusal) → 4 < number_of w → cell_refusal coords corners ends ≢ Err w
  unfolding refusal_of
  cell_not w high =
      four_rows w high
      (size_refused coords corners ends) (number_refused coords || number_refused []) (ends_refused corners ends)
      (index_refused (length (vertices_of coords)) corners || index_refused (length ends) [])

  pub cell_low : (why : Refusal) → cell_refusal coords corners ends ≡ Err why → number_of why ≤ 4
  cell_low why e = ⊎_elim (λ high. absurd (cell_not why high e)) (λ low. low) (cases_lt 4 (number_of why))

  abbrev fs : List (List ℕ)
  fs = faces_of corners ends

  -- the cell passes, and the rest is as the rows say
  passes : {r : Check} {A : Type 0} → (cell_refusal coords corners ends ≢ no_refusal → cell_refusal coords corners ends ≢ r)
      → ((rows_of (unfit fs) (unclosable fs) ≡ r) ↔ A)
      → (turn_faces_refusal coords corners ends ≡ r) ↔ ((cell_refusal coords corners ends ≡ no_refusal) × A)
  unfolding turn_faces_refusal reversal_refusal
  passes {r} n i = Iff.trans (second (cell_refusal coords corners ends) (reversal_refusal fs) r n) (Iff.and Iff.rfl i)

  -- a refusal of the cell decides
  decides : cell_refusal coords corners ends ≢ no_refusal → turn_faces_refusal coords corners ends ≡ cell_refusal coords corners ends
  unfolding turn_faces_refusal first_refusal
  decides n = go (cell_refusal coords corners ends) n
    where
      go : (first : Check) → first ≢ no_refusal → first_refusal first (reversal_refusal fs) ≡ first
      go (Ok _) n = absurd (n refl)
      go (Err why) n = refl

  pub refuses : Refuses coords corners ends
  refuses = record {
    first = decides;
    eleven = passes (λ _. cell_not Sides (omega arith)) (Iff.trans (row_11 (unfit fs) (unclosable fs)) (unfit_not fs));
    twelve =
        flat (passes (λ _. cell_not Choice (omega arith))
        (Iff.trans (row_12 (unfit fs) (unclosable fs)) (Iff.and (unfit_is fs) (unclosable_is fs))));
    none = flat (passes (λ n. n) (Iff.trans (row_0 (unfit fs) (unclosable fs)) (Iff.and (unfit_is fs) (closing fs))));
  }
    where
      flat : {W A B C : Type 0} → W ↔ (A × (B × C)) → W ↔ (A × B × C)
      flat i = (λ w. let p = i.0 w in (p.0, p.1.0, p.1.1), λ p. i.1 (p.0, (p.1, p.2)))
