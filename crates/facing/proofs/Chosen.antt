-- What is chosen is right: with both conditions every face is reached, the codes make a choice that closes the cell if any does,
-- and a side that both its faces run the same way says that none does.
use mathlib.Core.Path.{◌≡◌, sym, ◌∙◌}
use mathlib.Core.Bool.{Bool, true, false, not, true≢false}
use mathlib.Core.List.{List}
use Prim.Native.Nat.{ℕ, ◌*◌, ◌≤◌}
use lib.ListN.{length}
use borrow.Author.Tests.{not-true, not-false}
use Rattle.exact.specs.Sides.{Closed}
use Rattle.exact.specs.Facing.{reversed_by, unfit}
use Rattle.exact.proofs.Conditions.{unfit_is, unclosable_is, closable}
use Rattle.cell.specs.Faces.{faces_of}
use Rattle.cell.specs.Refusals.{first_row}
use Rattle.side_table.specs.Numbers.{Known, Numbered, entry_of}
use Rattle.shared_sides.specs.Steps.{Mates}
use Rattle.std.specs.Prelude.{Err}
use Rattle.places.specs.Refusals.{no_refusal}
use Rattle.places.specs.declared.refusal.Refusal.TheVariants.{Sides, Choice}
use Rattle.facing.specs.Refused.{reversal_refusal}
use Rattle.facing.specs.Steps.{code_choice, Ground, Whole, clash_faces, Chosen}
use Rattle.facing.proofs.Going.{going_made, closes_if}
use Rattle.facing.proofs.Rounds.{clash_closed, closed_clash}

-- ---- what the pairing says of the conditions
pub failed : (r b : Bool) → r ≡ not b → r ≡ false → b ≡ true
failed r b e t = not-false b (sym e ∙ t)

pub passed : (r b : Bool) → r ≡ not b → r ≡ true → b ≡ false
passed r b e t = not-true b (sym e ∙ t)

-- ---- a condition fails
pub chosen_unfit : (fs : List (List ℕ)) (t : List ℕ) → unfit fs ≡ true → Chosen fs t (Err Sides)
unfolding reversal_refusal first_row
chosen_unfit fs t e = record { why = rw e; made = λ z. absurd (cc) }

-- ---- both conditions hold
pub grounded : {number table corners ends : List ℕ} {k : ℕ} → Numbered number k corners ends → k * k ≤ length table → length ends ≤ 256
    → unfit (faces_of corners ends) ≡ false → Mates (Known number k) (entry_of number k) table (faces_of corners ends)
    → Ground number k table corners ends
grounded {number} {table} {corners} {ends} {k} n w f u m =
    record { numbered = n; wide = w; few_faces = f; twice = ((unfit_is (faces_of corners ends)).0 u).twice; paired = m }

module _ {number table corners ends t : List ℕ} {k : ℕ} (ground : Ground number k table corners ends) (w : Whole (faces_of corners ends) t)
    (u : unfit (faces_of corners ends) ≡ false) where
  abbrev fs : List (List ℕ)
  fs = faces_of corners ends

  pub chosen_none : {r : Bool} → r ≡ clash_faces (entry_of number k) table t fs → r ≡ true → Chosen fs t (Err Choice)
  unfolding reversal_refusal first_row
  chosen_none {r} told e = record { why = rw (u, (unclosable_is fs).1 no_choice); made = λ z. absurd (cc) }
    where
      no_choice : (d : ℕ → Bool) → Closed (reversed_by d fs) → ⊥
      no_choice d h = true≢false (sym e ∙ told ∙ closed_clash ground t (closes_if fs t w.going w.all d h))

  pub chosen_made : {r : Bool} → r ≡ clash_faces (entry_of number k) table t fs → r ≡ false → Chosen fs t no_refusal
  unfolding reversal_refusal first_row
  chosen_made {r} told e =
      let h : Closed (reversed_by (code_choice t) fs) = clash_closed ground t (sym told ∙ e) in
      record { why = rw (u, closable fs (code_choice t) h); made = λ z. going_made fs t w.going h }
