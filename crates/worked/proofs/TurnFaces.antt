-- The rows of turning are what the promise allows. Of a row that succeeds the choice is given, with the paths that show what the lowest
-- faces keep, and the tests are computed; of a row that is refused the test of its refusal is.
use mathlib.Core.Path.{◌≡◌, refl, sym, ◌∙◌}
use mathlib.Core.Bool.{Bool, true, false}
use mathlib.Core.List.{List, [], ◌∷◌, ◌++◌}
use Prim.Native.Nat.{ℕ, zero, suc}
use lib.ListN.{length}
use lib.Ieee.{Float}
use Rattle.std.specs.Prelude.{Ok, Err}
use Rattle.places.specs.declared.refusal.Refusal.{Refusal}
use Rattle.places.specs.declared.refusal.Refusal.TheVariants.{Sides, Choice}
use Rattle.places.specs.Refusals.{no_refusal}
use Rattle.places.specs.Loops.{any_of}
use Rattle.places.specs.Stored.{joined}
use Rattle.exact.specs.Sides.{runs, Closed, closed_of}
use Rattle.exact.specs.Facing.{reversed_by, how_many, strange, doubled, unfit, choices, choice_of, closes_by, unclosable}
use Rattle.exact.proofs.Test.{closed_test}
use Rattle.exact.proofs.Conditions.{unfit_is, unfit_not, unclosable_is}
use Rattle.cell.specs.Faces.{faces_of}
use Rattle.cell.specs.Refusals.{refusal_of, first_row, size_refused, points_refused, number_refused, out_of_range, ends_refused}
use Rattle.cell.specs.Refusals.{index_refused}
use Rattle.refusals.specs.Refusals.{cell_refusal, turn_faces_refusal}
use Rattle.geometry.specs.TurnFaces.{TurnFacesGives}
use Rattle.demand3.specs.Cube.{cube, other_faces, hex_corners, hex_ends, backward_corners, torn_ends}
use Rattle.demand3.proofs.Refused.{refuses}
use Rattle.worked.specs.TurnFaces.{inside_out, backward1, backward2, backward3, backward4, backward5, two_cubes, second, two_ends}
use Rattle.worked.specs.TurnFaces.{second2, second0, second_out, hemicube, hemi_ends, bow, bow_ends, thin_corners, nothing, ◌also◌, Claim}
use Rattle.worked.proofs.Table as Table
use Rattle.worked.proofs.Kept.{shares, leads, kept, kept_by}

-- every definition on the way to a refusal of the cell, and to a test: 'unfolding computed' opens them all
unfoldable refusing : Unit {0}
unfolding Table.computed refusal_of first_row size_refused points_refused number_refused out_of_range ends_refused index_refused
refusing = tt

unfoldable computed : Unit {0}
unfolding refusing any_of joined faces_of runs closed_of strange doubled unfit choices closes_by unclosable shares leads kept
computed = tt

module _ {coords : List Float} {corners ends : List ℕ} where
  -- a row that succeeds: the choice as a list of yes and no, the paths of the faces that it reverses, and the tests
  reversed_by_lem : {n : ℕ} {after : List ℕ} (marks : List Bool) (paths : List (List ℕ))
      → cell_refusal coords corners ends ≡ no_refusal
      → unfit (faces_of corners ends) ≡ false
      → closed_of (reversed_by (choice_of marks) (faces_of corners ends)) ≡ true
      → kept (faces_of corners ends) marks paths (length marks) ≡ true
      → n ≡ how_many (choice_of marks) (length ends)
      → after ≡ joined (reversed_by (choice_of marks) (faces_of corners ends))
      → TurnFacesGives coords corners ends (Ok n) after
  reversed_by_lem marks paths cell fit closed low many list = record {
    choice = choice_of marks;
    answer = rw (why, many);
    reversed = record {
      made = λ z. record { closes = closes; keeps = kept_by (faces_of corners ends) marks paths low };
      list = rw why list;
    };
  }
    where
      closes : Closed (reversed_by (choice_of marks) (faces_of corners ends))
      closes = (closed_test (reversed_by (choice_of marks) (faces_of corners ends))).0 closed

      why : turn_faces_refusal coords corners ends ≡ no_refusal
      why =
          let fits = (unfit_is (faces_of corners ends)).0 fit in
          (refuses coords corners ends).none.1 (cell, fits, record { choice = choice_of marks; closes = closes })

  -- a row that is refused: the list is as it was, whatever the choice
  refused_by : (why : Refusal) → turn_faces_refusal coords corners ends ≡ Err why → TurnFacesGives coords corners ends (Err why) corners
  refused_by why e = record {
    choice = λ k. false;
    answer = rw e;
    reversed = record { made = λ z. absurd (let clash = sym e ∙ z in cc); list = rw e };
  }

  refused_11 : cell_refusal coords corners ends ≡ no_refusal → unfit (faces_of corners ends) ≡ true
      → TurnFacesGives coords corners ends (Err Sides) corners
  refused_11 cell bad = refused_by Sides ((refuses coords corners ends).eleven.1 (cell, (unfit_not (faces_of corners ends)).0 bad))

  refused_12 : cell_refusal coords corners ends ≡ no_refusal → unfit (faces_of corners ends) ≡ false
      → unclosable (faces_of corners ends) ≡ true
      → TurnFacesGives coords corners ends (Err Choice) corners
  refused_12 cell fit bad =
      let fits = (unfit_is (faces_of corners ends)).0 fit in
      refused_by Choice ((refuses coords corners ends).twelve.1 (cell, fits, (unclosable_is (faces_of corners ends)).0 bad))

-- ---- the rows
-- of the cube, the face 1 comes to the face 0 by the face 2, and each other face at once
abbrev cube_paths : List (List ℕ)
cube_paths = [] ∷ (2 ∷ 0 ∷ []) ∷ (0 ∷ []) ∷ (0 ∷ []) ∷ (0 ∷ []) ∷ (0 ∷ []) ∷ []

-- and of the second cube, whose faces are 6 to 11, the same 6 further on
abbrev two_paths : List (List ℕ)
two_paths = cube_paths ++ [] ∷ (8 ∷ 6 ∷ []) ∷ (6 ∷ []) ∷ (6 ∷ []) ∷ (6 ∷ []) ∷ (6 ∷ []) ∷ []

-- a choice: no for so many faces, and then what follows
abbrev no_for : ℕ → List Bool → List Bool
no_for zero marks = marks
no_for (suc n) marks = false ∷ no_for n marks

abbrev five_times : List Bool
five_times = true ∷ true ∷ true ∷ true ∷ true ∷ []

lowest_back : TurnFacesGives cube backward_corners hex_ends (Ok 5) inside_out
unfolding computed
lowest_back = reversed_by_lem (no_for 1 five_times) cube_paths refl refl refl refl refl refl

back1 : TurnFacesGives cube backward1 hex_ends (Ok 1) hex_corners
unfolding computed
back1 = reversed_by_lem (no_for 1 (true ∷ [])) cube_paths refl refl refl refl refl refl

back2 : TurnFacesGives cube backward2 hex_ends (Ok 1) hex_corners
unfolding computed
back2 = reversed_by_lem (no_for 2 (true ∷ [])) cube_paths refl refl refl refl refl refl

back3 : TurnFacesGives cube backward3 hex_ends (Ok 1) hex_corners
unfolding computed
back3 = reversed_by_lem (no_for 3 (true ∷ [])) cube_paths refl refl refl refl refl refl

back4 : TurnFacesGives cube backward4 hex_ends (Ok 1) hex_corners
unfolding computed
back4 = reversed_by_lem (no_for 4 (true ∷ [])) cube_paths refl refl refl refl refl refl

back5 : TurnFacesGives cube backward5 hex_ends (Ok 1) hex_corners
unfolding computed
back5 = reversed_by_lem (no_for 5 (true ∷ [])) cube_paths refl refl refl refl refl refl

as_it_is : TurnFacesGives cube hex_corners hex_ends (Ok 0) hex_corners
unfolding computed
as_it_is = reversed_by_lem [] [] refl refl refl refl refl refl

two_groups : TurnFacesGives two_cubes (backward4 ++ second2) two_ends (Ok 2) (hex_corners ++ second)
unfolding computed
two_groups = reversed_by_lem (no_for 4 (true ∷ no_for 3 (true ∷ []))) two_paths refl refl refl refl refl refl

second_lowest : TurnFacesGives two_cubes (hex_corners ++ second0) two_ends (Ok 5) (hex_corners ++ second_out)
unfolding computed
second_lowest = reversed_by_lem (no_for 7 five_times) two_paths refl refl refl refl refl refl

one_sided : TurnFacesGives cube hemicube hemi_ends (Err Choice) hemicube
unfolding computed
one_sided = refused_12 refl refl refl

open_cube : TurnFacesGives cube other_faces torn_ends (Err Sides) other_faces
unfolding computed
open_cube = refused_11 refl refl

doubled_vertex : TurnFacesGives cube bow bow_ends (Err Sides) bow
unfolding computed
doubled_vertex = refused_11 refl refl

empty_face : TurnFacesGives cube hex_corners (hex_ends ++ 24 ∷ []) (Ok 0) hex_corners
unfolding computed
empty_face = reversed_by_lem [] [] refl refl refl refl refl refl

thin_faces : TurnFacesGives cube thin_corners (hex_ends ++ 25 ∷ 27 ∷ []) (Ok 0) thin_corners
unfolding computed
thin_faces = reversed_by_lem [] [] refl refl refl refl refl refl

no_face : TurnFacesGives cube [] [] (Ok 0) []
unfolding computed
no_face = reversed_by_lem [] [] refl refl refl refl refl refl

pub worked_turn_faces : Claim
worked_turn_faces =
    lowest_back
    also back1 also back2 also back3 also back4 also back5
    also as_it_is
    also two_groups also second_lowest
    also one_sided also open_cube also doubled_vertex
    also empty_face also thin_faces also no_face
    also nothing
