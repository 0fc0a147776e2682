-- The six tables: their numbers are below the corner counts, so that the code may read by them, and the faces of each shape are closed.
-- Each is one test that is computed.
use mathlib.Core.Path.{◌≡◌, refl, sym, ◌∙◌}
use mathlib.Core.Bool.{Bool, true, false}
use mathlib.Core.List.{List, [], ◌∷◌, ◌++◌}
use Prim.Native.Nat.{ℕ}
use lib.ListN.{length, replicate, length-replicate}
use lib.Ieee.{Float, of_bits, neg, le}
use Rattle.places.specs.Refusals.{no_refusal}
use Rattle.places.specs.Loops.{any_of}
use Rattle.places.specs.Lists.{Each}
use Rattle.places.specs.Stored.{in_threes}
use Rattle.places.proofs.Stored.{length_threes}
use Rattle.floats.specs.F64.{zero64}
use Rattle.exact.specs.Sides.{closed_of}
use Rattle.flat.specs.Points.{Point, vertices_of}
use Rattle.flat.specs.Steps.{Inside}
use Rattle.cell.specs.Refusals.{first_row, out_of_range, points_refused, size_refused}
use Rattle.cell.specs.Refusals.{number_refused, ends_refused, index_refused, refusal_of}
use Rattle.cell.specs.Steps.{Sound}
use Rattle.cell.proofs.Refusals.{sound, any_none, all_below}
use Rattle.shapes.specs.Tables.{tet4_faces, wedge6_tet, wedge6_tri_faces, wedge6_quad_faces, hex8_faces, hex8_tet}

-- 'unfolding tested' opens every definition on the way to these tests
unfoldable pub tested : Unit {0}
unfolding of_bits neg le any_of in_threes first_row out_of_range points_refused size_refused
    number_refused ends_refused index_refused refusal_of
tested = tt

-- a number of the table is not below n
abbrev pub outside : ℕ → List (List ℕ) → Bool
outside n rows = any_of (index_refused n) rows

-- ---- what the code asks of a table
-- of rows: every number is that of a corner
pub rows_inside : (n : ℕ) (ps : List Point) (rows : List (List ℕ)) → length ps ≡ n → outside n rows ≡ false → Each [] (Inside ps) rows
rows_inside n ps rows e q = record { holds = λ k h. all_below (length ps) _ (any_none (index_refused (length ps)) [] rows (rw e q) k h) }

-- of faces, as corners and ends: a cell with these, and with as many coordinates that are
-- all 0, is not refused; which numbers they are does not matter
pub shape_sound : (n : ℕ) (coords : List Float) (corners ends : List ℕ) → length coords ≡ n
    → refusal_of (replicate n zero64) corners ends [] [] ≡ no_refusal → Sound coords corners ends
shape_sound n coords corners ends e q =
    let zeros = replicate n zero64 in
    let s = sound zeros corners ends [] [] q in
    let l : length zeros ≡ length coords = length-replicate n zero64 ∙ sym e in
    let v : length (vertices_of zeros) ≡ length (vertices_of coords) = rw (length_threes zeros, length_threes coords, l) in
    record {
      threes = rw (← l) s.threes;
      some = rw (← v) s.some;
      few = rw (← v) s.few;
      few_faces = s.few_faces;
      few_corners = s.few_corners;
      ordered = s.ordered;
      inside = rw (← v) s.inside;
    }

-- ---- what a doubter asks of them
-- each table with the corner count of its shape
abbrev pub tables : List (ℕ × List (List ℕ))
tables = (4, tet4_faces) ∷ (6, wedge6_tet) ∷ (6, wedge6_tri_faces) ∷ (6, wedge6_quad_faces) ∷ (8, hex8_faces) ∷ (8, hex8_tet) ∷ []

pub all_in_range : any_of (λ t. outside t.0 t.1) tables ≡ false
unfolding tested
all_in_range = refl

-- the faces of each shape are closed; of a wedge, those of both tables together
pub tet4_closed : closed_of tet4_faces ≡ true
unfolding closed_of
tet4_closed = refl

pub wedge6_closed : closed_of (wedge6_quad_faces ++ wedge6_tri_faces) ≡ true
unfolding closed_of
wedge6_closed = refl

pub hex8_closed : closed_of hex8_faces ≡ true
unfolding closed_of
hex8_closed = refl
