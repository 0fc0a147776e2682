-- Request 10, 'How long can one face take?', of the two entries that cut a face. The count of tests is part of the one cut
-- (cut/specs/Cut.antt), and its ceiling, for every list of points and every face, is `TestsWithin` (cut/specs/Tests.antt).
use Rattle.std.specs.Prelude.{◌≡◌, List, ℕ, ◌≤◌, length, Float, Ok}
use Rattle.flat.specs.Points.{vertices_of}
use Rattle.cut.specs.Cut.{cut_of}
use Rattle.cut.specs.Tests.{most_tests}
use Rattle.geometry.specs.declared.CutCounts.{CutCounts}
use Rattle.geometry.specs.Answers.{Answer}
use Rattle.geometry.specs.Cells.{face_numbered, triangles_answer, triangle_places_answer}

-- 'It equals the count of such tests in the cutting definition and is at most n² + n − 12 for n ≥ 3, and 0 below': what an entry answers
-- of the face k of a cell
abbrev TestsTold : (List Float → List ℕ → List ℕ → ℕ → List (List ℕ) → Answer CutCounts × List (List ℕ)) → Type 0
TestsTold answer =
    (coords : List Float) (corners ends : List ℕ) (k : ℕ) (out after : List (List ℕ)) (c : CutCounts)
    → (Ok c, after) ≡ answer coords corners ends k out →
    let face = face_numbered corners ends k in
    (c.tests ≡ (cut_of (vertices_of coords) face).tests) × (c.tests ≤ most_tests (length face))

-- by vertex number, and by place
pub record EntryTests : Type 0 where
  pub triangles : TestsTold triangles_answer
  pub places : TestsTold triangle_places_answer
