-- Request 10 holds of the entries: the counts that they answer are those of the cut, and by place these are as many; and a cut stays
-- within its ceiling (cut/proofs/Facts.antt).
use mathlib.Core.Path.{◌≡◌, sym, ◌∙◌, ap}
use mathlib.Core.List.{List}
use Prim.Native.Nat.{ℕ, ◌≤◌}
use lib.ListN.{length}
use lib.Ieee.{Float}
use Rattle.flat.specs.Points.{vertices_of}
use Rattle.cut.specs.Cut.{cut_of, cut_by_place}
use Rattle.cut.specs.Tests.{most_tests}
use Rattle.cut.proofs.Facts.{tests_within}
use Rattle.cut.proofs.ByPlace.{by_place_tests}
use Rattle.geometry.specs.declared.CutCounts.{CutCounts}
use Rattle.geometry.specs.Cells.{face_numbered, triangles_answer, triangle_places_answer}
use Rattle.geometry.proofs.OneFace.{cut_written}
use Rattle.demand3.specs.Tests.{EntryTests}

-- what is as many as the tests of a face's cut is within the ceiling
module _ (coords : List Float) (corners ends : List ℕ) (k : ℕ) where
  within : {n : ℕ} →
      let face = face_numbered corners ends k in
      n ≡ (cut_of (vertices_of coords) face).tests → (n ≡ (cut_of (vertices_of coords) face).tests) × (n ≤ most_tests (length face))
  within e = (e, rw e (tests_within (vertices_of coords) (face_numbered corners ends k)))

-- the tests of equal counts
same_tests : {c d : CutCounts} → c ≡ d → c.tests ≡ d.tests
same_tests e = ap (λ (x : CutCounts). x.tests) e

pub entry_tests : EntryTests
unfolding triangles_answer triangle_places_answer
entry_tests = record {
  triangles = λ coords corners ends k out after c e.
      let cut = cut_of (vertices_of coords) (face_numbered corners ends k) in
      within coords corners ends k (same_tests (cut_written cut coords corners ends k out after c e).0);
  places = λ coords corners ends k out after c e.
      let vs = vertices_of coords in
      let face = face_numbered corners ends k in
      within coords corners ends k
      (same_tests (cut_written (cut_by_place vs face) coords corners ends k out after c e).0 ∙ sym (by_place_tests vs face));
}
