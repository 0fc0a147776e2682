-- What functions below the gatehouse ask of and promise each other; no contract of a public entry speaks of these.
use Rattle.std.specs.Prelude.{ℕ, ◌<◌, ◌≡◌, List, [], ◌∷◌, ◌++◌, length, get_or, drop}
use Rattle.places.specs.Lists.{Each}
use Rattle.cut.specs.Cut.{Cut}
use Rattle.cut.specs.declared.Counts.{Counts}

-- ---- a ring of a face is kept as a list of places of the face, and its corners are those that stand there (`ring_at`)
-- all numbers of a list are places of the face
abbrev pub Within : List ℕ → List ℕ → Type 0
Within face ks = Each 0 (λ k. k < length face) ks

-- the triangle of the corners at three places of a ring
abbrev pub triangle_at : List ℕ → ℕ → ℕ → ℕ → List ℕ
triangle_at ring i k j = get_or ring i 0 ∷ get_or ring k 0 ∷ get_or ring j 0 ∷ []

-- the places of a face in order: at each place of the list stands its own number
abbrev pub InOrder : List ℕ → Type 0
InOrder ks = (k : ℕ) → k < length ks → get_or ks k 0 ≡ k

-- ---- what the lent list holds after a cut: the counts are those of the triangles, of the corners left and of the tests; the triangles
-- stand at the front of `out`, and places after the last are as they were
pub record Shown (cut : Cut) (r : Counts) (out out' : List (List ℕ)) : Type 0 where
  pub count : r.triangles ≡ length cut.triangles
  pub over : r.left ≡ length cut.left
  pub tests : r.tests ≡ cut.tests
  pub written : out' ≡ cut.triangles ++ drop r.triangles out
