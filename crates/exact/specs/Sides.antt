-- The sides of faces, and when faces are closed. A face is the list of its corners' vertex numbers; so is a triangle.
use Rattle.std.specs.Prelude.{◌≡◌, ◌↔◌, ◌≢◌, Bool, true, ◌&&◌, List, [], ◌∷◌, ◌++◌, ℕ, ◌+◌, eqb}
use Rattle.places.specs.Ring.{sides}
use Rattle.places.specs.Loops.{one_if}

-- the sides of all faces, in order
abbrev pub all_sides : List (List ℕ) → List (ℕ × ℕ)
all_sides [] = []
all_sides (f ∷ fs) = sides f ++ all_sides fs

-- whether the side e runs from i to j
abbrev pub from_to : ℕ → ℕ → ℕ × ℕ → Bool
from_to i j e = eqb e.0 i && eqb e.1 j

-- how many sides of a list run from i to j
abbrev pub count : ℕ → ℕ → List (ℕ × ℕ) → ℕ
count i j [] = 0
count i j (e ∷ l) = one_if (from_to i j e) + count i j l

-- how many face sides run from i to j
unfoldable pub runs : ℕ → ℕ → List (List ℕ) → ℕ
runs i j fs = count i j (all_sides fs)

-- closed: for all vertex numbers i ≠ j, face sides i to j are as many as j to i
abbrev pub Closed : List (List ℕ) → Type 0
Closed fs = (i j : ℕ) → i ≢ j → runs i j fs ≡ runs j i fs

-- ---- the same as a test, which looks only at the sides that occur
-- p holds of both ends of every side of a list
abbrev pub every_side : (ℕ → ℕ → Bool) → List (ℕ × ℕ) → Bool
every_side p [] = true
every_side p (e ∷ l) = p e.0 e.1 && every_side p l

-- as many sides of a list run from i to j as from j to i
abbrev pub as_many_back : List (ℕ × ℕ) → ℕ → ℕ → Bool
as_many_back l i j = eqb (count i j l) (count j i l)

-- every side that occurs is run back as often
unfoldable pub closed_of : List (List ℕ) → Bool
closed_of fs =
    let l = all_sides fs in
    every_side (as_many_back l) l

-- the test answers yes exactly where the faces are closed: for all vertex numbers i ≠ j, not only for the sides that occur
abbrev pub ClosedTest : Type 0
ClosedTest = (fs : List (List ℕ)) → (closed_of fs ≡ true) ↔ Closed fs
