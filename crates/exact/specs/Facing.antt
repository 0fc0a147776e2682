-- Request 3, 'Turn the backward faces', sentence by sentence: some faces of a cell are reversed so that it becomes closed.
-- fs are the faces of the cell, each the list of its corners' vertex numbers.
use Rattle.std.specs.Prelude.{◌≡◌, ◌≢◌, Bool, true, false, not, ◌&&◌, ◌||◌, cond, List, [], ◌∷◌, ◌++◌, map, reverse, ℕ, zero, suc, ◌+◌}
use Rattle.std.specs.Prelude.{is_ok}
use Rattle.std.specs.Prelude.{◌<◌, eqb, length, get_or}
use Rattle.places.specs.Refusals.{Check, no_refusal}
use Rattle.places.specs.Loops.{any_of, one_if}
use Rattle.places.specs.Ring.{sides}
use Rattle.places.specs.Stored.{joined}
use Rattle.exact.specs.Sides.{all_sides, count, runs, Closed, closed_of}

-- ---- 'Add a pass that reverses some faces so that the cell becomes closed.'
-- A choice of reversals is a yes or no for each face number.

-- a face: reversed where `back` is yes, else as it is
abbrev pub face_by : Bool → List ℕ → List ℕ
face_by back face = cond back (reverse face) face

-- the faces after a choice
abbrev pub reversed_by : (ℕ → Bool) → List (List ℕ) → List (List ℕ)
reversed_by choice [] = []
reversed_by choice (f ∷ fs) = face_by (choice 0) f ∷ reversed_by (λ k. choice (suc k)) fs

-- how many of n faces a choice reverses
abbrev pub how_many : (ℕ → Bool) → ℕ → ℕ
how_many choice zero = 0
how_many choice (suc n) = one_if (choice 0) + how_many (λ k. choice (suc k)) n

-- ---- 'It applies where each side between two different vertices, taken without direction, occurs exactly twice over all faces
-- and no face holds a vertex twice.'

-- how often the side between i and j, taken without direction, occurs
abbrev pub occurs : ℕ → ℕ → List (List ℕ) → ℕ
occurs i j fs = runs i j fs + runs j i fs

-- each side between two different vertices that occurs does so exactly twice
abbrev pub Twice : List (List ℕ) → Type 0
Twice fs = (i j : ℕ) → i ≢ j → 0 < occurs i j fs → occurs i j fs ≡ 2

-- at no two places of a face stands the same vertex
abbrev pub Single : List ℕ → Type 0
Single face = (p q : ℕ) → p < q → q < length face → get_or face p 0 ≢ get_or face q 0

-- both conditions
pub record Fit (fs : List (List ℕ)) : Type 0 where
  pub twice : Twice fs
  pub single : (k : ℕ) → Single (get_or fs k [])

-- ---- 'Of each group of faces joined by sides, the lowest-numbered face keeps its direction.'

-- how often a face has the side between i and j
abbrev pub has : ℕ → ℕ → List ℕ → ℕ
has i j face = count i j (sides face) + count j i (sides face)

-- the faces with the numbers f and g share a side: both have that between i and j, two different vertices
pub record Share (fs : List (List ℕ)) (f g : ℕ) : Type 0 where
  pub i : ℕ
  pub j : ℕ
  pub apart : i ≢ j
  pub one : 0 < has i j (get_or fs f [])
  pub other : 0 < has i j (get_or fs g [])

-- what is in the group of f: f itself, and what is reached from it over shared sides, face by face
pub data Group (fs : List (List ℕ)) : ℕ → ℕ → Type 0 where
  itself : {f : ℕ} → Group fs f f
  over : {f g h : ℕ} → Share fs f g → Group fs g h → Group fs f h

-- no face in the group of f has a lower number
abbrev pub Lowest : List (List ℕ) → ℕ → Type 0
Lowest fs f = (g : ℕ) → g < f → Group fs f g → ⊥

-- the choice that is made: it closes the cell, and the lowest face of each group keeps its direction
pub record Made (fs : List (List ℕ)) (choice : ℕ → Bool) : Type 0 where
  pub closes : Closed (reversed_by choice fs)
  pub keeps : (f : ℕ) → Lowest fs f → choice f ≡ false

-- ---- 'The corner list changes only in the reversed stretches'; refusals 'leave the corner list unchanged'.

-- what stands in the corner list before and after; where the check finds no refusal the choice is the one made.
-- The answer is in geometry/specs/TurnFaces.antt: how many faces the choice reverses, or the refusal.
pub record Reversed (check : Check) (fs : List (List ℕ)) (choice : ℕ → Bool) (before after : List ℕ) : Type 0 where
  pub made : check ≡ no_refusal → Made fs choice
  -- the faces by the choice, one after the other; on every refusal what stood there before
  pub list : after ≡ cond (is_ok check) (joined (reversed_by choice fs)) before

-- ---- 'Refusals: 11 when either condition, on sides or on doubled vertices, fails': the failure as a test.
-- proofs/Conditions.antt shows that it says yes exactly where `Fit` fails.

-- a side between two different vertices that does not occur exactly twice
unfoldable pub strange : List (List ℕ) → ℕ × ℕ → Bool
strange fs e = not (eqb e.0 e.1) && not (eqb (occurs e.0 e.1 fs) 2)

-- a face that holds a vertex twice
unfoldable pub doubled : List ℕ → Bool
doubled [] = false
doubled (v ∷ face) = any_of (eqb v) face || doubled face

-- a condition fails
unfoldable pub unfit : List (List ℕ) → Bool
unfit fs = any_of (strange fs) (all_sides fs) || any_of doubled fs

-- ---- '12 exactly when no choice of reversals closes the cell': the same as a test, which no code runs.
-- proofs/Conditions.antt shows that it says yes exactly where no choice at all closes the cell.

-- every choice for n faces, as a list of yes and no
unfoldable pub choices : ℕ → List (List Bool)
choices zero = [] ∷ []
choices (suc n) = map (λ c. false ∷ c) (choices n) ++ map (λ c. true ∷ c) (choices n)

-- such a list as a choice
abbrev pub choice_of : List Bool → ℕ → Bool
choice_of c k = get_or c k false

-- a choice closes the cell
unfoldable pub closes_by : List (List ℕ) → List Bool → Bool
closes_by fs c = closed_of (reversed_by (choice_of c) fs)

-- no choice closes the cell
unfoldable pub unclosable : List (List ℕ) → Bool
unclosable fs = not (any_of (closes_by fs) (choices (length fs)))
