-- What functions below the gatehouse ask of and promise each other; no contract of a public entry speaks of these.
-- The marks that faces leave at their sides: `at` says which entry of the table is that for a row and a column,
-- and In which vertices have one.
use Rattle.std.specs.Prelude.{◌≡◌, Bool, true, false, not, ◌&&◌, cond, List, [], ◌∷◌, ◌++◌, ℕ, suc, ◌+◌, ◌*◌, ◌-◌, ◌<◌, ◌≤◌, eqb, ltb}
use Rattle.std.specs.Prelude.{length, get_or}
use Rattle.std.specs.Bool.{beq}
use Rattle.places.specs.Loops.{any_of, one_if}
use Rattle.places.specs.Ring.{sides}
use Rattle.exact.specs.Sides.{from_to, count, runs}
use Rattle.exact.specs.Facing.{face_by, reversed_by, occurs, has}
use Rattle.side_table.specs.Numbers.{Known, Numbering, entry_of}

-- ---- a mark: the number of the face and 1, and 256 more where the face runs the side down, from the higher vertex to the lower
abbrev pub mark_of : ℕ → Bool → ℕ
mark_of f down = cond down (f + 257) (f + 1)

abbrev pub face_of : ℕ → ℕ
face_of m = cond (ltb m 257) (m - 1) (m - 257)

abbrev pub down_of : ℕ → Bool
down_of m = not (ltb m 257)

-- whether the face of the mark, reversed where `back`, runs the side up
abbrev pub runs_up : Bool → ℕ → Bool
runs_up back m = beq back (down_of m)

-- ---- the marks at the side between i and j, i the lower, in the order in which they are left
-- what the face f leaves there for one of its sides, and for sides one after the other
abbrev pub mark_at : ℕ → ℕ → ℕ → ℕ × ℕ → List ℕ
mark_at i j f e = cond (from_to i j e) (mark_of f false ∷ []) (cond (from_to j i e) (mark_of f true ∷ []) [])

abbrev pub marks_in : ℕ → ℕ → ℕ → List (ℕ × ℕ) → List ℕ
marks_in i j f [] = []
marks_in i j f (e ∷ l) = mark_at i j f e ++ marks_in i j f l

-- and what faces leave whose numbers run from f on
abbrev pub marks_from : ℕ → ℕ → ℕ → List (List ℕ) → List ℕ
marks_from i j f [] = []
marks_from i j f (face ∷ fs) = marks_in i j f (sides face) ++ marks_from i j (suc f) fs

-- ---- the table
-- the marks that two entries hold; 0 is none
abbrev pub held : ℕ → ℕ → List ℕ
held x y = cond (eqb x 0) [] (x ∷ cond (eqb y 0) [] (y ∷ []))

-- the marks in the table at the side between i and j: the first in the lower one's row, the second in the higher one's
unfoldable pub held_at : (ℕ → ℕ → ℕ) → List ℕ → ℕ → ℕ → List ℕ
held_at at t i j = held (get_or t (at i j) 0) (get_or t (at j i) 0)

-- no second mark stands where there is no first
pub record Sane (In : ℕ → Type 0) (at : ℕ → ℕ → ℕ) (t : List ℕ) : Type 0 where
  pub first : (i j : ℕ) → i < j → In i → In j → get_or t (at i j) 0 ≡ 0 → get_or t (at j i) 0 ≡ 0

-- some side between vertices that are In has three of these marks
pub record Crowded (In : ℕ → Type 0) (marks : ℕ → ℕ → List ℕ) : Type 0 where
  pub i : ℕ
  pub j : ℕ
  pub order : i < j
  pub here : In i
  pub there : In j
  pub three : 3 ≤ length (marks i j)

-- after more marks were left, `more i j` at the side between i and j: yes, and they stand there; or no, since a side would have three
pub record Left (In : ℕ → Type 0) (at : ℕ → ℕ → ℕ) (t : List ℕ) (more : ℕ → ℕ → List ℕ) (t' : List ℕ) (r : Bool) : Type 0 where
  pub sane : r ≡ true → Sane In at t'
  pub stand : r ≡ true → (i j : ℕ) → i < j → In i → In j → held_at at t' i j ≡ held_at at t i j ++ more i j
  pub full : r ≡ false → Crowded In (λ i j. held_at at t i j ++ more i j)

-- what the functions that leave marks are given: each vertex has its row and column, and the table has room for them
pub record Ready (number : List ℕ) (k : ℕ) (t : List ℕ) : Type 0 where
  pub numbering : Numbering number k
  pub wide : k * k ≤ length t
  pub sane : Sane (Known number k) (entry_of number k) t

-- ---- the marks at a side from a to b, whichever is the lower
unfoldable pub first_at : (ℕ → ℕ → ℕ) → List ℕ → ℕ → ℕ → ℕ
first_at at t a b = cond (ltb a b) (get_or t (at a b) 0) (get_or t (at b a) 0)

unfoldable pub second_at : (ℕ → ℕ → ℕ) → List ℕ → ℕ → ℕ → ℕ
second_at at t a b = cond (ltb a b) (get_or t (at b a) 0) (get_or t (at a b) 0)

-- a side between two different vertices has no second mark
unfoldable pub lonely : (ℕ → ℕ → ℕ) → List ℕ → ℕ × ℕ → Bool
lonely at t e = not (eqb e.0 e.1) && eqb (second_at at t e.0 e.1) 0

-- of a side of a face, of a side of any face
unfoldable pub lonely_face : (ℕ → ℕ → ℕ) → List ℕ → List ℕ → Bool
lonely_face at t face = any_of (lonely at t) (sides face)

unfoldable pub lonely_faces : (ℕ → ℕ → ℕ) → List ℕ → List (List ℕ) → Bool
lonely_faces at t fs = any_of (lonely_face at t) fs

-- ---- what the full table tells
-- x and y are the two marks at the side between i and j: which faces have it, and which way they run it, reversed or not
pub record Pair (fs : List (List ℕ)) (i j x y : ℕ) : Type 0 where
  pub first_above : 0 < x
  pub second_above : 0 < y
  pub first : face_of x < length fs
  pub second : face_of y < length fs
  pub has_is : (g : ℕ) → has i j (get_or fs g []) ≡ one_if (eqb (face_of x) g) + one_if (eqb (face_of y) g)
  pub up_is : (g : ℕ) (back : Bool)
      → count i j (sides (face_by back (get_or fs g [])))
      ≡ one_if (eqb (face_of x) g && runs_up back x) + one_if (eqb (face_of y) g && runs_up back y)
  pub ups : (c : ℕ → Bool) → runs i j (reversed_by c fs) ≡ one_if (runs_up (c (face_of x)) x) + one_if (runs_up (c (face_of y)) y)
  pub downs : (c : ℕ → Bool)
      → runs j i (reversed_by c fs) ≡ one_if (not (runs_up (c (face_of x)) x)) + one_if (not (runs_up (c (face_of y)) y))

-- the table holds the two marks of each side that occurs
pub record Mates (In : ℕ → Type 0) (at : ℕ → ℕ → ℕ) (t : List ℕ) (fs : List (List ℕ)) : Type 0 where
  pub pair : (i j : ℕ) → i < j → In i → In j → 0 < occurs i j fs → Pair fs i j (get_or t (at i j) 0) (get_or t (at j i) 0)
