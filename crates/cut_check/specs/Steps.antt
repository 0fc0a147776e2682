-- What functions below the gatehouse ask of and promise each other; no contract of a public entry speaks of these.
-- The triangles beside the face, which is taken backward; the corners of each place, linked in a chain; and the stamps that are written
-- and taken off along a chain. A corner is its number in the list of all corners, three a triangle; what stands there is its place in the
-- face.
use Rattle.std.specs.Prelude.{◌≡◌, Bool, true, false, cond, List, [], ◌∷◌, length, get_or, set}
use Rattle.std.specs.Prelude.{ℕ, zero, suc, ◌+◌, ◌-◌, ◌*◌, ◌%◌, ◌<◌, ◌≤◌, eqb, ltb}
use Rattle.places.specs.Limits.{most_checked_triangles}
use Rattle.places.specs.Lists.{Each}
use Rattle.places.specs.Loops.{one_if, count_of}
use Rattle.exact.specs.Sides.{runs}
use Rattle.cut_check.specs.CutCheck.{face_side}

-- how many sides run from i to j, over the triangles and the face backward
unfoldable pub runs_beside : ℕ → List (List ℕ) → ℕ → ℕ → ℕ
runs_beside n ts i j = runs i j ts + one_if (face_side n j i)

-- from the place i at most one side runs to each place j, and only where one comes back
pub record PairedAt (n : ℕ) (ts : List (List ℕ)) (i : ℕ) : Type 0 where
  pub pairs : (j : ℕ) → runs_beside n ts i j ≤ one_if (ltb 0 (runs_beside n ts j i))

-- each place below a is paired
pub record PairedBelow (n : ℕ) (ts : List (List ℕ)) (a : ℕ) : Type 0 where
  pub paired : (i : ℕ) → i < a → PairedAt n ts i

-- each place of the face is paired
abbrev pub Paired : ℕ → List (List ℕ) → Type 0
Paired n ts = PairedBelow n ts n

-- ---- corners
-- the corner after s in its triangle, and the one before it
abbrev pub after_of : ℕ → ℕ
after_of s = cond (eqb (s % 3) 2) (s - 2) (s + 1)

abbrev pub before_of : ℕ → ℕ
before_of s = cond (eqb (s % 3) 0) (s + 2) (s - 1)

-- the place to which the side at the corner s goes, and the one from which a side comes to it
abbrev pub place_after : List ℕ → ℕ → ℕ
place_after corners s = get_or corners (after_of s) 0

abbrev pub place_before : List ℕ → ℕ → ℕ
place_before corners s = get_or corners (before_of s) 0

-- those of the first s corners that are at the place a, the latest first
unfoldable pub corners_at : ℕ → List ℕ → ℕ → List ℕ
corners_at a corners zero = []
corners_at a corners (suc s) =
    let earlier = corners_at a corners s in
    cond (eqb (get_or corners s 0) a) (s ∷ earlier) earlier

-- how often a place stands in a list
abbrev pub times : ℕ → List ℕ → ℕ
times b places = count_of (λ x. eqb x b) places

-- the corners of at most 254 triangles, each of a place below n
pub record CheckedCorners (n : ℕ) (corners : List ℕ) : Type 0 where
  pub threes : length corners % 3 ≡ 0
  pub few : length corners ≤ 3 * most_checked_triangles
  pub below : Each 0 (λ p. p < n) corners

-- ---- chains
-- the chain that starts at h has these corners: 0 is its end, and an h above 0 stands for the corner h - 1, after which the chain goes on
abbrev pub Chain : List ℕ → ℕ → List ℕ → Type 0
Chain next h [] = h ≡ 0
Chain next h (p ∷ ps) = (h ≡ p + 1) × Chain next (get_or next p 0) ps

-- the chain of each place has those of the first s corners that are there
pub record Lists (head next corners : List ℕ) (s : ℕ) : Type 0 where
  pub chain : (a : ℕ) → Chain next (get_or head a 0) (corners_at a corners s)

-- after s corners: each link goes back, and the chains have these corners
pub record Linked (head next corners : List ℕ) (s : ℕ) : Type 0 where
  pub back : (p : ℕ) → get_or next p 0 ≤ p
  pub lists : Lists head next corners s

-- ---- stamps
-- own is written at each of the places bs
unfoldable pub set_all : ℕ → List ℕ → List ℕ → List ℕ
set_all own [] stamp = stamp
set_all own (b ∷ bs) stamp = set_all own bs (set stamp b own)

-- whether the places bs have the stamp own, where a stamp that is used is taken off
unfoldable pub taken : ℕ → List ℕ → List ℕ → Bool
taken own [] stamp = true
taken own (b ∷ bs) stamp =
    let rest = taken own bs (set stamp b 0) in
    cond (eqb (get_or stamp b 0) own) rest false

-- r is the answer of `taken`, and where it is yes the stamps that were used are off
pub record Took (own : ℕ) (bs stamp stamp' : List ℕ) (r : Bool) : Type 0 where
  pub answer : r ≡ taken own bs stamp
  pub off : r ≡ true → stamp' ≡ set_all 0 bs stamp
