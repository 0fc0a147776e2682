-- What functions below the gatehouse ask of and promise each other; no contract of a public entry speaks of these.
-- t has a code for each face: 0 not reached, 1 keeps its direction, 2 is reversed.
use Rattle.std.specs.Prelude.{◌≡◌, ◌≢◌, Bool, true, not, ◌&&◌, cond, List, [], ◌∷◌, ℕ, ◌+◌, ◌*◌, ◌<◌, ◌≤◌, eqb, ltb, length, get_or, set}
use Rattle.std.specs.Bool.{beq}
use Rattle.places.specs.Limits.{most_faces}
use Rattle.places.specs.Loops.{any_of, one_if}
use Rattle.places.specs.Ring.{sides}
use Rattle.exact.specs.Sides.{Closed}
use Rattle.exact.specs.Facing.{reversed_by, Twice, Share, Group, Made}
use Rattle.exact.proofs.Forced.{differ}
use Rattle.cell.specs.Faces.{faces_of}
use Rattle.side_table.specs.Numbers.{Known, Numbered, entry_of}
use Rattle.places.specs.Refusals.{Check, no_refusal}
use Rattle.facing.specs.Refused.{reversal_refusal}
use Rattle.shared_sides.specs.Steps.{face_of, down_of, runs_up, first_at, second_at, Mates}

-- the choice that the codes make
abbrev pub code_choice : List ℕ → ℕ → Bool
code_choice t f = eqb (get_or t f 0) 2

-- what all functions over the table are given: the table has the two marks of each side
pub record Ground (number : List ℕ) (k : ℕ) (table corners ends : List ℕ) : Type 0 where
  pub numbered : Numbered number k corners ends
  pub wide : k * k ≤ length table
  pub few_faces : length ends ≤ most_faces
  pub twice : Twice (faces_of corners ends)
  pub paired : Mates (Known number k) (entry_of number k) table (faces_of corners ends)

-- ---- one side
-- of the marks x and y at a side of the face f that of the other face
abbrev pub other_of : ℕ → ℕ → ℕ → ℕ
other_of x y f = cond (eqb (face_of x) f) y x

-- the mark of the neighbour over f's side from a to b; 0 where a is b
unfoldable pub neighbour_of : (ℕ → ℕ → ℕ) → List ℕ → ℕ → ℕ → ℕ → ℕ
neighbour_of at table a b f = cond (eqb a b) 0 (other_of (first_at at table a b) (second_at at table a b) f)

-- whether a face with the code w, as it is turned, runs its side from a to b up, from the lower vertex to the higher
abbrev pub up_of : ℕ → ℕ → ℕ → Bool
up_of a b w = cond (eqb w 2) (ltb b a) (ltb a b)

-- the code that turns the face of the mark m against one that runs the side up, or down
abbrev pub against_of : ℕ → Bool → ℕ
against_of m up = cond (beq (down_of m) up) 1 2

-- after the neighbour of the mark m was asked: it was reached before, or it is now, and stands last in the list
pub data Met (t list : List ℕ) (tail m : ℕ) (up : Bool) (t' list' : List ℕ) (tail' : ℕ) : Type 0 where
  as_was : (0 < m → 0 < get_or t (face_of m) 0) → t' ≡ t → list' ≡ list → tail' ≡ tail → Met t list tail m up t' list' tail'
  now_reached : 0 < m → get_or t (face_of m) 0 ≡ 0 → t' ≡ set t (face_of m) (against_of m up) → list' ≡ set list tail (face_of m)
      → tail' ≡ tail + 1 → Met t list tail m up t' list' tail'

-- ---- all faces
-- s is in the group of f, and all faces up to s are reached
pub record Root (fs : List (List ℕ)) (t : List ℕ) (f : ℕ) : Type 0 where
  pub s : ℕ
  pub to : Group fs f s
  pub upto : (m : ℕ) → m ≤ s → 0 < get_or t m 0

-- a face of the group with a lower number
pub record Lower (fs : List (List ℕ)) (f : ℕ) : Type 0 where
  pub m : ℕ
  pub less : m < f
  pub to : Group fs f m

-- each reached face has a root; one that is reversed is not the lowest of its group;
-- and against any choice that closes, the reached faces of a group differ all or none
pub record Going (fs : List (List ℕ)) (t : List ℕ) : Type 0 where
  pub rooted : (f : ℕ) → 0 < get_or t f 0 → Root fs t f
  pub low : (f : ℕ) → code_choice t f ≡ true → Lower fs f
  pub forced : (d : ℕ → Bool) → Closed (reversed_by d fs) → (f g : ℕ) → 0 < get_or t f 0 → 0 < get_or t g 0 → Group fs f g
      → differ (code_choice t f) (d f) ≡ differ (code_choice t g) (d g)

-- how many are not reached
abbrev pub unreached : List ℕ → ℕ
unreached [] = 0
unreached (x ∷ t) = one_if (eqb x 0) + unreached t

-- f stands in the list before place n
pub record Entry (list : List ℕ) (n f : ℕ) : Type 0 where
  pub place : ℕ
  pub before : place < n
  pub is : get_or list place 0 ≡ f

-- the reached faces stand in the list before `tail`, and those before `head` have asked: all their neighbours are reached
pub record Spread (fs : List (List ℕ)) (t list : List ℕ) (low head tail : ℕ) : Type 0 where
  pub going : Going fs t
  pub codes : length t ≡ length fs
  pub places : length list ≡ length fs
  pub counted : unreached t + tail ≡ length fs
  pub order : head ≤ tail
  pub below : (f : ℕ) → f < low → 0 < get_or t f 0
  pub entered : (p : ℕ) → p < tail → 0 < get_or t (get_or list p 0) 0
  pub listed : (f : ℕ) → 0 < get_or t f 0 → Entry list tail f
  pub asked : (p : ℕ) → p < head → (g : ℕ) → Share fs (get_or list p 0) g → 0 < get_or t g 0

-- the same of some faces, of which not all have asked
pub record Waiting (t list : List ℕ) (low head tail : ℕ) : Type 0 where
  pub fs : List (List ℕ)
  pub spread : Spread fs t list low head tail
  pub few : length fs ≤ most_faces
  pub some : head < length fs

-- after the lowest face that is not reached came into the list where that was due: a face waits
pub record Seeded (t list : List ℕ) (low head tail : ℕ) (t' list' : List ℕ) (low' head' tail' : ℕ) : Type 0 where
  pub spread : (fs : List (List ℕ)) → Spread fs t list low head tail → head < length fs → Spread fs t' list' low' head' tail'
  pub same : head' ≡ head
  pub waits : head' < tail'

-- every face is reached
pub record Whole (fs : List (List ℕ)) (t : List ℕ) : Type 0 where
  pub going : Going fs t
  pub codes : length t ≡ length fs
  pub all : (f : ℕ) → f < length fs → 0 < get_or t f 0

-- ---- whether both faces at a side between two different vertices run it the same way
unfoldable pub clash : (ℕ → ℕ → ℕ) → List ℕ → List ℕ → ℕ × ℕ → Bool
clash at table t e =
    let x = first_at at table e.0 e.1 in
    let y = second_at at table e.0 e.1 in
    not (eqb e.0 e.1) && beq (runs_up (code_choice t (face_of x)) x) (runs_up (code_choice t (face_of y)) y)

-- of a side of a face, of a side of any face
unfoldable pub clash_face : (ℕ → ℕ → ℕ) → List ℕ → List ℕ → List ℕ → Bool
clash_face at table t face = any_of (clash at table t) (sides face)

unfoldable pub clash_faces : (ℕ → ℕ → ℕ) → List ℕ → List ℕ → List (List ℕ) → Bool
clash_faces at table t fs = any_of (clash_face at table t) fs

-- the marks at a side between two different vertices are marks, of two of n faces
pub record Marked (at : ℕ → ℕ → ℕ) (table : List ℕ) (n : ℕ) (e : ℕ × ℕ) : Type 0 where
  pub first : e.0 ≢ e.1 → (0 < first_at at table e.0 e.1) × (face_of (first_at at table e.0 e.1) < n)
  pub second : e.0 ≢ e.1 → (0 < second_at at table e.0 e.1) × (face_of (second_at at table e.0 e.1) < n)

-- ---- what is chosen: why nothing is reversed, and where there is no reason, the choice that the codes make
pub record Chosen (fs : List (List ℕ)) (t : List ℕ) (r : Check) : Type 0 where
  pub why : r ≡ reversal_refusal fs
  pub made : r ≡ no_refusal → Made fs (code_choice t)
