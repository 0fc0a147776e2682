-- `to_local` moves a list of vertices, and nothing exact about a cell changes but where it is: SCOPE 19, sentence by sentence, in whole
-- numbers scaled by 2 ^ 1074. It holds of every list that `to_local` does not refuse.
use Rattle.std.specs.Prelude.{◌≡◌, ◌↔◌, true, false, List, [], ℕ, ◌^◌, ◌<◌, T, length, ℤ, pos, nat_abs, ◌-ℤ◌, ◌*ℤ◌, Float, Ok, Err}
use Rattle.std.specs.Float.{nan, binary64}
use Rattle.std.specs.Float.Ieee.{fits}
use Rattle.places.specs.Refusals.{no_refusal}
use Rattle.places.specs.declared.refusal.Refusal.TheVariants.{Number, Inexact}
use Rattle.places.specs.Lists.{Each}
use Rattle.floats.specs.F64.{zero64}
use Rattle.exact.specs.Scaled.{exact_of}
use Rattle.exact.specs.Space.{V3, less, plus, area, triples}
use Rattle.flat.specs.Points.{Point, at, point_by, vertices_of, vertex_of}
use Rattle.flat.specs.Steps.{Inside}
use Rattle.cell.specs.Refusals.{number_refused}
use Rattle.local.specs.Local.{origin_of, moved_by}
use Rattle.volume.specs.Triangles.{triangles_of}
use Rattle.refusals.specs.Refusals.{list_refusal, local_refusal}
use Rattle.geometry.specs.Answers.{named3}
use Rattle.geometry.specs.Cells.{closed_answer}
use Rattle.geometry.specs.Points.{to_local_answer}
use Rattle.demand3.specs.Demand3.{exact_point, place_of, Premises}

-- ---- what the sentences speak of
-- the vertices before and after, and the vector by which they move, in whole numbers
abbrev pub unmoved : List Float → List Point
unmoved coords = vertices_of coords

abbrev pub moved : List Float → List Point
moved coords = moved_by (origin_of (unmoved coords)) (unmoved coords)

abbrev pub vector : List Float → V3
vector coords = exact_point (origin_of (unmoved coords))

-- every number of a list is an f64, as in every list that a program holds
abbrev pub F64s : List Float → Type 0
F64s coords = Each nan (λ x. T (fits binary64 x)) coords

-- the lists of corners all of which are vertices: rings, faces, triangles
abbrev pub Corners : List Float → List (List ℕ) → Type 0
Corners coords lists = Each [] (Inside (unmoved coords)) lists

-- ---- the sentences
pub record Moves (coords : List Float) : Type 0 where
  -- the vector is of whole numbers: so many times 2 ^ 1074 units along each axis
  pub whole : (k : ℕ) → k < 3 → (n : ℤ) × (exact_of (at (origin_of (unmoved coords)) k) ≡ n *ℤ pos (2 ^ 1074))
  -- the exact place of every vertex moves by exactly that vector
  pub places : (v : ℕ) → v < length (unmoved coords) → place_of (moved coords) v ≡ less (place_of (unmoved coords) v) (vector coords)
  -- for any triangles the exact sum of triple products of the moved vertices about p is that of the unmoved about p moved back
  pub sums : (ts : List (List ℕ)) → Corners coords ts → (p : V3)
      → triples (place_of (moved coords)) p ts ≡ triples (place_of (unmoved coords)) (plus p (vector coords)) ts
  -- so for a closed and fully cut cell the exact volume of the moved cell, over the same triangles, is the unmoved one's, about every
  -- reference point
  pub volume : (fs : List (List ℕ)) → Corners coords fs → Premises (unmoved coords) fs → (p q : V3)
      → triples (place_of (moved coords)) p (triangles_of (unmoved coords) fs)
      ≡ triples (place_of (unmoved coords)) q (triangles_of (unmoved coords) fs)
  -- and where the moved cell is fully cut, be the unmoved one cut short or not, over the moved cell's triangles
  pub volume_after : (fs : List (List ℕ)) → Corners coords fs → Premises (moved coords) fs → (p q : V3)
      → triples (place_of (moved coords)) p (triangles_of (moved coords) fs)
      ≡ triples (place_of (unmoved coords)) q (triangles_of (moved coords) fs)
  -- the exact doubled area vector of every ring is the same; demand 3's premise on sides, `Closed`, speaks of corners alone
  pub areas : (ring : List ℕ) → Inside (unmoved coords) ring
      → area (place_of (moved coords)) ring ≡ area (place_of (unmoved coords)) ring
  -- the moved first vertex lies within 1 of the origin in each coordinate
  pub near : (k : ℕ) → k < 3 → nat_abs (exact_of (at (vertex_of (moved coords) 0) k)) < 2 ^ 1074
  -- moving twice is moving once: the second vector is +0, +0, +0, and by it nothing moves
  pub still : origin_of (moved coords) ≡ point_by 3 (λ k. zero64)
  pub twice : moved_by (point_by 3 (λ k. zero64)) (moved coords) ≡ moved coords

-- every list that `to_local` moves is moved so
abbrev pub ToLocalMoves : Type 0
ToLocalMoves = (coords : List Float) → F64s coords → local_refusal coords ≡ no_refusal → Moves coords

-- ---- the same of the entry
-- it answers that vector, and the list that it leaves holds the moved vertices
abbrev pub EntryMoves : Type 0
EntryMoves =
    (coords : List Float) → local_refusal coords ≡ no_refusal
    → ((to_local_answer coords).0 ≡ Ok (named3 (origin_of (unmoved coords))))
    × (vertices_of (to_local_answer coords).1 ≡ moved coords)

-- a second call answers 0, 0, 0 and leaves the list, unless the cell is so wide that a moved coordinate is beyond 2 ^ 40
abbrev pub MovedTwice : Type 0
MovedTwice =
    (coords : List Float) → F64s coords → local_refusal coords ≡ no_refusal
    → let list = (to_local_answer coords).1 in number_refused list ≡ false
    → to_local_answer list ≡ (Ok (named3 (point_by 3 (λ k. zero64))), list)

-- in that case it refuses the moved list 2, `Number`, and leaves it
abbrev pub MovedBeyond : Type 0
MovedBeyond =
    (coords : List Float) → local_refusal coords ≡ no_refusal → let list = (to_local_answer coords).1 in number_refused list ≡ true
    → to_local_answer list ≡ (Err Number, list)

-- closedness is answered alike, with the same exception
abbrev pub ClosedAlike : Type 0
ClosedAlike =
    (coords : List Float) (corners ends : List ℕ) → local_refusal coords ≡ no_refusal
    → let list = (to_local_answer coords).1 in number_refused list ≡ false
    → closed_answer list corners ends ≡ closed_answer coords corners ends

-- ---- what 15 says
-- the difference of every coordinate of a vertex from that of the local origin is an f64, d
pub record AllExact (coords : List Float) : Type 0 where
  pub difference : (v : ℕ) → v < length (unmoved coords) → (k : ℕ) → k < 3
      → (d : Float) × T (fits binary64 d)
      × (exact_of d ≡ exact_of (at (vertex_of (unmoved coords) v) k) -ℤ exact_of (at (origin_of (unmoved coords)) k))

-- the list is refused 15, `Inexact`, exactly where it passes 1 and 2 and not every difference is an f64
abbrev pub Fifteen : Type 0
Fifteen =
    (coords : List Float) → F64s coords → (local_refusal coords ≡ Err Inexact)
    ↔ ((list_refusal coords ≡ no_refusal) × (AllExact coords → ⊥))
