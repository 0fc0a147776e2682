-- No turn of a cut is a NaN. SCOPE 7 takes a corner where turn × direction is at least 0, and the Rust's first pass skips one where it
-- is below 0: these differ on a NaN only. Of coordinates that pass refusal 2 none arises, and so both rules cut every face alike, with as
-- many tests.
use Rattle.std.specs.Prelude.{◌≡◌, Bool, false, not, cond, List, [], ℕ, ◌-◌, ◌<◌, ltb, length, get_or, Float}
use Rattle.std.specs.Float.Ieee.{lt, is_nan}
use Rattle.places.specs.Refusals.{no_refusal}
use Rattle.places.specs.Loops.{first_place}
use Rattle.places.specs.Lists.{Each}
use Rattle.places.specs.Ring.{before, after}
use Rattle.floats.specs.F64.{◌*f◌, zero64}
use Rattle.flat.specs.Points.{Point, vertices_of}
use Rattle.flat.specs.Steps.{Inside}
use Rattle.flat.specs.Flat.{cross2_of, points_of}
use Rattle.next_corner.specs.NextCorner.{direction_of, blocked_of, turns_at, find_turn, choice_by}
use Rattle.next_corner.specs.declared.Choice.{Choice}
use Rattle.cut.specs.Cut.{Cut, nothing, cut_ring, axis_for, direction_for, cut_of}
use Rattle.cell.specs.Faces.{faces_of}
use Rattle.cell.specs.Refusals.{number_refused, refusal_of}

-- turn × direction at the corner at place k; ps are the points of the ring's corners in the plane
abbrev pub turn_at : List Point → Float → ℕ → Float
turn_at ps dir k = cross2_of (before [] k ps) (get_or ps k []) (after [] k ps) *f dir

-- ---- no turn is a NaN
-- one ring, seen along one axis: at no corner is turn × direction a NaN, and so 'at least 0' is 'not below 0'
pub record NoNanTurn (vs : List Point) (axis : ℕ) (ring : List ℕ) (dir : Float) : Type 0 where
  pub number : (k : ℕ) → k < length ring → is_nan (turn_at (points_of vs axis ring) dir k) ≡ false
  pub same : (k : ℕ) → k < length ring → turns_at (points_of vs axis ring) dir k ≡ not (lt (turn_at (points_of vs axis ring) dir k) zero64)

-- coordinates that pass refusal 2 give no NaN turn: in any list of vertex numbers, along any axis, with the direction of any outline.
-- Every ring that a cut comes to is such a list, since its corners are corners of the face.
abbrev pub NoNanTurns : List Float → Type 0
NoNanTurns coords =
    number_refused coords ≡ false
    → (axis : ℕ) (ring : List ℕ) (outline : List Point) → Inside (vertices_of coords) ring
    → NoNanTurn (vertices_of coords) axis ring (direction_of outline)

-- ---- the cut by the Rust's rule
-- the Rust's first pass: a corner is skipped where turn × direction is below 0, and else taken where no ring point blocks its triangle
unfoldable pub rust_ear_at : List Point → Float → ℕ → Bool
rust_ear_at ps dir k =
    let blocked = blocked_of ps (before [] k ps) (get_or ps k []) (after [] k ps) dir in
    cond (lt (turn_at ps dir k) zero64) false (not blocked)

-- the Rust's choice: where the first pass takes none, its second pass asks for at least 0, as SCOPE 7 does
unfoldable pub rust_find_corner : List Point → Float → Choice
rust_find_corner ps dir =
    let turn = find_turn ps dir in
    choice_by (length ps) (first_place (rust_ear_at ps dir) (length ps)) turn

-- the corner that this choice cuts off a ring of the face, and the face cut by it
abbrev pub rust_next_corner_of : List Point → List ℕ → List ℕ → Choice
rust_next_corner_of vs face ring = rust_find_corner (points_of vs (axis_for vs face) ring) (direction_for vs face)

unfoldable pub rust_cut_of : List Point → List ℕ → Cut
rust_cut_of vs face =
    let cut = cut_ring (rust_next_corner_of vs face) (length face - 3) face in
    cond (ltb (length face) 3) nothing cut

-- the Rust's rule and that of SCOPE 7 cut a face alike
abbrev pub SameCut : List Point → List ℕ → Type 0
SameCut vs face = rust_cut_of vs face ≡ cut_of vs face

-- every face of vertices whose coordinates pass refusal 2 is cut alike
abbrev pub SameCuts : List Float → Type 0
SameCuts coords = number_refused coords ≡ false → (face : List ℕ) → Inside (vertices_of coords) face → SameCut (vertices_of coords) face

-- every face of a cell that is not refused is cut alike, whatever query points and faces are asked about
abbrev pub SameCellCuts : List Float → List ℕ → List ℕ → Type 0
SameCellCuts coords corners ends =
    (query : List Float) (asked : List ℕ) → refusal_of coords corners ends query asked ≡ no_refusal
    → Each [] (SameCut (vertices_of coords)) (faces_of corners ends)
