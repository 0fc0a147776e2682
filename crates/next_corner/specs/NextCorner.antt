-- Which corner of a ring is cut off next. `ps` are the points of the ring's corners in the plane, in order;
-- `dir` is the direction, +1 or −1.
use Rattle.std.specs.Prelude.{ℕ, ◌+◌, Bool, false, not, ◌&&◌, cond, List, [], length, get_or, Float, Option, Some, None}
use Rattle.std.specs.Float.Ieee.{neg, lt, le, eq}
use Rattle.places.specs.Loops.{any_of, first_place}
use Rattle.places.specs.Ring.{before, after}
use Rattle.floats.specs.F64.{◌*f◌, zero64, one64}
use Rattle.flat.specs.Points.{Point, at}
use Rattle.flat.specs.Flat.{cross2_of, summed_area_of}
use Rattle.next_corner.specs.declared.Choice.{Choice}

-- the direction of a ring: +1 if its summed area is ≥ 0, else −1
unfoldable pub direction_of : List Point → Float
direction_of ps = cond (le zero64 (summed_area_of ps)) one64 (neg one64)

-- ---- three points
-- turn × direction ≥ 0 at the corner b between a and c
unfoldable pub turns_of : Point → Point → Point → Float → Bool
turns_of a b c dir = le zero64 (cross2_of a b c *f dir)

-- two points are the same by value, so that −0 equals 0
unfoldable pub same_of : Point → Point → Bool
same_of p q = eq (at p 0) (at q 0) && eq (at p 1) (at q 1)

-- p lies strictly in the triangle a, b, c
unfoldable pub strictly_in : Point → Point → Point → Float → Point → Bool
strictly_in a b c dir p = lt zero64 (cross2_of a b p *f dir) && (lt zero64 (cross2_of b c p *f dir) && lt zero64 (cross2_of c a p *f dir))

-- p differs from all three and lies strictly in the triangle
unfoldable pub blocks_of : Point → Point → Point → Float → Point → Bool
blocks_of a b c dir p = not (same_of p a) && (not (same_of p b) && (not (same_of p c) && strictly_in a b c dir p))

-- ---- a corner of the ring
-- a ring point blocks the triangle a, b, c
unfoldable pub blocked_of : List Point → Point → Point → Point → Float → Bool
blocked_of ps a b c dir = any_of (blocks_of a b c dir) ps

-- turn × direction ≥ 0 at the corner at place k
unfoldable pub turns_at : List Point → Float → ℕ → Bool
turns_at ps dir k = turns_of (before [] k ps) (get_or ps k []) (after [] k ps) dir

-- and no ring point that differs from all three lies strictly in the triangle
unfoldable pub ear_at : List Point → Float → ℕ → Bool
ear_at ps dir k =
    let blocked = blocked_of ps (before [] k ps) (get_or ps k []) (after [] k ps) dir in
    cond (turns_at ps dir k) (not blocked) false

-- ---- the next corner: corners are tried in order from place 0
unfoldable pub find_ear : List Point → Float → Option ℕ
find_ear ps dir = first_place (ear_at ps dir) (length ps)

-- failing that, the first corner with turn × direction ≥ 0
unfoldable pub find_turn : List Point → Float → Option ℕ
find_turn ps dir = first_place (turns_at ps dir) (length ps)

abbrev pub or_else : Option ℕ → Option ℕ → Option ℕ
or_else (Some k) g = Some k
or_else None g = g

-- ---- the choice: the corner that is cut off, if there is one, and how many turn tests were made, one for each corner that a pass tries
-- of a ring of m corners a pass tries each up to and including the one that it takes, and all m where it takes none
abbrev pub tried_of : ℕ → Option ℕ → ℕ
tried_of m (Some k) = k + 1
tried_of m None = m

-- both passes are counted, and the second is made where the first takes none
abbrev pub tests_of : ℕ → Option ℕ → Option ℕ → ℕ
tests_of m (Some k) turn = tried_of m (Some k)
tests_of m None turn = tried_of m None + tried_of m turn

-- the choice at a ring of m corners, by what the two passes take
abbrev pub choice_by : ℕ → Option ℕ → Option ℕ → Choice
choice_by m ear turn = record { corner = or_else ear turn; tests = tests_of m ear turn }

-- the choice at a ring: the first ear, failing that the first corner that turns, failing that none
unfoldable pub find_corner : List Point → Float → Choice
find_corner ps dir =
    let turn = find_turn ps dir in
    choice_by (length ps) (find_ear ps dir) turn
