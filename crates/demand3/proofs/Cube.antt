-- Demand 3 is not empty: it applies to the unit cube, and its premises are needed: a torn cube has another sum about another point.
use mathlib.Core.Path.{◌≡◌, refl, sym, ◌∙◌, ap}
use mathlib.Core.Bool.{true, false}
use mathlib.Core.List.{List}
use Prim.Native.Nat.{ℕ, ◌*◌, ◌^◌}
use borrow.Author.Tests.{eqb-false}
use lib.IntN.{pos, nat_abs}
use lib.Ieee.{binary64, of_bits, div}
use Rattle.places.specs.Loops.{fold_list, count_of}
use Rattle.exact.specs.Sides.{closed_of}
use Rattle.exact.specs.Space.{V3, det, less, triples}
use Rattle.exact.specs.Scaled.{exact_of}
use Rattle.flat.specs.Points.{Point, vertices_of, plus_of, minus_of, over_of, centroid_of}
use Rattle.cut.proofs.Computed as Cut
use Rattle.cell.specs.Faces.{faces_of}
use Rattle.volume.specs.Triangles.{triangles_of, is_short, short_of}
use Rattle.volume.specs.Volume.{triple_of, triple_about, sum_about, v6_of, volume_of}
use Rattle.demand3.specs.Demand3.{exact_point, place_of, StaysBalanced, SameSum}
use Rattle.demand3.specs.Cube.{cube, hex_corners, hex_ends, backward_corners, other_faces, torn_ends}
use Rattle.demand3.proofs.Reported.{reported}

-- every definition on the way to an exact sum or a volume: 'unfolding computed' opens them all
unfoldable pub computed : Unit {0}
unfolding Cut.computed div fold_list count_of closed_of det less exact_of plus_of minus_of over_of centroid_of faces_of triangles_of
    is_short short_of triple_of triple_about sum_about v6_of volume_of exact_point place_of
computed = tt

abbrev vertices : List Point
vertices = vertices_of cube

-- (0, 0, 0), and (0, 0, 1) in whole numbers
abbrev origin : V3
origin = record { x = pos 0; y = pos 0; z = pos 0 }

abbrev above : V3
above = record { x = pos 0; y = pos 0; z = pos (2 ^ 1074) }

-- ---- the cube: closed, and every face fully cut
abbrev hex : List (List ℕ)
hex = faces_of hex_corners hex_ends

pub hex_closed : closed_of hex ≡ true
unfolding computed
hex_closed = refl

pub hex_short : short_of vertices hex ≡ 0
unfolding computed
hex_short = refl

-- so its triangles are balanced, and their exact sum is the same about every reference point ..
pub hex_balanced : StaysBalanced vertices hex
hex_balanced = (reported vertices hex).triangles hex_closed hex_short

pub hex_same : SameSum vertices hex
hex_same = (reported vertices hex).sum hex_closed hex_short

-- .. six times the volume 1, in units of 2 ^ −3222; and the code's volume is 1
pub hex_sum : triples (place_of vertices) origin (triangles_of vertices hex) ≡ pos (6 * 2 ^ 3222)
unfolding computed
hex_sum = refl

pub hex_volume : volume_of vertices hex ≡ of_bits binary64 0x3ff0_0000_0000_0000
unfolding computed
hex_volume = refl

-- ---- with the first face turned round: not closed, and another volume, though every face is fully cut
abbrev backward : List (List ℕ)
backward = faces_of backward_corners hex_ends

pub backward_open : closed_of backward ≡ false
unfolding computed
backward_open = refl

pub backward_short : short_of vertices backward ≡ 0
unfolding computed
backward_short = refl

pub backward_volume : volume_of vertices backward ≡ of_bits binary64 0x3fe5_5555_5555_5555
unfolding computed
backward_volume = refl

-- ---- without that face: not closed, and the exact sums about (0, 0, 0) and about (0, 0, 1) differ
abbrev torn : List (List ℕ)
torn = faces_of other_faces torn_ends

pub torn_open : closed_of torn ≡ false
unfolding computed
torn_open = refl

pub torn_short : short_of vertices torn ≡ 0
unfolding computed
torn_short = refl

pub torn_below : triples (place_of vertices) origin (triangles_of vertices torn) ≡ pos (6 * 2 ^ 3222)
unfolding computed
torn_below = refl

pub torn_above : triples (place_of vertices) above (triangles_of vertices torn) ≡ pos (4 * 2 ^ 3222)
unfolding computed
torn_above = refl

pub torn_differs : ¬ SameSum vertices torn
torn_differs same = eqb-false (6 * 2 ^ 3222) (4 * 2 ^ 3222) refl (ap nat_abs (sym torn_below ∙ same origin above ∙ torn_above))
