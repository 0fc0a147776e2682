-- Request 14 holds of every face. To take a corner off keeps, over the triangles and the ring together, every sum over sides of a weight
-- that changes its sign with the direction, and each coordinate of a × b, for a side from a to b, is such a weight. So the vectors follow
-- from demand 3's sums over sides; and a ring has the same sides wherever its list starts.
use mathlib.Core.Path.{◌≡◌, sym, ◌∙◌, ap}
use mathlib.Core.List.{List, [], ◌∷◌, reverse, append-nil}
use Prim.Native.Nat.{ℕ, ◌+◌}
use native.Mathlib.Omega.{arith}
use lib.ListN.{length, take, drop, take-append-drop}
use Rattle.places.proofs.Lists.{each_nil, each_cons}
use Rattle.exact.specs.Space.{plus, opposite}
use Rattle.exact.proofs.Alike.{alike_runs}
use Rattle.exact.proofs.Area.{areas_one, areas_append, alike_areas, area_rotated, area_reversed, area_three}
use Rattle.exact.proofs.Moved.{area_about}
use Rattle.flat.specs.Points.{Point}
use Rattle.cut.specs.Cut.{cut_of}
use Rattle.cut.proofs.Facts.{Ends, few, full, short, choice, cut_ends, cut_alike}
use Rattle.volume.specs.Triangles.{triangles_of}
use Rattle.demand3.specs.Demand3.{pieces, rest, Stuck, Full, place_of}
use Rattle.demand3.specs.Area.{area_of, areas_of, started_at, AreaInTriangles, OneArea, OfTriangle, BackwardTriangles, MadeUp}
use Rattle.demand3.proofs.Demand3.{full_left, full_alike}

module _ (vs : List Point) where
  -- ---- of a ring
  started : (k : ℕ) (ring : List ℕ) → area_of vs (started_at k ring) ≡ area_of vs ring
  started k ring = area_rotated (place_of vs) (drop k ring) (take k ring) ∙ ap (area_of vs) (take-append-drop k ring)

  pub one_area : (ring : List ℕ) → OneArea vs ring
  one_area ring = record {
    start = λ k. started k ring;
    about = λ p. area_about (place_of vs) p ring;
    backward = area_reversed (place_of vs) ring;
  }

  pub of_triangle : OfTriangle vs
  of_triangle = area_three (place_of vs)

  -- ---- of a face and its cut
  areas_with_rest : (face : List ℕ) → plus (areas_of vs (pieces vs face)) (area_of vs (rest vs face)) ≡ area_of vs face
  areas_with_rest face =
      let together =
      sym (areas_append (place_of vs) (pieces vs face) (rest vs face ∷ [])) ∙ alike_areas (place_of vs) _ _ (cut_alike vs face) in
      rw (areas_one (place_of vs) (rest vs face), areas_one (place_of vs) face) at together

  full_areas : (face : List ℕ) → Full vs face → areas_of vs (pieces vs face) ≡ area_of vs face
  unfolding triangles_of
  full_areas face f =
      let alike = full_alike vs (face ∷ []) (each_cons f each_nil) in
      rw (append-nil (pieces vs face), areas_one (place_of vs) face) at (alike_areas (place_of vs) _ _ alike)

  pub area_in_triangles : (face : List ℕ) → AreaInTriangles vs face
  area_in_triangles face = record {
    sentence1 = full_areas face;
    sentence2 = λ f k g. full_areas (started_at k face) g ∙ started k face ∙ sym (full_areas face f);
    sentence3 = areas_with_rest face;
  }

  pub backward_triangles : (face : List ℕ) → BackwardTriangles vs face
  backward_triangles face f g =
      full_areas (reverse face) g ∙ area_reversed (place_of vs) face ∙ ap opposite (sym (full_areas face f))

  pub made_up : (face : List ℕ) → MadeUp vs face
  made_up face = record { none = full_left vs face; corners = go (cut_ends vs face); sides = alike_runs _ _ (cut_alike vs face) }
    where
      go : Ends (choice vs face) face (cut_of vs face) → Stuck vs face (rest vs face)
          → length (pieces vs face) + length (rest vs face) ≡ length face
      go (few l a b) s = absurd (omega (arith, ap length b, s.four))
      go (full a b) s = absurd (omega (arith, ap length a, s.four))
      go (short a b d) s = d
