-- The corners of a face, one for each of its numbers, so that a place of the face tells its corner; and a face that has none.
use mathlib.Core.Path.{◌≡◌, refl}
use mathlib.Core.List.{List, [], ◌∷◌}
use Prim.Native.Nat.{ℕ, ◌+◌, ◌<◌}
use native.Mathlib.Numerals.{add-one}
use native.Mathlib.Omega.{arith}
use lib.ListN.{length, get_or, length-map}
use Rattle.places.proofs.Lists.{map_at}
use Rattle.places.specs.Loops.{fold_list}
use Rattle.floats.specs.F64.{zero64}
use Rattle.flat.specs.Points.{Point, point_by, vertex_of, corners_of}
use Rattle.flat.specs.Flat.{newell_of}

module _ (vs : List Point) (face : List ℕ) where
  pub length_corners : length (corners_of vs face) ≡ length face
  unfolding corners_of
  length_corners = length-map face (vertex_of vs)

  pub corner_at : (i : ℕ) → i < length face → get_or (corners_of vs face) i [] ≡ vertex_of vs (get_or face i 0)
  unfolding corners_of
  corner_at i h = map_at (vertex_of vs) face i 0 [] h

-- the corners after the first, by the places of what is left of the face
pub rest_at : {face rest : List ℕ} {v : ℕ} (k : ℕ) → face ≡ v ∷ rest → get_or rest k 0 ≡ get_or face (k + 1) 0
rest_at k e = rw (e, add-one)

-- the Newell sums of a face of no corners
pub no_corners : (vs : List Point) (face : List ℕ) → length face ≡ 0 → point_by 3 (λ k. zero64) ≡ newell_of (corners_of vs face)
unfolding newell_of corners_of fold_list
no_corners vs [] h = refl
no_corners vs (c ∷ cs) h = absurd (omega arith)
