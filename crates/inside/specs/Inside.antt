-- A cell contains a point when the crossings are odd; and the same for faces in one list, each ended by 4,294,967,295.
use Rattle.std.specs.Prelude.{ℕ, Bool, false, not, cond, List, [], ◌∷◌, ◌++◌, leb, eqb, length}
use Rattle.places.specs.Loops.{fold_list}
use Rattle.flat.specs.Points.{Point}
use Rattle.inside.specs.Ray.{ray_crosses}

-- each face that is crossed turns the answer round
unfoldable pub cross_face : List Point → Point → List ℕ → Bool → Bool
cross_face vs p face inside = cond (ray_crosses vs p face) (not inside) inside

-- contains: an odd number of faces is crossed
unfoldable pub contains_of : List Point → Point → List (List ℕ) → Bool
contains_of vs p fs = fold_list (cross_face vs p) fs false

-- a point is contained in the cell
abbrev pub holds : List Point → List (List ℕ) → Point → Bool
holds vs fs p = contains_of vs p fs

-- ---- point_in_phed
-- the mark that ends a face
abbrev pub face_end : ℕ
face_end = 4294967295

-- the faces of a list with marks: `face` is what is read of the one that is open
unfoldable pub marked_from : List ℕ → List ℕ → List (List ℕ)
marked_from face [] = face ∷ []
marked_from face (c ∷ cs) =
    let ended = face ∷ marked_from [] cs in
    let longer = marked_from (face ++ c ∷ []) cs in
    cond (eqb c face_end) ended longer

abbrev pub marked_faces : List ℕ → List (List ℕ)
marked_faces cs = marked_from [] cs

-- a face under 3 corners is skipped
unfoldable pub cross_marked : List Point → Point → List ℕ → Bool → Bool
cross_marked vs p face inside = cond (leb 3 (length face)) (cross_face vs p face inside) inside

unfoldable pub phed_contains_of : List Point → Point → List ℕ → Bool
phed_contains_of vs p cs = fold_list (cross_marked vs p) (marked_faces cs) false
