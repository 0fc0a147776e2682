-- What the entries on a cell answer. A cell is its lists: three coordinates a vertex, the corners of all faces, and where each face
-- ends among them.
use Rattle.std.specs.Prelude.{ℕ, Bool, true, false, List, [], ◌∷◌, length, get_or, Float, Ok, Option, None, Some}
use Rattle.places.specs.Refusals.{Check, no_refusal}
use Rattle.flat.specs.Points.{Point, vertices_of, corners_of, centroid_of, bounds_of, scale_of}
use Rattle.exact.specs.Sides.{closed_of}
use Rattle.cell.specs.Faces.{faces_of}
use Rattle.cut.specs.Cut.{Cut, cut_of, cut_by_place}
use Rattle.volume.specs.Volume.{volume_of, geometric_centroid_of}
use Rattle.inside.specs.Inside.{contains_of, phed_contains_of}
use Rattle.planes.specs.Planes.{PlaneOrNoArea, no_area, has_plane, plane_of, no_area_faces}
use Rattle.planes.specs.declared.Plane as planes
use Rattle.outward.specs.Convexity.{compute_convexity_of}
use Rattle.outward.specs.Outward.{outward_corners}
use Rattle.refusals.specs.Refusals.{cell_refusal, contains_refusal, phed_refusal, faces_refusal, no_area_refusal, triangles_refusal}
use Rattle.geometry.specs.declared.Point3.{Point3}
use Rattle.geometry.specs.declared.Bounds3.{Bounds3}
use Rattle.geometry.specs.declared.CutCounts.{CutCounts}
use Rattle.geometry.specs.declared.Cell.{Cell}
use Rattle.geometry.specs.declared.Convexity.{Convexity}
use Rattle.geometry.specs.declared.Convexity.TheVariants.{Convex, Concave, Unknown}
use Rattle.geometry.specs.declared.Plane.{Plane}
use Rattle.geometry.specs.Answers.{Answer, answered, beside, front, named3, bounds3}

-- volume: |v6| / 6, about the vertex centroid
unfoldable pub volume_answer : List Float → List ℕ → List ℕ → Answer Float
volume_answer coords corners ends =
    answered (cell_refusal coords corners ends) (volume_of (vertices_of coords) (faces_of corners ends))

-- centroid: the vertex centroid
unfoldable pub centroid_answer : List Float → List ℕ → List ℕ → Answer Point3
centroid_answer coords corners ends =
    answered (cell_refusal coords corners ends) (named3 (centroid_of 3 (vertices_of coords)))

-- geometric_centroid: the volume's own centroid
unfoldable pub geometric_centroid_answer : List Float → List ℕ → List ℕ → Answer Point3
geometric_centroid_answer coords corners ends =
    let centroid = geometric_centroid_of (vertices_of coords) (faces_of corners ends) in
    answered (cell_refusal coords corners ends) (named3 centroid)

-- bounds: the box of all vertices
unfoldable pub bounds_answer : List Float → List ℕ → List ℕ → Answer Bounds3
bounds_answer coords corners ends =
    answered (cell_refusal coords corners ends) (bounds3 (bounds_of 3 (vertices_of coords)))

-- scale: the longest side of that box
unfoldable pub scale_answer : List Float → List ℕ → List ℕ → Answer Float
scale_answer coords corners ends =
    answered (cell_refusal coords corners ends) (scale_of (bounds_of 3 (vertices_of coords)))

-- closed: whether for all vertex numbers i ≠ j face sides i to j are as many as j to i
unfoldable pub closed_answer : List Float → List ℕ → List ℕ → Answer Bool
closed_answer coords corners ends = answered (cell_refusal coords corners ends) (closed_of (faces_of corners ends))

-- contains: whether the ray from the point along +x crosses an odd number of faces
unfoldable pub contains_answer : List Float → List ℕ → List ℕ → Point → Answer Bool
contains_answer coords corners ends p =
    answered (contains_refusal coords corners ends p) (contains_of (vertices_of coords) p (faces_of corners ends))

-- point_in_phed: the same over one list in which 4,294,967,295 ends a face
unfoldable pub point_in_phed_answer : List Float → List ℕ → Point → Answer Bool
point_in_phed_answer coords cs p = answered (phed_refusal coords cs p) (phed_contains_of (vertices_of coords) p cs)

-- a cell by value: how many vertices, corners and faces its lists hold, and what is known of its shape
unfoldable pub cell_of : List Float → List ℕ → List ℕ → Convexity → Cell
cell_of coords corners ends shape =
    record { vertices = length (vertices_of coords); corners = length corners; faces = length ends; convexity = shape }

-- describe
unfoldable pub describe_answer : List Float → List ℕ → List ℕ → Convexity → Answer Cell
describe_answer coords corners ends shape =
    answered (cell_refusal coords corners ends) (cell_of coords corners ends shape)

-- whether a cell is convex: what is known of its shape, and where that is unknown, what its faces say
unfoldable pub is_convex_of : Convexity → List Point → List (List ℕ) → Bool
is_convex_of Convex vs faces = true
is_convex_of Concave vs faces = false
is_convex_of Unknown vs faces = compute_convexity_of vs faces

-- is_convex
unfoldable pub is_convex_answer : List Float → List ℕ → List ℕ → Convexity → Answer Bool
is_convex_answer coords corners ends shape =
    answered (cell_refusal coords corners ends) (is_convex_of shape (vertices_of coords) (faces_of corners ends))

-- into_ccw: the answer, and the corner list afterwards, each face turned outward in its own stretch
unfoldable pub into_ccw_answer : List Float → List ℕ → List ℕ → Check × List ℕ
into_ccw_answer coords corners ends =
    let turned = outward_corners (vertices_of coords) (faces_of corners ends) in
    beside (faces_refusal coords corners ends []) (no_refusal, turned) corners

-- the face k of a cell, as its corners' vertex numbers
abbrev pub face_numbered : List ℕ → List ℕ → ℕ → List ℕ
face_numbered corners ends k = get_or (faces_of corners ends) k []

-- a plane as an entry shows it
abbrev pub plane_shown : planes.Plane → Plane
plane_shown p = record { n = p.n; d = p.d }

-- what is told of a face: its plane, or none where it has no area
abbrev pub plane_told : PlaneOrNoArea → Option Plane
plane_told no_area = None
plane_told (has_plane p) = Some (plane_shown p)

-- plane_of_face: a unit normal and an offset, or no area
unfoldable pub plane_of_face_answer : List Float → List ℕ → List ℕ → ℕ → Answer (Option Plane)
plane_of_face_answer coords corners ends k =
    let told = plane_told (plane_of (corners_of (vertices_of coords) (face_numbered corners ends k))) in
    answered (faces_refusal coords corners ends (k ∷ [])) told

-- no_area_faces: the answer, and the list with 1 for each face of no area and 0 for every other at its front
unfoldable pub no_area_faces_answer : List Float → List ℕ → List ℕ → List ℕ → Check × List ℕ
no_area_faces_answer coords corners ends out =
    let flags = no_area_faces (vertices_of coords) (faces_of corners ends) in
    beside (no_area_refusal coords corners ends (length out)) (no_refusal, front flags out) out

-- how many triangles a cut has, and how many tests were made
abbrev pub counts_of : Cut → CutCounts
counts_of cut = record { triangles = length cut.triangles; tests = cut.tests }

-- an entry that cuts the face k of a cell: the counts of the cut, and the list with its triangles at the front; or the refusal
abbrev pub cut_answer : Cut → List Float → List ℕ → List ℕ → ℕ → List (List ℕ) → Answer CutCounts × List (List ℕ)
cut_answer cut coords corners ends k out =
    let refusal = triangles_refusal coords corners ends k (length out) in
    beside refusal (Ok (counts_of cut), front cut.triangles out) out

-- triangles: those of the face k, by vertex number
unfoldable pub triangles_answer : List Float → List ℕ → List ℕ → ℕ → List (List ℕ) → Answer CutCounts × List (List ℕ)
triangles_answer coords corners ends k out =
    cut_answer (cut_of (vertices_of coords) (face_numbered corners ends k)) coords corners ends k out

-- triangle_places: the same by place, each corner of a triangle by its place in the face
unfoldable pub triangle_places_answer : List Float → List ℕ → List ℕ → ℕ → List (List ℕ) → Answer CutCounts × List (List ℕ)
triangle_places_answer coords corners ends k out =
    cut_answer (cut_by_place (vertices_of coords) (face_numbered corners ends k)) coords corners ends k out
