-- The counts grow with what a record adds and keep within the limits, whatever its kind (`tally_follows`): so what the lists hold of the
-- cell is what the tally counts.
use mathlib.Core.Path.{◌≡◌, refl}
use mathlib.Core.Bool.{Bool, true, false, cond}
use mathlib.Core.List.{List, [], ◌∷◌}
use Prim.Native.Nat.{ℕ, ◌+◌, ◌*◌}
use native.Mathlib.Omega.{arith}
use lib.ListN.{length}
use lib.Ieee.{Float}
use Rattle.std.specs.Prelude.{Option, None, Some, Ok, Err}
use Rattle.std.specs.Option.{is_none}
use Rattle.places.specs.declared.refusal.Refusal.{Refusal}
use Rattle.places.specs.declared.refusal.Refusal.TheVariants.{Record}
use Rattle.places.specs.Refusals.{Check, no_refusal}
use Rattle.records.specs.declared.bytes.Kind.{Kind}
use Rattle.records.specs.declared.bytes.Kind.TheVariants.{Vertex, Corner, FaceEnd, CellEnd, Query}
use Rattle.records.specs.declared.bytes.Rec.{Rec}
use Rattle.records.specs.Bytes.{by_kind}
use Rattle.records.specs.declared.tally.Tally.{Tally}
use Rattle.records.specs.Tally.{vertex_why, corner_why, face_end_why, cell_end_why, query_why, corner_fine, end_fine, fields_of, added}
use Rattle.records.specs.Tally.{vertex_taken, corner_taken, face_end_taken, cell_end_taken, query_taken, refused_of, tally_of, unless}
use Rattle.records.specs.Tally.{with_vertex, with_corner, with_face, with_end, with_query, Fits, new_coords, new_corners, new_ends}
use Rattle.records.specs.Tally.{new_queries}
use Rattle.records.proofs.Tests.{why_room}

-- the tally u follows t, where the lists a, b, c and d are added
pub record Follows (t : Tally) (a : List Float) (b c : List ℕ) (d : List Float) (u : Tally) : Type 0 where
  pub number : u.number ≡ t.number
  pub verts : u.verts * 3 ≡ t.verts * 3 + length a
  pub corners : u.corners ≡ t.corners + length b
  pub faces : u.faces ≡ t.faces + length c
  pub queries : u.queries * 3 ≡ t.queries * 3 + length d
  pub fits : Fits u

nothing : {A : Type 0} (w : Check) → ◌≡◌ {A = List A} (added w []) []
nothing (Ok _) = refl
nothing (Err _) = refl

module _ (t : Tally) (r : Rec) (f : Fits t) where
  none : Follows t [] [] [] [] t
  none = record { number = refl; verts = omega arith; corners = omega arith; faces = omega arith; queries = omega arith; fits = f }

  refused : (w : Refusal) → Follows t [] [] [] [] (refused_of t w)
  refused w =
      record {
        number = refl;
        verts = omega arith;
        corners = omega arith;
        faces = omega arith;
        queries = omega arith;
        fits = record { few_verts = f.few_verts; few_corners = f.few_corners; few_faces = f.few_faces; few_queries = f.few_queries };
      }

  -- where nothing speaks against the record, what it adds; else the tally is refused
  settled : (w : Check) (x : List Float) (y z : List ℕ) (v : List Float) (n : Tally) → (w ≡ no_refusal → Follows t x y z v n)
      → Follows t (added w x) (added w y) (added w z) (added w v) (unless t w n)
  settled (Ok _) x y z v n h = h refl
  settled (Err why) x y z v n h = refused why

  vertex : Follows t (added (vertex_why t r) (fields_of r)) [] [] [] (vertex_taken t r)
  unfolding vertex_taken
  vertex =
      let w = vertex_why t r in
      rw (nothing {A = ℕ} w, nothing {A = Float} w) at (settled w (fields_of r) [] [] [] (with_vertex t) (λ e.
      let n = why_room r.clear t.verts 256 e in
      record {
        number = refl;
        verts = omega arith;
        corners = omega arith;
        faces = omega arith;
        queries = omega arith;
        fits = record { few_verts = omega arith; few_corners = f.few_corners; few_faces = f.few_faces; few_queries = f.few_queries };
      }))

  query : Follows t [] [] [] (added (query_why t r) (fields_of r)) (query_taken t r)
  unfolding query_taken
  query =
      let w = query_why t r in
      rw (nothing {A = ℕ} w, nothing {A = Float} w) at (settled w [] [] [] (fields_of r) (with_query t) (λ e.
      let n = why_room r.clear t.queries 256 e in
      record {
        number = refl;
        verts = omega arith;
        corners = omega arith;
        faces = omega arith;
        queries = omega arith;
        fits = record { few_verts = f.few_verts; few_corners = f.few_corners; few_faces = f.few_faces; few_queries = omega arith };
      }))

  corner : Follows t [] (added (corner_why t r) (r.a ∷ [])) [] [] (corner_taken t r)
  unfolding corner_taken
  corner =
      let w = corner_why t r in
      rw (nothing {A = ℕ} w, nothing {A = Float} w) at (settled w [] (r.a ∷ []) [] [] (with_corner t) (λ e.
      let n = why_room (corner_fine r) t.corners 2048 e in
      record {
        number = refl;
        verts = omega arith;
        corners = omega arith;
        faces = omega arith;
        queries = omega arith;
        fits = record { few_verts = f.few_verts; few_corners = omega arith; few_faces = f.few_faces; few_queries = f.few_queries };
      }))

  face_end_lem : Follows t [] [] (added (face_end_why t r) (t.corners ∷ [])) [] (face_end_taken t r)
  unfolding face_end_taken
  face_end_lem =
      let w = face_end_why t r in
      rw (nothing {A = ℕ} w, nothing {A = Float} w) at (settled w [] [] (t.corners ∷ []) [] (with_face t) (λ e.
      let n = why_room (end_fine r) t.faces 256 e in
      record {
        number = refl;
        verts = omega arith;
        corners = omega arith;
        faces = omega arith;
        queries = omega arith;
        fits = record { few_verts = f.few_verts; few_corners = f.few_corners; few_faces = omega arith; few_queries = f.few_queries };
      }))

  cell_end : Follows t [] [] [] [] (cell_end_taken t r)
  unfolding cell_end_taken
  cell_end =
      let w = cell_end_why t r in
      rw (nothing {A = ℕ} w, nothing {A = Float} w) at (settled w [] [] [] [] (with_end t) (λ e.
      record {
        number = refl;
        verts = omega arith;
        corners = omega arith;
        faces = omega arith;
        queries = omega arith;
        fits = record { few_verts = f.few_verts; few_corners = f.few_corners; few_faces = f.few_faces; few_queries = f.few_queries };
      }))

  kinds : (k : Option Kind)
      → Follows t (by_kind k (added (vertex_why t r) (fields_of r)) [] [] [] [] [])
      (by_kind k [] (added (corner_why t r) (r.a ∷ [])) [] [] [] [])
      (by_kind k [] [] (added (face_end_why t r) (t.corners ∷ [])) [] [] [])
      (by_kind k [] [] [] [] (added (query_why t r) (fields_of r)) [])
      (by_kind k (vertex_taken t r) (corner_taken t r) (face_end_taken t r) (cell_end_taken t r) (query_taken t r) (refused_of t Record))
  kinds (Some Vertex) = vertex
  kinds (Some Corner) = corner
  kinds (Some FaceEnd) = face_end_lem
  kinds (Some CellEnd) = cell_end
  kinds (Some Query) = query
  kinds None = refused Record

  -- a refused cell stays as it is
  pub tally_follows : Follows t (new_coords t r) (new_corners t r) (new_ends t r) (new_queries t r) (tally_of t r)
  unfolding new_coords new_corners new_ends new_queries tally_of
  tally_follows = go (is_none t.refusal)
    where
      go : (b : Bool)
          → Follows t (cond b (by_kind r.kind (added (vertex_why t r) (fields_of r)) [] [] [] [] []) [])
          (cond b (by_kind r.kind [] (added (corner_why t r) (r.a ∷ [])) [] [] [] []) [])
          (cond b (by_kind r.kind [] [] (added (face_end_why t r) (t.corners ∷ [])) [] [] []) [])
          (cond b (by_kind r.kind [] [] [] [] (added (query_why t r) (fields_of r)) []) [])
          (cond b (by_kind r.kind (vertex_taken t r) (corner_taken t r) (face_end_taken t r) (cell_end_taken t r) (query_taken t r)
          (refused_of t Record)) t)
      go true = kinds r.kind
      go false = none
