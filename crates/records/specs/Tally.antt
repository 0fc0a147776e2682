-- The running tally: what speaks against a record, what each kind makes of the tally, and what it adds to the cell's lists.
use Rattle.std.specs.Prelude.{ℕ, ◌+◌, ◌≤◌, List, [], ◌∷◌, Bool, true, false, not, ◌&&◌, cond, length, eqb, ltb, Float}
use Rattle.std.specs.Prelude.{None, Some, Ok, Err}
use Rattle.std.specs.Float.{binary64}
use Rattle.std.specs.Float.Ieee.{of_bits}
use Rattle.std.specs.Option.{is_none}
use Rattle.places.specs.declared.refusal.Refusal.{Refusal}
use Rattle.places.specs.declared.refusal.Refusal.TheVariants.{Size, Record}
use Rattle.places.specs.Refusals.{Check, no_refusal}
use Rattle.places.specs.Limits.{most_vertices, most_coordinates, most_faces, most_corners, most_queries}
use Rattle.records.specs.declared.bytes.Rec.{Rec}
use Rattle.records.specs.declared.tally.Tally.{Tally}
use Rattle.records.specs.Bytes.{by_kind}

-- ---- what speaks against a record
-- that it is bad, or that it is one more than there is room for; a bad record comes before no room
unfoldable pub why_of : Bool → Bool → Check
why_of fine room = cond fine (cond room no_refusal (Err Size)) (Err Record)

-- a corner's spare bytes and second and third field are zero, and its number fits 32 bits
unfoldable pub corner_fine : Rec → Bool
corner_fine r = r.clear && (eqb r.b 0 && (eqb r.c 0 && ltb r.a 4294967296))

-- an end's spare bytes and three fields are zero
unfoldable pub end_fine : Rec → Bool
end_fine r = r.clear && (eqb r.a 0 && (eqb r.b 0 && eqb r.c 0))

abbrev pub vertex_why : Tally → Rec → Check
vertex_why t r = why_of r.clear (ltb t.verts most_vertices)

abbrev pub corner_why : Tally → Rec → Check
corner_why t r = why_of (corner_fine r) (ltb t.corners most_corners)

abbrev pub face_end_why : Tally → Rec → Check
face_end_why t r = why_of (end_fine r) (ltb t.faces most_faces)

-- a cell end with an open face is bad
abbrev pub cell_end_why : Tally → Rec → Check
cell_end_why t r = why_of (end_fine r && not t.loose) true

abbrev pub query_why : Tally → Rec → Check
query_why t r = why_of r.clear (ltb t.queries most_queries)

-- ---- the tally
-- before the first record of cell n
abbrev pub new_of : ℕ → Tally
new_of n = record { number = n; verts = 0; corners = 0; faces = 0; queries = 0; loose = false; refusal = None; begun = false }

-- a record is refused: the cell is
abbrev pub refused_of : Tally → Refusal → Tally
refused_of t why =
    record {
      number = t.number;
      verts = t.verts;
      corners = t.corners;
      faces = t.faces;
      queries = t.queries;
      loose = t.loose;
      refusal = Some why;
      begun = true;
    }

-- the next tally, where nothing speaks against the record
abbrev pub unless : Tally → Check → Tally → Tally
unless t (Ok _) next = next
unless t (Err why) next = refused_of t why

-- a count that a record leaves as it is, and one that it raises
abbrev pub same : ℕ → ℕ
same n = n

abbrev pub more : ℕ → ℕ
more n = n + 1

-- a record is taken: what comes of the vertices, the corners, the faces and the query points, and whether a face is open now
abbrev pub counted : Tally → (ℕ → ℕ) → (ℕ → ℕ) → (ℕ → ℕ) → (ℕ → ℕ) → Bool → Tally
counted t verts corners faces queries loose =
    record {
      number = t.number;
      verts = verts t.verts;
      corners = corners t.corners;
      faces = faces t.faces;
      queries = queries t.queries;
      loose = loose;
      refusal = t.refusal;
      begun = true;
    }

-- one vertex more
abbrev pub with_vertex : Tally → Tally
with_vertex t = counted t more same same same t.loose

unfoldable pub vertex_taken : Tally → Rec → Tally
vertex_taken t r = unless t (vertex_why t r) (with_vertex t)

-- one corner more, of a face that is open from now on
abbrev pub with_corner : Tally → Tally
with_corner t = counted t same more same same true

unfoldable pub corner_taken : Tally → Rec → Tally
corner_taken t r = unless t (corner_why t r) (with_corner t)

-- one face more, and none is open
abbrev pub with_face : Tally → Tally
with_face t = counted t same same more same false

unfoldable pub face_end_taken : Tally → Rec → Tally
face_end_taken t r = unless t (face_end_why t r) (with_face t)

-- no more of anything
abbrev pub with_end : Tally → Tally
with_end t = counted t same same same same t.loose

unfoldable pub cell_end_taken : Tally → Rec → Tally
cell_end_taken t r = unless t (cell_end_why t r) (with_end t)

-- one query point more
abbrev pub with_query : Tally → Tally
with_query t = counted t same same same more t.loose

unfoldable pub query_taken : Tally → Rec → Tally
query_taken t r = unless t (query_why t r) (with_query t)

-- ---- what a record adds to the cell's lists, nothing where it is refused
-- the three fields as numbers
abbrev pub fields_of : Rec → List Float
fields_of r = of_bits binary64 r.a ∷ of_bits binary64 r.b ∷ of_bits binary64 r.c ∷ []

-- a list, where nothing speaks against the record
abbrev pub added : {A : Type 0} → Check → List A → List A
added (Ok _) xs = xs
added (Err _) xs = []

-- ---- any record: in a refused cell it is skipped, else its kind says what it is, and every other kind is bad
unfoldable pub tally_of : Tally → Rec → Tally
tally_of t r =
    cond (is_none t.refusal)
    (by_kind r.kind (vertex_taken t r) (corner_taken t r) (face_end_taken t r) (cell_end_taken t r) (query_taken t r)
    (refused_of t Record))
    t

-- to the coordinates a vertex adds its three fields
unfoldable pub new_coords : Tally → Rec → List Float
new_coords t r = cond (is_none t.refusal) (by_kind r.kind (added (vertex_why t r) (fields_of r)) [] [] [] [] []) []

-- to the corners a corner adds its number
unfoldable pub new_corners : Tally → Rec → List ℕ
new_corners t r = cond (is_none t.refusal) (by_kind r.kind [] (added (corner_why t r) (r.a ∷ [])) [] [] [] []) []

-- to the ends a face end adds the count of corners
unfoldable pub new_ends : Tally → Rec → List ℕ
new_ends t r = cond (is_none t.refusal) (by_kind r.kind [] [] (added (face_end_why t r) (t.corners ∷ [])) [] [] []) []

-- to the queries a query point adds its three fields
unfoldable pub new_queries : Tally → Rec → List Float
new_queries t r = cond (is_none t.refusal) (by_kind r.kind [] [] [] [] (added (query_why t r) (fields_of r)) []) []

-- ---- the lists that are lent beside the tally
-- they hold the largest cell
pub record Sized (coords : List Float) (corners ends : List ℕ) (queries : List Float) : Type 0 where
  pub for_coords : most_coordinates ≤ length coords
  pub for_corners : most_corners ≤ length corners
  pub for_ends : most_faces ≤ length ends
  pub for_queries : most_coordinates ≤ length queries

-- the counts are within the limits
pub record Fits (t : Tally) : Type 0 where
  pub few_verts : t.verts ≤ most_vertices
  pub few_corners : t.corners ≤ most_corners
  pub few_faces : t.faces ≤ most_faces
  pub few_queries : t.queries ≤ most_queries
