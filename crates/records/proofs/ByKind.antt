-- What a record makes of the tally and of the lent lists, by its kind, for the arms of `Tally::take`: the list of its kind takes what it
-- adds, and the others stay; in a refused cell all of them do.
use mathlib.Core.Path.{◌≡◌}
use mathlib.Core.List.{List, [], ◌∷◌}
use Prim.Native.Nat.{ℕ, ◌*◌}
use lib.Seq.{sets}
use lib.Ieee.{Float}
use Rattle.std.specs.Prelude.{None, Some}
use Rattle.records.specs.declared.bytes.Kind.TheVariants.{Vertex, Corner, FaceEnd, CellEnd, Query}
use mathlib.Core.Bool.{true, false}
use Rattle.std.specs.Option.{is_some}
use Rattle.places.specs.declared.refusal.Refusal.TheVariants.{Record}
use Rattle.records.specs.declared.bytes.Rec.{Rec}
use Rattle.records.specs.declared.tally.Tally.{Tally}
use Rattle.records.specs.Tally.{vertex_why, corner_why, face_end_why, query_why, fields_of, added, vertex_taken, corner_taken}
use Rattle.records.specs.Tally.{face_end_taken, cell_end_taken, query_taken, refused_of, tally_of, new_coords, new_corners, new_ends}
use Rattle.records.specs.Tally.{new_queries}
use Rattle.records.specs.Steps.{Tallied}

module _ {t : Tally} {r : Rec} {a : List Float} {b c : List ℕ} {d : List Float} where
  pub skipped : is_some t.refusal ≡ true → Tallied t r a b c d t a b c d
  unfolding tally_of new_coords new_corners new_ends new_queries
  skipped e =
      record { next = simp e; coords = simp e; corners = simp e; ends = simp e; queries = simp e }

  pub by_vertex : {u : Tally} {a' : List Float} → is_some t.refusal ≡ false → r.kind ≡ Some Vertex → u ≡ vertex_taken t r
      → a' ≡ sets a (t.verts * 3) (added (vertex_why t r) (fields_of r)) → Tallied t r a b c d u a' b c d
  unfolding tally_of new_coords new_corners new_ends new_queries
  by_vertex e k n s =
      record { next = simp (e, k) n; coords = simp (e, k) s; corners = simp (e, k); ends = simp (e, k); queries = simp (e, k) }

  pub by_corner : {u : Tally} {b' : List ℕ} → is_some t.refusal ≡ false → r.kind ≡ Some Corner → u ≡ corner_taken t r
      → b' ≡ sets b t.corners (added (corner_why t r) (r.a ∷ [])) → Tallied t r a b c d u a b' c d
  unfolding tally_of new_coords new_corners new_ends new_queries
  by_corner e k n s =
      record { next = simp (e, k) n; coords = simp (e, k); corners = simp (e, k) s; ends = simp (e, k); queries = simp (e, k) }

  pub by_face_end : {u : Tally} {c' : List ℕ} → is_some t.refusal ≡ false → r.kind ≡ Some FaceEnd → u ≡ face_end_taken t r
      → c' ≡ sets c t.faces (added (face_end_why t r) (t.corners ∷ [])) → Tallied t r a b c d u a b c' d
  unfolding tally_of new_coords new_corners new_ends new_queries
  by_face_end e k n s =
      record { next = simp (e, k) n; coords = simp (e, k); corners = simp (e, k); ends = simp (e, k) s; queries = simp (e, k) }

  pub by_cell_end : {u : Tally} → is_some t.refusal ≡ false → r.kind ≡ Some CellEnd → u ≡ cell_end_taken t r → Tallied t r a b c d u a b c d
  unfolding tally_of new_coords new_corners new_ends new_queries
  by_cell_end e k n =
      record { next = simp (e, k) n; coords = simp (e, k); corners = simp (e, k); ends = simp (e, k); queries = simp (e, k) }

  pub by_query : {u : Tally} {d' : List Float} → is_some t.refusal ≡ false → r.kind ≡ Some Query → u ≡ query_taken t r
      → d' ≡ sets d (t.queries * 3) (added (query_why t r) (fields_of r)) → Tallied t r a b c d u a b c d'
  unfolding tally_of new_coords new_corners new_ends new_queries
  by_query e k n s =
      record { next = simp (e, k) n; coords = simp (e, k); corners = simp (e, k); ends = simp (e, k); queries = simp (e, k) s }

  -- every other kind is bad
  pub by_other : {u : Tally} → is_some t.refusal ≡ false → r.kind ≡ None → u ≡ refused_of t Record → Tallied t r a b c d u a b c d
  unfolding tally_of new_coords new_corners new_ends new_queries
  by_other e k n =
      record { next = simp (e, k) n; coords = simp (e, k); corners = simp (e, k); ends = simp (e, k); queries = simp (e, k) }
