-- What functions below the gatehouse ask of and promise each other; no contract of a public entry speaks of these.
use Rattle.std.specs.Prelude.{◌≡◌, List, ℕ, ◌*◌, Float}
use Rattle.std.proofs.lemmas.List.Edits.{sets}
use Rattle.records.specs.declared.bytes.Rec.{Rec}
use Rattle.records.specs.declared.tally.Tally.{Tally}
use Rattle.records.specs.Tally.{tally_of, new_coords, new_corners, new_ends, new_queries}

-- a record is taken: the next tally, and what it adds is stored behind what the lists hold of the cell
pub record Tallied (t : Tally) (r : Rec) (a : List Float) (b c : List ℕ) (d : List Float)
    (u : Tally) (a' : List Float) (b' c' : List ℕ) (d' : List Float) : Type 0 where
  pub next : u ≡ tally_of t r
  pub coords : a' ≡ sets a (t.verts * 3) (new_coords t r)
  pub corners : b' ≡ sets b t.corners (new_corners t r)
  pub ends : c' ≡ sets c t.faces (new_ends t r)
  pub queries : d' ≡ sets d (t.queries * 3) (new_queries t r)
