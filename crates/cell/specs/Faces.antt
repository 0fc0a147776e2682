-- The faces of a cell: its corners, cut at the ends.
use Rattle.std.specs.Prelude.{Bool, ◌&&◌, List, [], ◌∷◌, ℕ, leb, eqb}
use Rattle.std.proofs.Math.Seq.{slice}

-- the faces from the corner p on: each runs up to its own end, and the next starts there
abbrev pub faces_from : ℕ → List ℕ → List ℕ → List (List ℕ)
faces_from p corners [] = []
faces_from p corners (e ∷ es) = slice p e corners ∷ faces_from e corners es

-- face k runs from the previous end, 0 for the first, up to its own end
unfoldable pub faces_of : List ℕ → List ℕ → List (List ℕ)
faces_of corners ends = faces_from 0 corners ends

-- the ends do not fall, the first is at least p, and the last is n
abbrev pub rises : ℕ → List ℕ → ℕ → Bool
rises p [] n = eqb p n
rises p (e ∷ es) n = leb p e && rises e es n
