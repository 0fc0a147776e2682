-- What functions below the gatehouse ask of and promise each other; no contract of a public entry speaks of these.
use Rattle.std.specs.Prelude.{ℕ, ◌<◌, ◌≢◌, List, length}
use Rattle.inside.specs.Inside.{face_end}
use Rattle.places.specs.Lists.{Each}
use Rattle.flat.specs.Points.{Point}

-- every entry that is no mark is the number of a vertex
abbrev pub MarkedInside : List Point → List ℕ → Type 0
MarkedInside vs cs = Each 0 (λ c. c ≢ face_end → c < length vs) cs
