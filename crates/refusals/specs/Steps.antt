-- What functions below the gatehouse ask of and promise each other; no contract of a public entry speaks of these.
use Rattle.std.specs.Prelude.{Bool, not, ◌||◌, ℕ, ◌/◌, ◌%◌, ltb, eqb}

-- n numbers do not come in parts of `size`, or make over `most` parts
unfoldable pub parts_refused : ℕ → ℕ → ℕ → Bool
parts_refused n size most = not (eqb (n % size) 0) || ltb most (n / size)
