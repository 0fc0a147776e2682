-- What functions below the gatehouse ask of and promise each other; no contract of a public entry speaks of these.
use Rattle.flat.specs.Points.{Point, at, Box}
use Rattle.std.specs.Prelude.{◌≡◌, ℕ, ◌<◌, List, [], false, length, get_or}
use Rattle.std.specs.Float.Ieee.{is_nan}
use Rattle.places.specs.Lists.{Each}

-- every corner of a face is the number of a vertex
abbrev pub Inside : List Point → List ℕ → Type 0
Inside vs face = Each 0 (λ v. v < length vs) face

-- no coordinate of a box is a NaN
pub record Numbers (D : ℕ) (box : Box) : Type 0 where
  pub low : (k : ℕ) → k < D → is_nan (at (get_or box 0 []) k) ≡ false
  pub high : (k : ℕ) → k < D → is_nan (at (get_or box 1 []) k) ≡ false
