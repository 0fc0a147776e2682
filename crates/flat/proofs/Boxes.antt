-- Boxes of which no coordinate is a NaN, which `widen` asks for: the one from which bounds start, and each that is such a one widened.
use mathlib.Core.Path.{◌≡◌, refl}
use mathlib.Core.Bool.{true, false}
use Prim.Native.Nat.{ℕ, ◌<◌}
use native.Mathlib.Nat.{zero-add}
use mathlib.Core.List.{[], ◌∷◌}
use lib.Ieee.{Float, inf, is_nan}
use lib.ListN.{replicate}
use Rattle.flat.proofs.Coordinates.{coordinate_at, repeated}
use Rattle.floats.proofs.Picks.{least_number, largest_number}
use Rattle.flat.specs.Points.{Point, Box, at, point_by, widen_of, no_box}
use Rattle.flat.specs.Steps.{Numbers}

-- each coordinate of a point is a number if each that it is made of is
made : (D : ℕ) (f : ℕ → Float) → ((k : ℕ) → k < D → is_nan (f k) ≡ false) → (k : ℕ) → k < D → is_nan (at (point_by D f) k) ≡ false
made D f n k h = rw (coordinate_at f D 0 k h, zero-add k) (n k h)

pub numbers_start : (D : ℕ) → Numbers D (no_box D)
unfolding is_nan
numbers_start D = record { low = made D _ (λ k h. refl); high = made D _ (λ k h. refl) }

-- that box as code writes it
pub no_box_made : (D : ℕ) → replicate D (inf false) ∷ replicate D (inf true) ∷ [] ≡ no_box D
no_box_made D = rw (repeated (inf false) D, repeated (inf true) D)

pub numbers_widened : {D : ℕ} {box box' : Box} (p : Point) → Numbers D box → box' ≡ widen_of D p box → Numbers D box'
unfolding widen_of
numbers_widened {D} p n e =
    rw e (record {
      low = made D _ (λ k h. least_number _ _ (n.low k h));
      high = made D _ (λ k h. largest_number _ _ (n.high k h));
    })
