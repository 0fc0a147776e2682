-- A point whose coordinates are written one after the other: what `plus`, `over` and `widen` keep true, and what it says at the end.
use mathlib.Core.Path.{◌≡◌, refl, sym, ap, ◌∙◌}
use mathlib.Core.List.{◌∷◌}
use Prim.Native.Nat.{ℕ, zero, suc, ◌+◌, ◌<◌, ◌≤◌}
use native.Mathlib.Nat.{le_of_suc-le-suc, zero-add}
use native.Mathlib.Omega.{arith}
use lib.Ieee.{Float, nan}
use lib.ListN.{length, replicate}
use lib.Seq.{ext_get_or}
use Rattle.flat.specs.Points.{Point, at, coordinates_from, point_by}

-- ---- the coordinates of a point that is made by a function
pub coordinate_at : (f : ℕ → Float) (D i k : ℕ) → k < D → at (coordinates_from f D i) k ≡ f (i + k)
coordinate_at f zero i k h = absurd (omega arith)
coordinate_at f (suc D) i zero h = ap f (omega arith)
coordinate_at f (suc D) i (suc k) h = coordinate_at f D (i + 1) k (le_of_suc-le-suc h) ∙ ap f (omega arith)

coordinates : (f : ℕ → Float) (D i : ℕ) → length (coordinates_from f D i) ≡ D
coordinates f zero i = refl
coordinates f (suc D) i = omega (arith, coordinates f D (i + 1))

-- an array of one number, as code writes it
repeated_from : (x : Float) (D i : ℕ) → replicate D x ≡ coordinates_from (λ k. x) D i
repeated_from x zero i = refl
repeated_from x (suc D) i = ap (λ (r : Point). x ∷ r) (repeated_from x D (i + 1))

pub repeated : (x : Float) (D : ℕ) → replicate D x ≡ point_by D (λ k. x)
repeated x D = repeated_from x D 0

-- ---- the coordinates before i are those of f, and those from i on are as they were at the start
pub record Writing (f : ℕ → Float) (start : Point) (n i : ℕ) (p : Point) : Type 0 where
  pub long : length p ≡ n
  pub written : (k : ℕ) → k < i → at p k ≡ f k
  pub left : (k : ℕ) → i ≤ k → at p k ≡ at start k

module _ {f : ℕ → Float} {start : Point} {n : ℕ} where
  pub write_end : {i : ℕ} {p : Point} → Writing f start n i p → n ≤ i → p ≡ point_by n f
  write_end {i} {p} w h =
      ext_get_or nan p (point_by n f) (w.long ∙ sym (coordinates f n 0))
      (λ k l. w.written k (omega (arith, w.long)) ∙ sym (coordinate_at f n 0 k (omega (arith, w.long)) ∙ ap f (zero-add k)))
