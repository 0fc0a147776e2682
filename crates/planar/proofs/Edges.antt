-- The edges of a clip list, one at each of its points: the two points that the loop of `run` reads are the ends of the next edge.
use mathlib.Core.Path.{◌≡◌, sym}
use mathlib.Core.List.{List, []}
use Prim.Native.Nat.{ℕ, ◌<◌}
use lib.ListN.{length, get_or}
use Rattle.places.specs.Ring.{sides, next_of}
use Rattle.places.proofs.Rings.{side_at}
use Rattle.flat.specs.Points.{Point}

-- the edge at place i runs from the point there to the next
pub edge_at : (l : List Point) {a b : Point} {i j n : ℕ} → n ≡ length l → i < length l → a ≡ get_or l i []
    → j ≡ next_of i n → b ≡ get_or l j [] → (a, b) ≡ get_or (sides l) i ([], [])
edge_at l {i = i} m h e g f = rw (e, f, g, m) (sym (side_at l i [] h))
