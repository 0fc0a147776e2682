-- The loop of `other_planes`: what was laid down and what is still to be kept of the planes from place i on are together all that are kept.
use mathlib.Core.Path.{◌≡◌, refl}
use mathlib.Core.Bool.{true, false}
use mathlib.Core.List.{List, [], ◌∷◌}
use Prim.Native.Nat.{ℕ, ◌+◌, ◌<◌, ◌≤◌, zero-le}
use native.Mathlib.Omega.{arith}
use lib.ListN.{length, get_or, set, take, drop, drop_of_length-le}
use lib.Ieee.{Float}
use Rattle.places.proofs.Loops.{drop_more}
use Rattle.planes.specs.declared.Plane.{Plane}
use Rattle.planes.specs.Planes.{same_side}
use Rattle.work_lists.proofs.Filling.{Rest, rest_start, rest_more, rest_end, filled_one, filled_read}
use Rattle.overlap.specs.Overlap.{other_planes}

-- of the planes before place i, m were laid down, and with those after it that are kept all are
pub record Sifting (plane : Plane) (tol : Float) (l before : List Plane) (i m : ℕ) (out : List Plane) : Type 0 where
  pub within : i ≤ length l
  pub few : m ≤ i
  pub rest : Rest (other_planes plane tol l) before m (other_planes plane tol (drop i l)) out

module _ {plane : Plane} {tol : Float} {l before : List Plane} where
  pub sift_start : Sifting plane tol l before 0 0 before
  sift_start = record { within = zero-le; few = zero-le; rest = rest_start }

module _ {plane : Plane} {tol : Float} {l before out : List Plane} {i m : ℕ} where
  -- the plane at place i is the face's own
  pub sift_drop : {p : Plane} (d : Plane) → Sifting plane tol l before i m out → i < length l → p ≡ get_or l i d
      → same_side plane p tol ≡ true → Sifting plane tol l before (i + 1) m out
  unfolding other_planes
  sift_drop d s h q e =
      record { within = omega arith; few = omega (arith, s.few); rest = rw (drop_more l i d h, ← q, e) at s.rest }

  -- it is another, and is laid down
  pub sift_keep : {p : Plane} {out' : List Plane} (d : Plane) → Sifting plane tol l before i m out → i < length l → p ≡ get_or l i d
      → same_side plane p tol ≡ false → out' ≡ set out m p → Sifting plane tol l before (i + 1) (m + 1) out'
  unfolding other_planes
  sift_keep {p} {out'} d s h q e g =
      let later = other_planes plane tol (drop (i + 1) l) in
      let more : Rest (other_planes plane tol l) before m (p ∷ later) out = rw (drop_more l i d h, ← q, e) at s.rest in
      record { within = omega arith; few = omega (arith, s.few); rest = rest_more {xs = p ∷ []} more (filled_one refl g) }

  -- at the end they are read back, where the list holds so many
  pub sift_end : Sifting plane tol l before i m out → length l ≤ i → length l ≤ length before
      → (m ≡ length (other_planes plane tol l)) × (take m out ≡ other_planes plane tol l)
  unfolding other_planes
  sift_end s h r =
      let none : Rest (other_planes plane tol l) before m [] out = rw (drop_of_length-le l h) at s.rest in
      (omega (arith, (rest_end none).count), filled_read (rest_end none) (omega (arith, s.few, s.within)))
