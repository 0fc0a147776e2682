-- Planes as they are stored, in fours: how many there are, the numbers of the plane at a place, what storing a plane's numbers does, and
-- the first planes, for those who read and write them by number.
use mathlib.Core.Path.{◌≡◌, refl, ap, ◌∙◌}
use mathlib.Core.List.{List, [], ◌∷◌}
use Prim.Native.Nat.{ℕ, zero, suc, ◌+◌, ◌*◌, ◌/◌, ◌<◌}
use native.Mathlib.Omega.{arith}
use lib.ListN.{length, get_or, set, take}
use lib.Ieee.{Float}
use Rattle.flat.specs.Points.{at}
use Rattle.planes.specs.declared.Plane.{Plane}
use Rattle.planes.specs.Planes.{in_fours}
use Rattle.planes.specs.Steps.{no_plane}

-- the plane of four numbers, normal first
abbrev of_four : Float → Float → Float → Float → Plane
of_four a b c d = record { n = a ∷ b ∷ c ∷ []; d = d }

pub length_fours : (l : List Float) → length (in_fours l) ≡ length l / 4
unfolding in_fours
length_fours [] = refl
length_fours (a ∷ []) = refl
length_fours (a ∷ b ∷ []) = refl
length_fours (a ∷ b ∷ c ∷ []) = refl
length_fours (a ∷ b ∷ c ∷ d ∷ l) = omega (arith, length_fours l)

-- the numbers of one plane more are four more
next_four : (i : ℕ) → suc i * 4 ≡ suc (suc (suc (suc (i * 4))))
next_four i = omega arith

four_next : (n : ℕ) → 4 * suc n ≡ suc (suc (suc (suc (4 * n))))
four_next n = omega arith

past_four : (m j : ℕ) → suc (suc (suc (suc m))) + j ≡ suc (suc (suc (suc (m + j))))
past_four m j = omega arith

-- the plane at place i has the four numbers from 4 i on
pub fours_at : (l : List Float) (i : ℕ) (d : Float) → i < length l / 4
    → get_or (in_fours l) i no_plane
    ≡ of_four (get_or l (i * 4) d) (get_or l (i * 4 + 1) d) (get_or l (i * 4 + 2) d) (get_or l (i * 4 + 3) d)
unfolding in_fours
fours_at [] i d h = absurd (omega arith)
fours_at (a ∷ []) i d h = absurd (omega arith)
fours_at (a ∷ b ∷ []) i d h = absurd (omega arith)
fours_at (a ∷ b ∷ c ∷ []) i d h = absurd (omega arith)
fours_at (a ∷ b ∷ c ∷ e ∷ l) zero d h = refl
fours_at (a ∷ b ∷ c ∷ e ∷ l) (suc i) d h =
    rw (next_four i, past_four (i * 4) 1, past_four (i * 4) 2, past_four (i * 4) 3) (fours_at l i d (omega arith))

-- storing four numbers from 4 i on is storing the plane of them at i
four_set : (l : List Float) (i : ℕ) (a b c d : Float) → i < length l / 4
    → in_fours (set (set (set (set l (i * 4) a) (i * 4 + 1) b) (i * 4 + 2) c) (i * 4 + 3) d) ≡ set (in_fours l) i (of_four a b c d)
unfolding in_fours
four_set [] i a b c d h = absurd (omega arith)
four_set (x ∷ []) i a b c d h = absurd (omega arith)
four_set (x ∷ y ∷ []) i a b c d h = absurd (omega arith)
four_set (x ∷ y ∷ z ∷ []) i a b c d h = absurd (omega arith)
four_set (x ∷ y ∷ z ∷ w ∷ l) zero a b c d h = refl
four_set (x ∷ y ∷ z ∷ w ∷ l) (suc i) a b c d h =
    rw (next_four i, past_four (i * 4) 1, past_four (i * 4) 2, past_four (i * 4) 3)
    (ap (λ (r : List Plane). of_four x y z w ∷ r) (four_set l i a b c d (omega arith)))

-- a normal is its three parts
three_parts : (n : List Float) → length n ≡ 3 → at n 0 ∷ at n 1 ∷ at n 2 ∷ [] ≡ n
three_parts [] h = absurd (omega arith)
three_parts (a ∷ []) h = absurd (omega arith)
three_parts (a ∷ b ∷ []) h = absurd (omega arith)
three_parts (a ∷ b ∷ c ∷ []) h = refl
three_parts (a ∷ b ∷ c ∷ d ∷ n) h = absurd (omega arith)

-- storing the four numbers of a plane from 4 i on is storing it at i
pub fours_set : (l : List Float) (i : ℕ) (plane : Plane) → length plane.n ≡ 3 → i < length l / 4
    → let normal = plane.n in
    in_fours (set (set (set (set l (i * 4) (at normal 0)) (i * 4 + 1) (at normal 1)) (i * 4 + 2) (at normal 2)) (i * 4 + 3) plane.d)
    ≡ set (in_fours l) i plane
fours_set l i plane e h =
    four_set l i (at plane.n 0) (at plane.n 1) (at plane.n 2) plane.d h
    ∙ ap (λ (n : List Float). set (in_fours l) i (record { n = n; d = plane.d })) (three_parts plane.n e)

-- ---- a front of a stored list
-- the first 4 n numbers are the first n planes
pub take_fours : (n : ℕ) (l : List Float) → in_fours (take (4 * n) l) ≡ take n (in_fours l)
unfolding in_fours
take_fours zero l = refl
take_fours (suc n) [] = rw (four_next n)
take_fours (suc n) (a ∷ []) = rw (four_next n)
take_fours (suc n) (a ∷ b ∷ []) = rw (four_next n)
take_fours (suc n) (a ∷ b ∷ c ∷ []) = rw (four_next n)
take_fours (suc n) (a ∷ b ∷ c ∷ d ∷ l) = rw (four_next n) (ap (λ (r : List Plane). of_four a b c d ∷ r) (take_fours n l))
