-- The places beside a place of a ring are on the ring, since the step from a place to the next adds one or goes home to 0; so one, two or
-- three steps lead away from a place where the ring is longer than that, and a step back undoes one. At each place of `places_below` stands
-- its own number, and the side at a place runs from there to the next.
use mathlib.Core.Path.{◌≡◌, refl, ◌∙◌, ap}
use mathlib.Core.Logic.{◌≢◌}
use mathlib.Core.Bool.{Bool, true, false, cond}
use mathlib.Core.List.{List, [], ◌∷◌, ◌++◌}
use Prim.Native.Nat.{ℕ, zero, suc, ◌+◌, ◌-◌, ◌<◌, ◌≤◌}
use native.Mathlib.Nat.{le_of_suc-le-suc, not-suc-le-zero}
use native.Mathlib.Omega.{arith}
use native.Mathlib.Numerals.{add-one}
use lib.Dec.{eqb, ltb}
use lib.ListN.{length, get_or, get_or-append}
use lib.Seq.{get_or_at}
use borrow.Author.Tests.{ltb-true, ltb-false, eq-eqb, ne_eqb}
use Rattle.places.specs.Ring.{walk, sides, prev_of, next_of, places_from, places_below, ear_of}
use Rattle.places.specs.Lists.{Each}
use Rattle.places.proofs.Lists.{each_nil, each_cons}

pub prev_below : (k n : ℕ) → k < n → prev_of k n < n
unfolding prev_of
prev_below k n h = go (eqb k 0)
  where
    go : (b : Bool) → cond b (n - 1) (k - 1) < n
    go true = omega arith
    go false = omega arith

pub prev_suc : (k n : ℕ) → prev_of (suc k) n ≡ k
unfolding prev_of
prev_suc k n =
    let e : suc k - 1 ≡ k = omega arith in
    rw (ne_eqb (suc k) 0 (λ z. absurd (omega arith)), e)

pub next_below : (k n : ℕ) → k < n → next_of k n < n
unfolding next_of
next_below k n h = go (ltb (k + 1) n) refl
  where
    go : (b : Bool) → ltb (k + 1) n ≡ b → cond b (k + 1) 0 < n
    go true e = omega (arith, ltb-true (k + 1) n e)
    go false e = omega arith

-- ---- from a place to the next
-- the step from i to j, the next place
data Step (n i j : ℕ) : Type 0 where
  more : i + 1 < n → j ≡ i + 1 → Step n i j
  home : i + 1 ≡ n → j ≡ 0 → Step n i j

next_step : (k n : ℕ) → k < n → Step n k (next_of k n)
unfolding next_of
next_step k n h = go (ltb (k + 1) n) refl
  where
    go : (b : Bool) → ltb (k + 1) n ≡ b → Step n k (cond b (k + 1) 0)
    go true e = more (ltb-true (k + 1) n e) refl
    go false e = home (omega (arith, ltb-false (k + 1) n e)) refl

one_step : {n i j : ℕ} → 2 ≤ n → Step n i j → j ≢ i
one_step h (more a b) e = omega arith
one_step h (home a b) e = omega arith

two_steps : {n i j k : ℕ} → 3 ≤ n → Step n i j → Step n j k → k ≢ i
two_steps h (more a b) (more c d) e = omega arith
two_steps h (more a b) (home c d) e = omega arith
two_steps h (home a b) (more c d) e = omega arith
two_steps h (home a b) (home c d) e = omega arith

three_steps : {n i j k l : ℕ} → 4 ≤ n → Step n i j → Step n j k → Step n k l → l ≢ i
three_steps h (more a b) (more c d) (more f g) e = omega arith
three_steps h (more a b) (more c d) (home f g) e = omega arith
three_steps h (more a b) (home c d) (more f g) e = omega arith
three_steps h (more a b) (home c d) (home f g) e = omega arith
three_steps h (home a b) (more c d) (more f g) e = omega arith
three_steps h (home a b) (more c d) (home f g) e = omega arith
three_steps h (home a b) (home c d) s e = omega arith

module _ (k n : ℕ) (l : k < n) where
  -- a place, the one after it and the one after that are different, and in a ring of four or more so is the next after those
  pub next_apart : 2 ≤ n → next_of k n ≢ k
  next_apart h = one_step h (next_step k n l)

  pub next_next : 3 ≤ n → next_of (next_of k n) n ≢ k
  next_next h = two_steps h (next_step k n l) (next_step (next_of k n) n (next_below k n l))

  pub next_thrice : 4 ≤ n → next_of (next_of (next_of k n) n) n ≢ k
  next_thrice h =
      let j = next_of k n in
      let below = next_below k n l in
      three_steps h (next_step k n l) (next_step j n below) (next_step (next_of j n) n (next_below j n below))

pub next_prev : (k n : ℕ) → k < n → next_of (prev_of k n) n ≡ k
unfolding prev_of
next_prev zero n l = go (next_step (n - 1) n (omega arith))
  where
    go : {j : ℕ} → Step n (n - 1) j → j ≡ 0
    go (more a b) = absurd (omega arith)
    go (home a b) = b
next_prev (suc k) n l = rw (prev_suc k n) (go (next_step k n (omega arith)))
  where
    go : {j : ℕ} → Step n k j → j ≡ suc k
    go (more a b) = omega arith
    go (home a b) = absurd (omega arith)

pub prev_next : (k n : ℕ) → k < n → prev_of (next_of k n) n ≡ k
unfolding prev_of
prev_next k n l = go (next_step k n l)
  where
    go : {j : ℕ} → Step n k j → prev_of j n ≡ k
    go {j} (more a b) = rw (ne_eqb j 0 (λ e. omega arith)) (omega arith)
    go {j} (home a b) = rw (eq-eqb j 0 b) (omega arith)

-- ---- corners and places
-- what holds of a ring's corners holds of those of its triangle at k
pub each_ear : {P : ℕ → Type 0} (k : ℕ) (l : List ℕ) → k < length l → Each 0 P l → Each 0 P (ear_of k l)
unfolding ear_of
each_ear k l h e =
    each_cons (e.holds (prev_of k (length l)) (prev_below k (length l) h))
    (each_cons (e.holds k h) (each_cons (e.holds (next_of k (length l)) (next_below k (length l) h)) each_nil))

-- ---- the places in order: there are n, and at each stands its own number
length_from : (left i : ℕ) → length (places_from left i) ≡ left
length_from zero i = refl
length_from (suc left) i = ap suc (length_from left (i + 1))

from_at : (left i k : ℕ) → k < left → get_or (places_from left i) k 0 ≡ i + k
from_at zero i k h = absurd (not-suc-le-zero h)
from_at (suc left) i zero h = omega arith
from_at (suc left) i (suc k) h = from_at left (i + 1) k (le_of_suc-le-suc h) ∙ omega arith

pub length_places : (n : ℕ) → length (places_below n) ≡ n
unfolding places_below
length_places n = length_from n 0

pub place_at : (n k : ℕ) → k < n → get_or (places_below n) k 0 ≡ k
unfolding places_below
place_at n k h = from_at n 0 k h ∙ omega arith

-- all of them are below n
pub places_below_lem : (n : ℕ) → Each 0 (λ k. k < n) (places_below n)
places_below_lem n = record { holds = λ k h. let l : k < n = omega (arith, length_places n) in rw (place_at n k l) l }

-- ---- sides
module _ {A : Type 0} where
  length_walk : (a : A) (l : List A) (z : A) → length (walk a l z) ≡ suc (length l)
  length_walk a [] z = refl
  length_walk a (b ∷ l) z = ap suc (length_walk b l z)

  pub length_sides : (l : List A) → length (sides l) ≡ length l
  length_sides [] = refl
  length_sides (a ∷ l) = length_walk a l a

  walk_at : (a : A) (l : List A) (z : A) (i : ℕ) (d : A) → i ≤ length l
      → get_or (walk a l z) i (d, d) ≡ (get_or (a ∷ l) i d, get_or (l ++ z ∷ []) i d)
  walk_at a [] z zero d h = refl
  walk_at a [] z (suc i) d h = absurd (not-suc-le-zero h)
  walk_at a (b ∷ l) z zero d h = refl
  walk_at a (b ∷ l) z (suc i) d h = walk_at b l z i d (le_of_suc-le-suc h)

  after_at : (a : A) (l : List A) (i : ℕ) (d : A) → i ≤ length l → get_or (l ++ a ∷ []) i d ≡ get_or (a ∷ l) (next_of i (suc (length l))) d
  unfolding next_of
  after_at a l i d h = go (ltb (i + 1) (suc (length l))) refl
    where
      go : (b : Bool) → ltb (i + 1) (suc (length l)) ≡ b → get_or (l ++ a ∷ []) i d ≡ get_or (a ∷ l) (cond b (i + 1) 0) d
      go true e =
          let g : i < length l = omega (arith, ltb-true (i + 1) (suc (length l)) e) in
          rw (add-one i) (get_or-append l (a ∷ []) d i g)
      go false e =
          let g : length l ≡ i = omega (arith, ltb-false (i + 1) (suc (length l)) e) in
          get_or_at l a [] d i g

  -- the side at place i runs from the corner there to the next
  pub side_at : (l : List A) (i : ℕ) (d : A) → i < length l → get_or (sides l) i (d, d) ≡ (get_or l i d, get_or l (next_of i (length l)) d)
  side_at [] i d h = absurd (not-suc-le-zero h)
  side_at (a ∷ l) i d h = walk_at a l a i d (le_of_suc-le-suc h) ∙ ap (λ x. (get_or (a ∷ l) i d, x)) (after_at a l i d (le_of_suc-le-suc h))
