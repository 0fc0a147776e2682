-- The corner after s and the one before it are corners of the same triangle. So the corners of a place, each with the place after it, are
-- the sides that leave the place, and with the place before it those that come to it.
use mathlib.Core.Path.{◌≡◌, refl, ap, ◌∙◌}
use mathlib.Core.Bool.{Bool, true, false, ◌&&◌, cond}
use mathlib.Core.List.{List, [], ◌∷◌, ◌++◌, map}
use Prim.Native.Nat.{ℕ, zero, suc, ◌+◌, ◌-◌, ◌*◌, ◌/◌, ◌%◌, ◌<◌, ◌≤◌}
use native.Mathlib.Omega.{arith}
use lib.Dec.{eqb}
use lib.ListN.{length, get_or, take}
use lib.Seq.{take-suc, take_all}
use borrow.Author.Tests.{eqb-true, eqb-false, eq-eqb, ne_eqb}
use Rattle.places.specs.Loops.{one_if, count_of}
use Rattle.places.specs.Ring.{sides}
use Rattle.places.specs.Stored.{in_threes}
use Rattle.places.proofs.Stored.{length_threes, threes_at}
use Rattle.exact.specs.Sides.{count, runs}
use Rattle.exact.proofs.Balance.{and_comm}
use Rattle.exact.proofs.Reversed.{runs_none, runs_last}
use Rattle.cut_check.specs.Steps.{after_of, before_of, place_after, place_before, corners_at, times, CheckedCorners}

-- ---- neighbours in a triangle
pub after_below : (s m : ℕ) → s < m → m % 3 ≡ 0 → after_of s < m
after_below s m h e = go (eqb (s % 3) 2) refl
  where
    go : (b : Bool) → eqb (s % 3) 2 ≡ b → cond b (s - 2) (s + 1) < m
    go true q = omega arith
    go false q = let n : s % 3 ≡ 2 → ⊥ = eqb-false (s % 3) 2 q in omega arith

pub before_below : (s m : ℕ) → s < m → m % 3 ≡ 0 → before_of s < m
before_below s m h e = go (eqb (s % 3) 0) refl
  where
    go : (b : Bool) → eqb (s % 3) 0 ≡ b → cond b (s + 2) (s - 1) < m
    go true q = let p : s % 3 ≡ 0 = eqb-true (s % 3) 0 q in omega arith
    go false q = omega arith

-- what stands at a corner, at the one after it and at the one before it is a place of the face
pub place_below : {n a s : ℕ} {c : List ℕ} → CheckedCorners n c → s < length c → a ≡ get_or c s 0 → a < n
place_below {n} {a} {s} {c} k h e = rw e (k.below.holds s h)

pub after_place : {n b : ℕ} {c : List ℕ} (s : ℕ) → CheckedCorners n c → s < length c → b ≡ place_after c s → b < n
after_place {n} {b} {c} s k h e = place_below k (after_below s (length c) h k.threes) e

pub before_place : {n b : ℕ} {c : List ℕ} (s : ℕ) → CheckedCorners n c → s < length c → b ≡ place_before c s → b < n
before_place {n} {b} {c} s k h e = place_below k (before_below s (length c) h k.threes) e

-- the corner after each of the three corners of the triangle k, and the one before it
after_first : (k : ℕ) → after_of (k * 3) ≡ k * 3 + 1
after_first k = rw (ne_eqb (k * 3 % 3) 2 (λ e. absurd (omega arith)))

after_second : (k : ℕ) → after_of (suc (k * 3)) ≡ k * 3 + 2
after_second k = rw (ne_eqb (suc (k * 3) % 3) 2 (λ e. absurd (omega arith))) (omega arith)

after_third : (k : ℕ) → after_of (suc (suc (k * 3))) ≡ k * 3
after_third k = rw (eq-eqb (suc (suc (k * 3)) % 3) 2 (omega arith)) (omega arith)

before_first : (k : ℕ) → before_of (k * 3) ≡ k * 3 + 2
before_first k = rw (eq-eqb (k * 3 % 3) 0 (omega arith))

before_second : (k : ℕ) → before_of (suc (k * 3)) ≡ k * 3
before_second k = rw (ne_eqb (suc (k * 3) % 3) 0 (λ e. absurd (omega arith))) (omega arith)

before_third : (k : ℕ) → before_of (suc (suc (k * 3))) ≡ k * 3 + 1
before_third k = rw (ne_eqb (suc (suc (k * 3)) % 3) 0 (λ e. absurd (omega arith))) (omega arith)

-- ---- how often a place stands in a list
times_append : (b : ℕ) (xs ys : List ℕ) → times b (xs ++ ys) ≡ times b xs + times b ys
unfolding count_of
times_append b [] ys = omega arith
times_append b (x ∷ xs) ys = omega (arith, times_append b xs ys)

pub times_last : (b : ℕ) (xs : List ℕ) (y : ℕ) → times b (xs ++ y ∷ []) ≡ times b xs + one_if (eqb y b)
unfolding count_of
times_last b xs y = omega (arith, times_append b xs (y ∷ []))

-- one more corner counts where it is at the place i
times_more : (f : ℕ → ℕ) (i j : ℕ) (c : List ℕ) (s : ℕ)
    → times j (map f (corners_at i c (suc s))) ≡ one_if (eqb (get_or c s 0) i && eqb (f s) j) + times j (map f (corners_at i c s))
unfolding count_of corners_at
times_more f i j c s = go (eqb (get_or c s 0) i)
  where
    go : (b : Bool) → times j (map f (cond b (s ∷ corners_at i c s) (corners_at i c s)))
        ≡ one_if (b && eqb (f s) j) + times j (map f (corners_at i c s))
    go true = refl
    go false = omega arith

-- ---- the sides of the first k triangles
-- one triangle more has the sides of its three corners
runs_three : (c : List ℕ) (i j k : ℕ) → k < length c / 3
    → runs i j (take (suc k) (in_threes c)) ≡ runs i j (take k (in_threes c))
    + count i j (sides (get_or c (k * 3) 0 ∷ get_or c (k * 3 + 1) 0 ∷ get_or c (k * 3 + 2) 0 ∷ []))
runs_three c i j k h =
    rw (take-suc (in_threes c) k [] (omega (arith, length_threes c)), threes_at c k 0 h)
    (runs_last i j (take k (in_threes c)) (get_or c (k * 3) 0 ∷ get_or c (k * 3 + 1) 0 ∷ get_or c (k * 3 + 2) 0 ∷ []))

module _ (c : List ℕ) (i j : ℕ) where
  times_three : (f : ℕ → ℕ) (k : ℕ)
      → times j (map f (corners_at i c (suc k * 3)))
      ≡ one_if (eqb (get_or c (k * 3 + 2) 0) i && eqb (f (suc (suc (k * 3)))) j)
      + (one_if (eqb (get_or c (k * 3 + 1) 0) i && eqb (f (suc (k * 3))) j)
      + (one_if (eqb (get_or c (k * 3) 0) i && eqb (f (k * 3)) j) + times j (map f (corners_at i c (k * 3)))))
  times_three f k =
      let e : suc k * 3 ≡ suc (suc (suc (k * 3))) = omega arith in
      let e1 : k * 3 + 1 ≡ suc (k * 3) = omega arith in
      let e2 : k * 3 + 2 ≡ suc (suc (k * 3)) = omega arith in
      rw (e, e1, e2)
      (times_more f i j c (suc (suc (k * 3)))
      ∙ ap (λ x. one_if (eqb (get_or c (suc (suc (k * 3))) 0) i && eqb (f (suc (suc (k * 3)))) j) + x)
      (times_more f i j c (suc (k * 3))
      ∙ ap (λ x. one_if (eqb (get_or c (suc (k * 3)) 0) i && eqb (f (suc (k * 3))) j) + x) (times_more f i j c (k * 3))))

  runs_leaving : (k : ℕ) → k ≤ length c / 3 → runs i j (take k (in_threes c)) ≡ times j (map (place_after c) (corners_at i c (k * 3)))
  unfolding corners_at count_of
  runs_leaving zero h = runs_none i j
  runs_leaving (suc k) h =
      let three : times j (map (place_after c) (corners_at i c (suc k * 3)))
      ≡ one_if (eqb (get_or c (k * 3 + 2) 0) i && eqb (get_or c (k * 3) 0) j)
      + (one_if (eqb (get_or c (k * 3 + 1) 0) i && eqb (get_or c (k * 3 + 2) 0) j)
      + (one_if (eqb (get_or c (k * 3) 0) i && eqb (get_or c (k * 3 + 1) 0) j) + times j (map (place_after c) (corners_at i c (k * 3)))))
      = rw (after_first k, after_second k, after_third k) at (times_three (place_after c) k) in
      omega (arith, three, runs_three c i j k h, runs_leaving k (omega arith))

  runs_coming : (k : ℕ) → k ≤ length c / 3 → runs j i (take k (in_threes c)) ≡ times j (map (place_before c) (corners_at i c (k * 3)))
  unfolding corners_at count_of
  runs_coming zero h = runs_none j i
  runs_coming (suc k) h =
      let x = get_or c (k * 3) 0 in
      let y = get_or c (k * 3 + 1) 0 in
      let z = get_or c (k * 3 + 2) 0 in
      let three : times j (map (place_before c) (corners_at i c (suc k * 3)))
      ≡ one_if (eqb y j && eqb z i) + (one_if (eqb x j && eqb y i)
      + (one_if (eqb z j && eqb x i) + times j (map (place_before c) (corners_at i c (k * 3)))))
      = rw (
        before_first k,
        before_second k,
        before_third k,
        and_comm (eqb z i) (eqb y j),
        and_comm (eqb y i) (eqb x j),
        and_comm (eqb x i) (eqb z j),
      ) at (times_three (place_before c) k) in
      omega (arith, three, runs_three c j i k h, runs_coming k (omega arith))

pub runs_after : (c : List ℕ) (i j : ℕ) → length c % 3 ≡ 0
    → runs i j (in_threes c) ≡ times j (map (place_after c) (corners_at i c (length c)))
runs_after c i j h =
    let e : length c / 3 * 3 ≡ length c = omega arith in
    rw (take_all (length c / 3) (in_threes c) (omega (arith, length_threes c)), e) at (runs_leaving c i j (length c / 3) (omega arith))

pub runs_before : (c : List ℕ) (i j : ℕ) → length c % 3 ≡ 0
    → runs j i (in_threes c) ≡ times j (map (place_before c) (corners_at i c (length c)))
runs_before c i j h =
    let e : length c / 3 * 3 ≡ length c = omega arith in
    rw (take_all (length c / 3) (in_threes c) (omega (arith, length_threes c)), e) at (runs_coming c i j (length c / 3) (omega arith))
