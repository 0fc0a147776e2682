-- Cutting one corner off a ring keeps the sum over sides of every weight that changes its sign with the direction.
use mathlib.Core.Path.{◌≡◌, refl, sym, ◌∙◌, ap}
use mathlib.Core.Bool.{Bool, true, false, cond}
use mathlib.Core.List.{List, [], ◌∷◌, ◌++◌, append-nil}
use Prim.Native.Nat.{ℕ, zero, suc, ◌+◌, ◌-◌, ◌<◌, ◌≤◌}
use native.Mathlib.Omega.{arith}
use borrow.Author.Tests.{ltb-true, ltb-false}
use lib.Dec.{ltb}
use lib.ListN.{length, get_or, take, drop, length-append, length-take, length-drop, drop_of_length-le, get_or-append}
use lib.Seq.{split_at, get_or-append-add, get_or-take, get_or-drop}
use lib.IntN.{ℤ, pos, neg_ℤ, ◌+ℤ◌, +ℤ_assoc, +ℤ_idl, +ℤ_idr, +ℤ_comm}
use Rattle.places.specs.Lists.{without}
use Rattle.places.specs.Ring.{walk, sides, prev_of, next_of, ear_of}
use Rattle.places.proofs.Lists.{without_is}
use Rattle.places.proofs.Rings.{prev_suc}
use Rattle.exact.proofs.Poly.{var, con, ◌⊕◌, ⊖, ring}
use Rattle.exact.proofs.Balance.{sum, Anti}

abbrev last : ℕ → List ℕ → ℕ
last a [] = a
last a (b ∷ l) = last b l

last_at : (d : ℕ) (r : List ℕ) → get_or (d ∷ r) (length r) 0 ≡ last d r
last_at d [] = refl
last_at d (e ∷ r) = last_at e r

-- ---- the corners beside a place, found in the ring turned so that the place comes first
rotated : ℕ → List ℕ → List ℕ
rotated n r = drop (suc n) r ++ take n r

length_rotated : (n : ℕ) (r : List ℕ) → n < length r → length (rotated n r) ≡ length r - 1
unfolding rotated
length_rotated n r h = simp (length-append, length-take, length-drop) (omega arith)

place : (r : List ℕ) {i j : ℕ} → i ≡ j → get_or r i 0 ≡ get_or r j 0
place r e = ap (λ x. get_or r x 0) e

after_is : (n : ℕ) (r : List ℕ) → n < length r → 2 ≤ length r → get_or r (next_of n (length r)) 0 ≡ get_or (rotated n r) 0 0
unfolding rotated next_of
after_is n r h g = go (ltb (n + 1) (length r)) refl
  where
    go : (b : Bool) → ltb (n + 1) (length r) ≡ b → get_or r (cond b (n + 1) 0) 0 ≡ get_or (drop (suc n) r ++ take n r) 0 0
    go true e =
        let l : n + 1 < length r = ltb-true (n + 1) (length r) e in
        let o : 0 < length (drop (suc n) r) = simp length-drop (omega arith) in
        rw (get_or-append (drop (suc n) r) (take n r) 0 0 o, get_or-drop) (place r (omega arith))
    go false e =
        let o : length r ≤ suc n = omega (arith, ltb-false (n + 1) (length r) e) in
        let q : 0 < n = omega arith in
        rw (drop_of_length-le r o, get_or-take n r 0 0 q)

before_is : (n : ℕ) (r : List ℕ) → n < length r → 2 ≤ length r → get_or r (prev_of n (length r)) 0 ≡ get_or (rotated n r) (length r - 2) 0
unfolding rotated prev_of
before_is zero r h g = rw (append-nil, get_or-drop) (place r (omega arith))
before_is (suc n) r h g =
    let o : n < suc n = omega arith in
    let d : length r - 2 ≡ length (drop (suc (suc n)) r) + n = simp length-drop (omega arith) in
    rw (prev_suc n (length r), d, get_or-append-add, get_or-take (suc n) r n 0 o)

module _ (w : ℕ → ℕ → ℤ) where
  abbrev opened : ℕ → List ℕ → ℤ
  opened a [] = pos 0
  opened a (b ∷ l) = w a b +ℤ opened b l

  walk_open : (a : ℕ) (l : List ℕ) (z : ℕ) → sum w (walk a l z) ≡ opened a l +ℤ w (last a l) z
  walk_open a [] z = +ℤ_idr (w a z) ∙ sym (+ℤ_idl (w a z))
  walk_open a (b ∷ l) z = rw (walk_open b l z, +ℤ_assoc (w a b))

  walk_append : (a : ℕ) (l : List ℕ) (b : ℕ) (m : List ℕ) (z : ℕ) → sum w (walk a (l ++ b ∷ m) z) ≡ sum w (walk a l b) +ℤ sum w (walk b m z)
  walk_append a [] b m z = rw (+ℤ_idr (w a b))
  walk_append a (c ∷ l) b m z = rw (walk_append c l b m z, +ℤ_assoc (w a c))

  -- a ring may start at any of its corners
  pub sum_rotated : (l m : List ℕ) → sum w (sides (l ++ m)) ≡ sum w (sides (m ++ l))
  sum_rotated [] m = rw append-nil
  sum_rotated (a ∷ l) [] = ap (λ x. sum w (sides (a ∷ x))) (append-nil l)
  sum_rotated (a ∷ l) (b ∷ m) = walk_append a l b m a ∙ +ℤ_comm (sum w (walk a l b)) (sum w (walk b m a)) ∙ sym (walk_append b m a l b)

regroup : (x y z o : ℤ) → (x +ℤ (y +ℤ (neg_ℤ z +ℤ pos 0))) +ℤ (o +ℤ z) ≡ y +ℤ (o +ℤ x)
regroup x y z o = ring (x ∷ y ∷ z ∷ o ∷ []) ((var 0 ⊕ (var 1 ⊕ (⊖ (var 2) ⊕ con (pos 0)))) ⊕ (var 3 ⊕ var 2)) (var 1 ⊕ (var 3 ⊕ var 0)) tt

module _ (w : ℕ → ℕ → ℤ) (anti : Anti w) where
  -- the corner c, which comes first, is cut off
  first : (c d : ℕ) (r : List ℕ) → sum w (sides (last d r ∷ c ∷ d ∷ [])) +ℤ sum w (sides (d ∷ r)) ≡ sum w (sides (c ∷ d ∷ r))
  first c d r = rw (walk_open w d r d, walk_open w d r c, anti d (last d r), regroup)

  around : (c : ℕ) (s : List ℕ) → 1 ≤ length s
      → sum w (sides (get_or s (length s - 1) 0 ∷ c ∷ get_or s 0 0 ∷ [])) +ℤ sum w (sides s) ≡ sum w (sides (c ∷ s))
  around c [] h = absurd (omega arith)
  around c (d ∷ r) h = let e : suc (length r) - 1 ≡ length r = omega arith in rw (e, last_at d r) (first c d r)

  -- the triangle at place n and the ring without n have together the sum of the ring
  pub cut_one : (n : ℕ) (r : List ℕ) → n < length r → 2 ≤ length r
      → sum w (sides (ear_of n r)) +ℤ sum w (sides (without n r)) ≡ sum w (sides r)
  unfolding rotated ear_of
  cut_one n r h g =
      let e : length r - 2 ≡ length (rotated n r) - 1 = omega (arith, length_rotated n r h) in
      let o : 1 ≤ length (rotated n r) = omega (arith, length_rotated n r h) in
      rw (without_is n r, before_is n r h g ∙ place (rotated n r) e, after_is n r h g, sum_rotated w (take n r) (drop (suc n) r))
      (around (get_or r n 0) (rotated n r) o ∙ sym (sum_rotated w (take n r) (get_or r n 0 ∷ drop (suc n) r))
      ∙ sym (ap (λ x. sum w (sides x)) (split_at r n 0 h)))
