-- From the stored numbers to the points and back: how many there are, the numbers of one, what storing one does, the numbers over, the
-- first points, and a front that was lent and has come back; for those who read and write points by number.
use mathlib.Core.Path.{◌≡◌, refl, ap, ◌∙◌}
use mathlib.Core.List.{List, [], ◌∷◌, ◌++◌}
use Prim.Native.Nat.{ℕ, zero, suc, ◌+◌, ◌*◌, ◌/◌, ◌%◌, ◌<◌}
use native.Mathlib.Omega.{arith}
use lib.ListN.{length, get_or, set, take, drop, length-append, length-set}
use Rattle.std.specs.Simd.{first_chunks}
use Rattle.places.specs.Lists.{Each}
use Rattle.places.specs.Stored.{in_threes, in_pairs, joined}
use Rattle.places.specs.Steps.{over_threes, over_pairs}
use Rattle.places.proofs.Lists.{each_head, each_tail, each_nil, each_cons, each_append}

module _ {A : Type 0} where
  pub length_threes : (l : List A) → length (in_threes l) ≡ length l / 3
  unfolding in_threes
  length_threes [] = refl
  length_threes (a ∷ []) = refl
  length_threes (a ∷ b ∷ []) = refl
  length_threes (a ∷ b ∷ c ∷ l) = omega (arith, length_threes l)

  pub length_pairs : (l : List A) → length (in_pairs l) ≡ length l / 2
  unfolding in_pairs
  length_pairs [] = refl
  length_pairs (a ∷ []) = refl
  length_pairs (a ∷ b ∷ l) = omega (arith, length_pairs l)

  -- the chunks in which std reads a list are its points
  pub threes_chunks : (l : List A) → first_chunks 3 (length l / 3) l ≡ in_threes l
  unfolding in_threes
  threes_chunks [] = refl
  threes_chunks (a ∷ []) = refl
  threes_chunks (a ∷ b ∷ []) = refl
  threes_chunks (a ∷ b ∷ c ∷ l) =
      let one_more : suc (suc (suc (length l))) / 3 ≡ suc (length l / 3) = omega arith in
      rw (one_more, threes_chunks l)

  pub pairs_chunks : (l : List A) → first_chunks 2 (length l / 2) l ≡ in_pairs l
  unfolding in_pairs
  pairs_chunks [] = refl
  pairs_chunks (a ∷ []) = refl
  pairs_chunks (a ∷ b ∷ l) =
      let one_more : suc (suc (length l)) / 2 ≡ suc (length l / 2) = omega arith in
      rw (one_more, pairs_chunks l)

  -- the point at place i has the three numbers from 3 i on, or the two from 2 i on
  pub threes_at : (l : List A) (i : ℕ) (d : A) → i < length l / 3
      → get_or (in_threes l) i [] ≡ get_or l (i * 3) d ∷ get_or l (i * 3 + 1) d ∷ get_or l (i * 3 + 2) d ∷ []
  unfolding in_threes
  threes_at [] i d h = absurd (omega arith)
  threes_at (a ∷ []) i d h = absurd (omega arith)
  threes_at (a ∷ b ∷ []) i d h = absurd (omega arith)
  threes_at (a ∷ b ∷ c ∷ l) zero d h = refl
  threes_at (a ∷ b ∷ c ∷ l) (suc i) d h =
      let e : suc i * 3 ≡ suc (suc (suc (i * 3))) = omega arith in
      let e1 : suc (suc (suc (i * 3))) + 1 ≡ suc (suc (suc (i * 3 + 1))) = omega arith in
      let e2 : suc (suc (suc (i * 3))) + 2 ≡ suc (suc (suc (i * 3 + 2))) = omega arith in
      rw (e, e1, e2) (threes_at l i d (omega arith))

  pub pairs_at : (l : List A) (i : ℕ) (d : A) → i < length l / 2
      → get_or (in_pairs l) i [] ≡ get_or l (i * 2) d ∷ get_or l (i * 2 + 1) d ∷ []
  unfolding in_pairs
  pairs_at [] i d h = absurd (omega arith)
  pairs_at (a ∷ []) i d h = absurd (omega arith)
  pairs_at (a ∷ b ∷ l) zero d h = refl
  pairs_at (a ∷ b ∷ l) (suc i) d h =
      let e : suc i * 2 ≡ suc (suc (i * 2)) = omega arith in
      let e1 : suc (suc (i * 2)) + 1 ≡ suc (suc (i * 2 + 1)) = omega arith in
      rw (e, e1) (pairs_at l i d (omega arith))

  -- where no number is over, the points have all the numbers
  pub joined_threes : (l : List A) → length l % 3 ≡ 0 → joined (in_threes l) ≡ l
  unfolding in_threes joined
  joined_threes [] h = refl
  joined_threes (a ∷ []) h = absurd (omega arith)
  joined_threes (a ∷ b ∷ []) h = absurd (omega arith)
  joined_threes (a ∷ b ∷ c ∷ l) h = ap (λ (r : List A). a ∷ b ∷ c ∷ r) (joined_threes l (omega arith))

  pub joined_pairs : (l : List A) → length l % 2 ≡ 0 → joined (in_pairs l) ≡ l
  unfolding in_pairs joined
  joined_pairs [] h = refl
  joined_pairs (a ∷ []) h = absurd (omega arith)
  joined_pairs (a ∷ b ∷ l) h = ap (λ (r : List A). a ∷ b ∷ r) (joined_pairs l (omega arith))

  -- the points and then the numbers over are the whole list: two lists that have both in common are equal
  pub whole_threes : (l : List A) → l ≡ joined (in_threes l) ++ over_threes l
  unfolding in_threes over_threes joined
  whole_threes [] = refl
  whole_threes (a ∷ []) = refl
  whole_threes (a ∷ b ∷ []) = refl
  whole_threes (a ∷ b ∷ c ∷ l) = ap (λ (r : List A). a ∷ b ∷ c ∷ r) (whole_threes l)

  pub whole_pairs : (l : List A) → l ≡ joined (in_pairs l) ++ over_pairs l
  unfolding in_pairs over_pairs joined
  whole_pairs [] = refl
  whole_pairs (a ∷ []) = refl
  whole_pairs (a ∷ b ∷ l) = ap (λ (r : List A). a ∷ b ∷ r) (whole_pairs l)

  -- storing two numbers from 2 i on is storing a point at i
  pub pairs_set : (l : List A) (i : ℕ) (a b : A) → i < length l / 2
      → in_pairs (set (set l (i * 2) a) (i * 2 + 1) b) ≡ set (in_pairs l) i (a ∷ b ∷ [])
  unfolding in_pairs
  pairs_set [] i a b h = absurd (omega arith)
  pairs_set (x ∷ []) i a b h = absurd (omega arith)
  pairs_set (x ∷ y ∷ l) zero a b h = refl
  pairs_set (x ∷ y ∷ l) (suc i) a b h =
      let e : suc i * 2 ≡ suc (suc (i * 2)) = omega arith in
      let e1 : suc (suc (i * 2)) + 1 ≡ suc (suc (i * 2 + 1)) = omega arith in
      rw (e, e1) (ap (λ (r : List (List A)). (x ∷ y ∷ []) ∷ r) (pairs_set l i a b (omega arith)))

  -- and the number over stays
  pub over_pairs_set : (l : List A) (i : ℕ) (a b : A) → i < length l / 2 → over_pairs (set (set l (i * 2) a) (i * 2 + 1) b) ≡ over_pairs l
  unfolding over_pairs
  over_pairs_set [] i a b h = absurd (omega arith)
  over_pairs_set (x ∷ []) i a b h = absurd (omega arith)
  over_pairs_set (x ∷ y ∷ l) zero a b h = refl
  over_pairs_set (x ∷ y ∷ l) (suc i) a b h =
      let e : suc i * 2 ≡ suc (suc (i * 2)) = omega arith in
      let e1 : suc (suc (i * 2)) + 1 ≡ suc (suc (i * 2 + 1)) = omega arith in
      rw (e, e1) (over_pairs_set l i a b (omega arith))

-- ---- a point laid down, the first points, the front of a list
three_more : (n : ℕ) → suc n * 3 ≡ suc (suc (suc (n * 3)))
three_more n = omega arith

two_more : (n : ℕ) → suc n * 2 ≡ suc (suc (n * 2))
two_more n = omega arith

module _ {A : Type 0} where
  -- a list of two elements, or of three, is what it has at its places
  pub two_of : (p : List A) (d : A) → length p ≡ 2 → get_or p 0 d ∷ get_or p 1 d ∷ [] ≡ p
  two_of [] d h = absurd (omega arith)
  two_of (a ∷ []) d h = absurd (omega arith)
  two_of (a ∷ b ∷ []) d h = refl
  two_of (a ∷ b ∷ c ∷ l) d h = absurd (omega arith)

  pub three_of : (p : List A) (d : A) → length p ≡ 3 → get_or p 0 d ∷ get_or p 1 d ∷ get_or p 2 d ∷ [] ≡ p
  three_of [] d h = absurd (omega arith)
  three_of (a ∷ l) d h = ap (λ (r : List A). a ∷ r) (two_of l d (omega arith))

  -- storing a point's three numbers from 3 i on is storing the point at i
  threes_put : (l : List A) (i : ℕ) (a b c : A) → i < length l / 3
      → in_threes (set (set (set l (i * 3) a) (i * 3 + 1) b) (i * 3 + 2) c) ≡ set (in_threes l) i (a ∷ b ∷ c ∷ [])
  unfolding in_threes
  threes_put [] i a b c h = absurd (omega arith)
  threes_put (x ∷ []) i a b c h = absurd (omega arith)
  threes_put (x ∷ y ∷ []) i a b c h = absurd (omega arith)
  threes_put (x ∷ y ∷ z ∷ l) zero a b c h = refl
  threes_put (x ∷ y ∷ z ∷ l) (suc i) a b c h =
      let e1 : suc (suc (suc (i * 3))) + 1 ≡ suc (suc (suc (i * 3 + 1))) = omega arith in
      let e2 : suc (suc (suc (i * 3))) + 2 ≡ suc (suc (suc (i * 3 + 2))) = omega arith in
      rw (three_more i, e1, e2) (ap (λ (r : List (List A)). (x ∷ y ∷ z ∷ []) ∷ r) (threes_put l i a b c (omega arith)))

  pub threes_set : (l : List A) (i : ℕ) (p : List A) (d : A) → length p ≡ 3 → i < length l / 3
      → in_threes (set (set (set l (i * 3) (get_or p 0 d)) (i * 3 + 1) (get_or p 1 d)) (i * 3 + 2) (get_or p 2 d)) ≡ set (in_threes l) i p
  threes_set l i p d g h = threes_put l i (get_or p 0 d) (get_or p 1 d) (get_or p 2 d) h ∙ ap (set (in_threes l) i) (three_of p d g)

  -- and the numbers over stay
  pub over_threes_set : (l : List A) (i : ℕ) (a b c : A) → i < length l / 3
      → over_threes (set (set (set l (i * 3) a) (i * 3 + 1) b) (i * 3 + 2) c) ≡ over_threes l
  unfolding over_threes
  over_threes_set [] i a b c h = absurd (omega arith)
  over_threes_set (x ∷ []) i a b c h = absurd (omega arith)
  over_threes_set (x ∷ y ∷ []) i a b c h = absurd (omega arith)
  over_threes_set (x ∷ y ∷ z ∷ l) zero a b c h = refl
  over_threes_set (x ∷ y ∷ z ∷ l) (suc i) a b c h =
      let e1 : suc (suc (suc (i * 3))) + 1 ≡ suc (suc (suc (i * 3 + 1))) = omega arith in
      let e2 : suc (suc (suc (i * 3))) + 2 ≡ suc (suc (suc (i * 3 + 2))) = omega arith in
      rw (three_more i, e1, e2) (over_threes_set l i a b c (omega arith))

  -- a point of the plane from its two numbers
  pub pairs_put : (l : List A) (i : ℕ) (p : List A) (d : A) → length p ≡ 2 → i < length l / 2
      → in_pairs (set (set l (i * 2) (get_or p 0 d)) (i * 2 + 1) (get_or p 1 d)) ≡ set (in_pairs l) i p
  pairs_put l i p d g h = pairs_set l i (get_or p 0 d) (get_or p 1 d) h ∙ ap (set (in_pairs l) i) (two_of p d g)

  -- ---- the first n points have the first 3 n numbers, or 2 n, and the others the rest
  pub threes_take : (n : ℕ) (l : List A) → in_threes (take (n * 3) l) ≡ take n (in_threes l)
  unfolding in_threes
  threes_take zero l = refl
  threes_take (suc n) [] = rw (three_more n)
  threes_take (suc n) (a ∷ []) = rw (three_more n)
  threes_take (suc n) (a ∷ b ∷ []) = rw (three_more n)
  threes_take (suc n) (a ∷ b ∷ c ∷ l) = rw (three_more n, threes_take n l)

  pub threes_drop : (n : ℕ) (l : List A) → in_threes (drop (n * 3) l) ≡ drop n (in_threes l)
  unfolding in_threes
  threes_drop zero l = refl
  threes_drop (suc n) [] = rw (three_more n)
  threes_drop (suc n) (a ∷ []) = rw (three_more n)
  threes_drop (suc n) (a ∷ b ∷ []) = rw (three_more n)
  threes_drop (suc n) (a ∷ b ∷ c ∷ l) = rw (three_more n, threes_drop n l)

  pub pairs_take : (n : ℕ) (l : List A) → in_pairs (take (n * 2) l) ≡ take n (in_pairs l)
  unfolding in_pairs
  pairs_take zero l = refl
  pairs_take (suc n) [] = rw (two_more n)
  pairs_take (suc n) (a ∷ []) = rw (two_more n)
  pairs_take (suc n) (a ∷ b ∷ l) = rw (two_more n, pairs_take n l)

  -- ---- the first 3 n numbers were lent, and came back: so did the first n points
  threes_append : (xs ys : List A) → length xs % 3 ≡ 0 → in_threes (xs ++ ys) ≡ in_threes xs ++ in_threes ys
  unfolding in_threes
  threes_append [] ys h = refl
  threes_append (a ∷ []) ys h = absurd (omega arith)
  threes_append (a ∷ b ∷ []) ys h = absurd (omega arith)
  threes_append (a ∷ b ∷ c ∷ xs) ys h = rw (threes_append xs ys (omega arith))

  -- a point of three numbers is read as one
  three_of_three : (p : List A) → length p ≡ 3 → in_threes p ≡ p ∷ []
  unfolding in_threes
  three_of_three [] h = absurd (omega arith)
  three_of_three (a ∷ []) h = absurd (omega arith)
  three_of_three (a ∷ b ∷ []) h = absurd (omega arith)
  three_of_three (a ∷ b ∷ c ∷ []) h = refl
  three_of_three (a ∷ b ∷ c ∷ d ∷ p) h = absurd (omega arith)

  -- what holds of each number of each list holds of all of them one after the other
  pub each_joined : {P : A → Type 0} {d : A} (ps : List (List A)) → Each [] (Each d P) ps → Each d P (joined ps)
  unfolding joined
  each_joined [] e = each_nil
  each_joined (p ∷ ps) e = each_append p (joined ps) (each_head e) (each_joined ps (each_tail e))

  -- and what holds of each number of a list holds of each number of its threes
  pub each_threes : {P : A → Type 0} {d : A} (l : List A) → Each d P l → Each [] (Each d P) (in_threes l)
  unfolding in_threes
  each_threes [] e = each_nil
  each_threes (a ∷ []) e = each_nil
  each_threes (a ∷ b ∷ []) e = each_nil
  each_threes (a ∷ b ∷ c ∷ l) e =
      let after = each_tail e in
      let rest = each_tail after in
      each_cons (each_cons (each_head e) (each_cons (each_head after) (each_cons (each_head rest) each_nil)))
      (each_threes l (each_tail rest))

  -- points of three numbers each, stored one after the other and read again, are the points
  pub threes_joined : (ps : List (List A)) → Each [] (λ p. length p ≡ 3) ps → in_threes (joined ps) ≡ ps
  unfolding in_threes joined
  threes_joined [] e = refl
  threes_joined (p ∷ ps) e =
      let three = three_of_three p (each_head e) in
      rw (threes_append p (joined ps) (omega (arith, each_head e)), three, threes_joined ps (each_tail e))

  pub length_joined : (ps : List (List A)) → Each [] (λ p. length p ≡ 3) ps → length (joined ps) ≡ length ps * 3
  unfolding joined
  length_joined [] e = refl
  length_joined (p ∷ ps) e = omega (arith, length-append p (joined ps), length_joined ps (each_tail e), each_head e)

  pub threes_front : (n : ℕ) (front l : List A) → length front ≡ n * 3
      → in_threes (front ++ drop (n * 3) l) ≡ in_threes front ++ drop n (in_threes l)
  threes_front n front l h = rw (threes_append front (drop (n * 3) l) (omega arith), threes_drop n l)

-- for the functions that lay down a point
pub ruleset threes_written = (length_threes, threes_set, over_threes_set, length-set)

pub ruleset pairs_written = (length_pairs, pairs_put, over_pairs_set, length-set)
