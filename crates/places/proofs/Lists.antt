-- Lists: one without an element, a shift to the left, a fill, what is written from the front, and what holds at each place, for the loops
-- that change a list in place.
use mathlib.Core.Path.{◌≡◌, refl, sym, ap, ◌∙◌}
use mathlib.Core.List.{List, [], ◌∷◌, ◌++◌, map, append_assoc, append-nil}
use Prim.Native.Nat.{ℕ, zero, suc, ◌+◌, ◌-◌, ◌<◌, ◌≤◌, min}
use native.Mathlib.Nat.{suc-add, not-suc-le-zero, le_of_suc-le-suc}
use native.Mathlib.Omega.{arith}
use native.Mathlib.Numerals.{add-one}
use lib.ListN.{length, get_or, set, take, drop, length-set, length-take, length-drop, drop_of_length-le, replicate, length-replicate}
use lib.Seq.{slice, take_at, length-take-le, take_all, take-suc-set, drop-cons, sets, sets-eq, get_or-take, get_or-drop}
use Rattle.places.proofs.Folding.{fold_from}
use Rattle.places.specs.Lists.{Each, without}
use Rattle.places.specs.Steps.{removed}

-- ---- the list without k
module _ {A : Type 0} where
  pub length_without : (k : ℕ) (l : List A) → k < length l → length (without k l) ≡ length l - 1
  unfolding without
  length_without k [] h = absurd (not-suc-le-zero h)
  length_without zero (x ∷ xs) h = omega arith
  length_without (suc k) (x ∷ xs) h = omega (arith, length_without k xs (le_of_suc-le-suc h), h)

  pub without_is : (k : ℕ) (l : List A) → without k l ≡ take k l ++ drop (suc k) l
  unfolding without
  without_is zero [] = refl
  without_is (suc k) [] = refl
  without_is zero (x ∷ xs) = refl
  without_is (suc k) (x ∷ xs) = ap (λ (r : List A). x ∷ r) (without_is k xs)

  pub map_without : {B : Type 0} (f : A → B) (k : ℕ) (l : List A) → map f (without k l) ≡ without k (map f l)
  unfolding without
  map_without f zero [] = refl
  map_without f (suc k) [] = refl
  map_without f zero (x ∷ xs) = refl
  map_without f (suc k) (x ∷ xs) = ap (λ r. f x ∷ r) (map_without f k xs)

pub take_three : (l : List ℕ) → 3 ≤ length l → take 3 l ≡ get_or l 0 0 ∷ get_or l 1 0 ∷ get_or l 2 0 ∷ []
take_three [] h = absurd (omega arith)
take_three (a ∷ []) h = absurd (omega arith)
take_three (a ∷ b ∷ []) h = absurd (omega arith)
take_three (a ∷ b ∷ c ∷ l) h = refl

-- what stands at a place of a list of what f gives
pub map_at : {A B : Type 0} (f : A → B) (l : List A) (i : ℕ) (d : A) (e : B) → i < length l → get_or (map f l) i e ≡ f (get_or l i d)
map_at f [] i d e h = absurd (not-suc-le-zero h)
map_at f (x ∷ xs) zero d e h = refl
map_at f (x ∷ xs) (suc i) d e h = map_at f xs i d e (le_of_suc-le-suc h)

-- ---- a step of the shift: place j gets what stands at j + 1
abbrev pub shift : {A : Type 0} → A → ℕ → List A → List A
shift d j l = set l j (get_or l (j + 1) d)

module _ {A : Type 0} (d : A) where
  -- a shift that starts after the head keeps the head
  shift_tail : (left j : ℕ) (x : A) (xs : List A) → fold_from (shift d) left (suc j) (x ∷ xs) ≡ x ∷ fold_from (shift d) left j xs
  unfolding fold_from
  shift_tail zero j x xs = refl
  shift_tail (suc left) j x xs = rw (suc-add j 1) (shift_tail left (j + 1) x (shift d j xs))

  shift_head : (x : A) (xs : List A) → fold_from (shift d) (length xs) 0 (x ∷ xs) ≡ xs ++ drop (length xs) (x ∷ xs)
  unfolding fold_from
  shift_head x [] = refl
  shift_head x (y ∷ ys) = shift_tail (length ys) 0 y (y ∷ ys) ∙ ap (λ (r : List A). y ∷ r) (shift_head y ys)

  pub shift_removed : (k : ℕ) (l : List A) → k < length l → fold_from (shift d) (length l - 1 - k) k l ≡ removed k l
  unfolding removed without
  shift_removed k [] h = absurd (not-suc-le-zero h)
  shift_removed zero (x ∷ xs) h =
      let e : suc (length xs) - 1 ≡ length xs = omega arith in
      let g : suc (length xs) - 1 - 0 ≡ length xs = omega arith in
      rw (g, e) (shift_head x xs)
  shift_removed (suc k) (x ∷ xs) h =
      let e : suc (length xs) - 1 - suc k ≡ length xs - 1 - k = omega arith in
      let g : suc (length xs) - 1 ≡ suc (length xs - 1) = omega arith in
      rw (e, g) (shift_tail (length xs - 1 - k) k x xs ∙ ap (λ (r : List A). x ∷ r) (shift_removed k xs (le_of_suc-le-suc h)))

-- the first m are shifted over k: the first m - 1 are those without k
pub take_removed : {A : Type 0} (k m : ℕ) (l : List A) → k < m → m ≤ length l
    → take (m - 1) (removed k (take m l) ++ drop m l) ≡ without k (take m l)
unfolding removed
take_removed k m l h g =
    let e : length (take m l) ≡ m = length-take-le m l g in
    rw append_assoc (take_at (without k (take m l)) _ (m - 1) (omega (arith, length_without k (take m l) (omega arith))))

-- ---- a step of a fill: place i gets what g gives there
abbrev pub fill : {A : Type 0} → (ℕ → A) → ℕ → List A → List A
fill g i l = set l i (g i)

-- what f gives of the element at place i
abbrev pub look : {A B : Type 0} → A → (A → B) → List A → ℕ → B
look d f l i = f (get_or l i d)

module _ {A B : Type 0} (d : A) (f : A → B) (l : List A) where
  fill_from : (left i : ℕ) (to : List B) → i + left ≡ length l → length to ≡ length l
      → fold_from (fill (look d f l)) left i to ≡ take i to ++ map f (drop i l)
  unfolding fold_from
  fill_from zero i to e g = rw (drop_of_length-le l {i = i} (omega arith)) (sym (append-nil (take i to) ∙ take_all i to (omega arith)))
  fill_from (suc left) i to e g =
      let h : i < length to = omega arith in
      fill_from left (i + 1) (set to i (f (get_or l i d))) (omega arith) (rw length-set g)
      ∙ rw (add-one i, take-suc-set to i (f (get_or l i d)) h, append_assoc, drop-cons l i d (omega arith))

  -- a list of the right length, filled with what f gives of l's elements
  pub fill_map : (to : List B) → length to ≡ length l → fold_from (fill (look d f l)) (length l) 0 to ≡ map f l
  fill_map to g = fill_from (length l) 0 to (omega arith) g

module _ {A : Type 0} where
  -- the first n of an array of k times v are n
  pub first_of : (n k : ℕ) (v : A) → n ≤ k → n ≡ length (take n (replicate k v))
  first_of n k v h = sym (length-take-le n (replicate k v) (rw length-replicate h))

  -- ---- what is written from the front
  pub sets_front : (l vs : List A) → length vs ≤ length l → sets l 0 vs ≡ vs ++ drop (length vs) l
  sets_front l vs h =
      let e : 0 + length vs ≡ length vs = omega arith in
      sets-eq vs l 0 (omega arith) ∙ rw e

-- or with l itself
abbrev pub same : {A : Type 0} → A → A
same x = x

map_same : {A : Type 0} (l : List A) → map same l ≡ l
map_same [] = refl
map_same (x ∷ xs) = ap (λ r. x ∷ r) (map_same xs)

pub fill_copy : {A : Type 0} (d : A) (l to : List A) → length to ≡ length l → fold_from (fill (look d same l)) (length l) 0 to ≡ l
fill_copy d l to e = fill_map d same l to e ∙ map_same l

-- ---- what holds at each place, by lists
module _ {A : Type 0} {d : A} {P : A → Type 0} where
  pub each_nil : Each d P []
  each_nil = record { holds = λ k h. absurd (not-suc-le-zero h) }

  pub each_cons : {x : A} {xs : List A} → P x → Each d P xs → Each d P (x ∷ xs)
  each_cons {x} {xs} p e = record { holds = go }
    where
      go : (k : ℕ) → k < suc (length xs) → P (get_or (x ∷ xs) k d)
      go zero h = p
      go (suc k) h = e.holds k (le_of_suc-le-suc h)

  pub each_head : {x : A} {xs : List A} → Each d P (x ∷ xs) → P x
  each_head e = e.holds 0 (omega arith)

  pub each_tail : {x : A} {xs : List A} → Each d P (x ∷ xs) → Each d P xs
  each_tail e = record { holds = λ k h. e.holds (suc k) (omega arith) }

  pub each_append : (xs ys : List A) → Each d P xs → Each d P ys → Each d P (xs ++ ys)
  each_append [] ys p q = q
  each_append (x ∷ xs) ys p q = each_cons (each_head p) (each_append xs ys (each_tail p) q)

  pub each_without : (k : ℕ) (l : List A) → Each d P l → Each d P (without k l)
  unfolding without
  each_without zero [] e = e
  each_without (suc k) [] e = e
  each_without zero (x ∷ xs) e = each_tail e
  each_without (suc k) (x ∷ xs) e = each_cons (each_head e) (each_without k xs (each_tail e))

  -- of a part of a list
  pub each_slice : (s e : ℕ) (l : List A) → Each d P l → Each d P (slice s e l)
  each_slice s e l t = record { holds = go }
    where
      go : (k : ℕ) → k < length (slice s e l) → P (get_or (slice s e l) k d)
      go k h =
          let q : length (slice s e l) ≡ min e (length l) - s = simp (length-drop, length-take) in
          rw (get_or-drop s (take e l) k d, get_or-take e l (s + k) d (omega arith)) (t.holds (s + k) (omega arith))

-- a list of which nothing changes
pub map_still : {A : Type 0} (f : A → A) (d : A) (l : List A) → Each d (λ x. f x ≡ x) l → map f l ≡ l
map_still f d [] e = refl
map_still f d (x ∷ l) e = rw (each_head e, map_still f d l (each_tail e))
