-- A loop that stores an element at each place of a lent list makes the list of what it stores, the places of a face in order among them;
-- and what comes after a place, moved one place left, leaves the list without that place. Then the lists that a face is cut in: the first
-- places of two arrays.
use mathlib.Core.Path.{◌≡◌, refl, sym, ◌∙◌}
use mathlib.Core.Bool.{Bool, true, false}
use mathlib.Core.List.{List, [], ◌∷◌, map}
use Prim.Native.Nat.{ℕ, ◌+◌, ◌-◌, ◌*◌, ◌<◌, ◌≤◌}
use native.Mathlib.Omega.{arith}
use native.Mathlib.Numerals.{add-one}
use borrow.Author.Tests.{eqb-true, eqb-false}
use lib.Dec.{eqb}
use lib.ListN.{length, get_or, set, take, drop, replicate, length-map, length-drop, length-set}
use lib.Seq.{get_or-set_same, get_or-set_other, take_all, ext_get_or}
use Rattle.std.specs.List.{copy_within}
use Rattle.places.specs.Steps.{removed}
use Rattle.places.specs.Ring.{places_below}
use Rattle.places.proofs.Folding.{Folding, fold_next, fold_end}
use Rattle.places.proofs.Lists.{map_at, without_is, shift_removed, first_of}
use Rattle.places.proofs.Rings.{length_places, place_at}
use Rattle.floats.specs.F64.{zero64}
use Rattle.cut.specs.Steps.{InOrder}

-- what f gives of l's elements stands at each place
pub stored : {A B : Type 0} (f : A → B) (d : A) (e : B) (l : List A) (to : List B) → length to ≡ length l
    → ((k : ℕ) → k < length l → get_or to k e ≡ f (get_or l k d)) → to ≡ map f l
stored f d e l to n at =
    ext_get_or e to (map f l) (n ∙ sym (length-map l f)) (λ k h. let g : k < length l = omega arith in at k g ∙ sym (map_at f l k d e g))

-- its own number stands at each place
pub stored_places : (n : ℕ) (l : List ℕ) → length l ≡ n → ((k : ℕ) → k < n → get_or l k 0 ≡ k) → l ≡ places_below n
stored_places n l e own =
    ext_get_or 0 l (places_below n) (e ∙ sym (length_places n)) (λ k h. let g : k < n = omega arith in own k g ∙ sym (place_at n k g))

-- m places are in the list l; storing f at each place from i on, up to place n, makes it the whole
pub record Storing {A : Type 0} (f : ℕ → List A → A) (n m : ℕ) (whole : List A) (i : ℕ) (l : List A) : Type 0 where
  pub long : length l ≡ m
  pub folding : Folding (λ k s. set s k (f k s)) n whole i l

module _ {A : Type 0} {f : ℕ → List A → A} {n m : ℕ} {whole : List A} {i : ℕ} {l : List A} (q : Storing f n m whole i l) where
  pub store_next : {l' : List A} → i < n → l' ≡ set l i (f i l) → Storing f n m whole (i + 1) l'
  store_next h e = record { long = rw (e, length-set l i (f i l)) q.long; folding = fold_next q.folding h e }

  pub store_end : n ≤ i → l ≡ whole
  store_end h = fold_end q.folding h

-- what stands at place k goes: each place from j on, up to the last, gets what stands one place further right
abbrev pub Removing : {A : Type 0} → A → List A → ℕ → ℕ → List A → Type 0
Removing d l₀ k j l = Storing (λ i s. get_or s (i + 1) d) (length l₀ - 1) (length l₀) (removed k l₀) j l

pub remove_start : {A : Type 0} (d : A) (l : List A) (k : ℕ) → k < length l → Removing d l k k l
remove_start d l k h = record { long = refl; folding = record { within = omega arith; so = shift_removed d k l h } }

-- ---- each place gets its own number
-- n places are in the list l, and those before i hold their own numbers
pub record Ordering (n i : ℕ) (l : List ℕ) : Type 0 where
  pub long : length l ≡ n
  pub own : (k : ℕ) → k < i → get_or l k 0 ≡ k

pub order_start : {l : List ℕ} → Ordering (length l) 0 l
order_start = record { long = refl; own = λ k h. absurd (omega arith) }

module _ {n i : ℕ} {l : List ℕ} (q : Ordering n i l) where
  pub order_next : i < n → Ordering n (i + 1) (set l i i)
  order_next h = record { long = rw length-set q.long; own = own }
    where
      own : (k : ℕ) → k < i + 1 → get_or (set l i i) k 0 ≡ k
      own k g = go (eqb k i) refl
        where
          go : (b : Bool) → eqb k i ≡ b → get_or (set l i i) k 0 ≡ k
          go true e = rw (eqb-true k i e) (get_or-set_same l i i 0 (omega (arith, q.long)))
          go false e = get_or-set_other l i k i 0 (eqb-false k i e) ∙ q.own k (omega (arith, eqb-false k i e))

  pub order_end : n ≤ i → InOrder l
  order_end h k g = q.own k (omega (arith, q.long))

  -- so they are the places in order
  pub order_places : n ≤ i → l ≡ places_below n
  order_places h = stored_places n l q.long (λ k g. q.own k (omega arith))

-- what comes after place k moves one place left
pub moved : {A : Type 0} (k : ℕ) (l : List A) → k < length l → copy_within l (k + 1) (length l) k ≡ removed k l
unfolding removed
moved k l h =
    let all : take (length l - (k + 1)) (drop (k + 1) l) ≡ drop (k + 1) l = take_all _ _ (omega (arith, length-drop (k + 1) l)) in
    let end : k + (length l - (k + 1)) ≡ length l - 1 = omega arith in
    rw (all, end, without_is k l, add-one k)

-- ---- the first n places of an array of k places and of one of k points
pub lent : (n k : ℕ) → n ≤ k
    → (length {A = ℕ} (take n (replicate k 0)) ≡ n) × (length (take n (replicate k (zero64 ∷ zero64 ∷ []))) ≡ n)
lent n k h = (sym (first_of n k 0 h), sym (first_of n k (zero64 ∷ zero64 ∷ []) h))

-- the first numbers of an array for the points of k corners, three a corner, and the first of one of k places
pub copies_lent : (n k : ℕ) → n ≤ k
    → (length (take (n * 3) (replicate (k * 3) zero64)) ≡ n * 3) × (length {A = ℕ} (take n (replicate k 0)) ≡ n)
copies_lent n k h = (sym (first_of (n * 3) (k * 3) zero64 (omega arith)), sym (first_of n k 0 h))
