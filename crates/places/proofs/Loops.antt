-- The loops of specs/Loops.antt and specs/Ring.antt, each by its start, its next place and its end, for the proof of every function that
-- loops over a list. An invariant is one record that says: what is left of the list makes, with the state, the whole.
use mathlib.Core.Path.{◌≡◌, refl, sym, ◌∙◌}
use mathlib.Core.Logic.{⊎_elim}
use mathlib.Core.Bool.{Bool, true, false, ◌||◌, cond}
use mathlib.Core.List.{List, [], ◌∷◌, ◌++◌}
use Prim.Native.Nat.{ℕ, zero, suc, ◌+◌, ◌<◌, ◌≤◌, zero-le}
use native.Mathlib.Nat.{zero-add, add-zero, add_assoc, eq-or-lt_of_le}
use native.Mathlib.Omega.{arith}
use native.Mathlib.Numerals.{add-one}
use lib.ListN.{length, get_or, drop, drop_of_length-le}
use lib.Seq.{drop-cons}
use Rattle.places.specs.Loops.{one_if, fold_list, any_of, count_of, first_from, first_place}
use Rattle.places.specs.Ring.{sides, fold_pairs, next_of}
use Rattle.std.specs.Prelude.{Option, Some, None, option_map}
use Rattle.std.specs.List.{find, list_any, range_with_len}
use Rattle.places.proofs.Rings.{length_sides, side_at}

-- a yes counts at most once
pub one_at_most : (b : Bool) → one_if b ≤ 1
one_at_most true = omega arith
one_at_most false = omega arith

-- and only a yes counts
pub one_if_lem : (b : Bool) → 0 < one_if b → b ≡ true
one_if_lem true h = refl
one_if_lem false h = absurd (omega arith)

-- a list from a place on
pub drop_more : {A : Type 0} (l : List A) (i : ℕ) (d : A) → i < length l → drop i l ≡ get_or l i d ∷ drop (i + 1) l
drop_more l i d h = rw add-one (drop-cons l i d h)

-- ---- a loop that takes in the elements of a list
pub record Taking {A S : Type 0} (f : A → S → S) (l : List A) (whole : S) (i : ℕ) (s : S) : Type 0 where
  pub within : i ≤ length l
  pub so : fold_list f (drop i l) s ≡ whole

module _ {A S : Type 0} {f : A → S → S} {l : List A} {whole : S} where
  pub take_start : {s : S} → fold_list f l s ≡ whole → Taking f l whole 0 s
  take_start e = record { within = zero-le; so = e }

  pub take_next : {i : ℕ} {s s' : S} (d : A) → Taking f l whole i s → i < length l → s' ≡ f (get_or l i d) s → Taking f l whole (i + 1) s'
  unfolding fold_list
  take_next {i} {s} {s'} d p h e = record { within = omega arith; so = rw e (sym (rw (drop_more l i d h)) ∙ p.so) }

  pub take_end : {i : ℕ} {s : S} → Taking f l whole i s → length l ≤ i → s ≡ whole
  unfolding fold_list
  take_end {i} {s} p h = sym (rw (drop_of_length-le l h)) ∙ p.so

pub fold_append : {A S : Type 0} (f : A → S → S) (xs ys : List A) (s : S) → fold_list f (xs ++ ys) s ≡ fold_list f ys (fold_list f xs s)
unfolding fold_list
fold_append f [] ys s = refl
fold_append f (x ∷ xs) ys s = fold_append f xs ys (f x s)

-- a test of every element, each taken in: no exit, so that the loop can be done several elements at a time
abbrev pub or_test : {A : Type 0} → (A → Bool) → A → Bool → Bool
or_test test x so = so || test x

pub any_taken : {A : Type 0} (test : A → Bool) (l : List A) → fold_list (or_test test) l false ≡ any_of test l
unfolding fold_list any_of
any_taken {A} test l = go l false
  where
    go : (l : List A) (b : Bool) → fold_list (or_test test) l b ≡ (b || any_of test l)
    go [] true = refl
    go [] false = refl
    go (x ∷ xs) true = go xs true
    go (x ∷ xs) false = go xs (test x) ∙ either (test x)
      where
        either : (b : Bool) → (b || any_of test xs) ≡ cond b true (any_of test xs)
        either true = refl
        either false = refl

-- ---- a loop that goes once round a ring, from each corner to the next: it takes in the sides
pub record Rounding {A S : Type 0} (f : A → A → S → S) (l : List A) (whole : S) (i : ℕ) (s : S) : Type 0 where
  pub taking : Taking (λ e. f e.0 e.1) (sides l) whole i s

module _ {A S : Type 0} {f : A → A → S → S} {l : List A} {whole : S} where
  pub round_start : {s : S} → fold_pairs f (sides l) s ≡ whole → Rounding f l whole 0 s
  round_start e = record { taking = take_start e }

  pub round_next : {i : ℕ} {s s' : S} (d : A) → Rounding f l whole i s → i < length l
      → s' ≡ f (get_or l i d) (get_or l (next_of i (length l)) d) s → Rounding f l whole (i + 1) s'
  round_next {i} d p h e = record { taking = take_next (d, d) p.taking (rw (length_sides l) h) (rw (side_at l i d h) e) }

  pub round_end : {i : ℕ} {s : S} → Rounding f l whole i s → length l ≤ i → s ≡ whole
  round_end p h = take_end p.taking (rw (length_sides l) h)

-- ---- a loop that asks whether the test holds of an element
pub record Asking {A : Type 0} (test : A → Bool) (l : List A) (whole : Bool) (i : ℕ) : Type 0 where
  pub within : i ≤ length l
  pub so : any_of test (drop i l) ≡ whole

module _ {A : Type 0} {test : A → Bool} {l : List A} {whole : Bool} where
  pub ask_start : any_of test l ≡ whole → Asking test l whole 0
  ask_start e = record { within = zero-le; so = e }

  pub ask_yes : {i : ℕ} (d : A) → Asking test l whole i → i < length l → test (get_or l i d) ≡ true → true ≡ whole
  unfolding any_of
  ask_yes {i} d p h e = sym (rw (drop_more l i d h, e)) ∙ p.so

  pub ask_no : {i : ℕ} (d : A) → Asking test l whole i → i < length l → test (get_or l i d) ≡ false → Asking test l whole (i + 1)
  unfolding any_of
  ask_no {i} d p h e = record { within = omega arith; so = sym (rw (drop_more l i d h, e)) ∙ p.so }

  pub ask_end : {i : ℕ} → Asking test l whole i → length l ≤ i → false ≡ whole
  unfolding any_of
  ask_end {i} p h = sym (rw (drop_of_length-le l h)) ∙ p.so

-- ---- a loop that counts the elements of which the test holds
pub record Counting {A : Type 0} (test : A → Bool) (l : List A) (whole : ℕ) (i n : ℕ) : Type 0 where
  pub within : i ≤ length l
  pub few : n ≤ i
  pub so : n + count_of test (drop i l) ≡ whole

module _ {A : Type 0} {test : A → Bool} {l : List A} {whole : ℕ} where
  pub count_start : count_of test l ≡ whole → Counting test l whole 0 0
  count_start e = record { within = zero-le; few = zero-le; so = zero-add (count_of test l) ∙ e }

  pub count_next : {i n n' : ℕ} (d : A) → Counting test l whole i n → i < length l → n' ≡ n + one_if (test (get_or l i d))
      → Counting test l whole (i + 1) n'
  unfolding count_of
  count_next {i} {n} {n'} d p h e =
      record {
        within = omega arith;
        few = omega (arith, p.few, one_at_most (test (get_or l i d)));
        so = rw e (add_assoc n (one_if (test (get_or l i d))) (count_of test (drop (i + 1) l)) ∙ sym (rw (drop_more l i d h)) ∙ p.so);
      }

  pub count_end : {i n : ℕ} → Counting test l whole i n → length l ≤ i → n ≡ whole
  unfolding count_of
  count_end {i} {n} p h = sym (add-zero n) ∙ sym (rw (drop_of_length-le l h)) ∙ p.so

-- ---- what std's methods answer, in the words of these definitions
-- `any` over a list
pub any_is : {A : Type 0} (test : A → Bool) (l : List A) → list_any test l ≡ any_of test l
unfolding any_of
any_is test [] = refl
any_is test (x ∷ xs) = rw (any_is test xs) (either (test x))
  where
    either : (b : Bool) → (b || any_of test xs) ≡ cond b true (any_of test xs)
    either true = refl
    either false = refl

-- `find` over the places below n
find_from : (test : ℕ → Bool) (left i : ℕ) → find test (range_with_len i left) ≡ first_from test left i
unfolding first_from
find_from test zero i = refl
find_from test (suc left) i = rw (find_from test left (i + 1))

same_answer : (r : Option ℕ) → option_map (λ k. k) r ≡ r
same_answer None = refl
same_answer (Some k) = refl

pub find_is : (test : ℕ → Bool) (n : ℕ) (r : Option ℕ) → option_map (λ k. k) r ≡ find test (range_with_len 0 n) → r ≡ first_place test n
find_is test n r e = sym (same_answer r) ∙ e ∙ find_from test n 0

-- a place that is found is among those that were tried
pub first_below : (test : ℕ → Bool) (left i k : ℕ) → first_from test left i ≡ Some k → k < i + left
unfolding first_from
first_below test zero i k e = let z : ◌≡◌ {A = ℕ} 0 1 = cc in omega arith
first_below test (suc left) i k e = go (test i) e (first_below test left (i + 1) k)
  where
    go : (b : Bool) → cond b (Some i) (first_from test left (i + 1)) ≡ Some k → (first_from test left (i + 1) ≡ Some k → k < i + 1 + left)
        → k < i + suc left
    go true e r = let q : i ≡ k = cc in omega arith
    go false e r = omega (arith, r e)

-- where nothing is found the test holds at none
pub first_none : (test : ℕ → Bool) (left i : ℕ) → first_from test left i ≡ None → (k : ℕ) → i ≤ k → k < i + left → test k ≡ false
unfolding first_from
first_none test zero i e k a b = absurd (omega arith)
first_none test (suc left) i e k a b = go (test i) refl e (first_none test left (i + 1))
  where
    go : (t : Bool) → test i ≡ t → cond t (Some i) (first_from test left (i + 1)) ≡ None
        → (first_from test left (i + 1) ≡ None → (j : ℕ) → i + 1 ≤ j → j < i + 1 + left → test j ≡ false) → test k ≡ false
    go true q e r = cc
    go false q e r = ⊎_elim (λ s. rw (← s) q) (λ s. r e k (omega arith) (omega arith)) (eq-or-lt_of_le a)
