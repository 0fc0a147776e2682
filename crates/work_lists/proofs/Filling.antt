-- Filling a list: elements laid down from a place on, one stretch after another, and read back where they fit.
-- A loop's invariant, Rest, says: what is left to lay down makes, with what stands there, the whole.
use mathlib.Core.Path.{◌≡◌, refl, sym, ap, ◌∙◌}
use mathlib.Core.Bool.{true, false}
use mathlib.Core.List.{List, [], ◌∷◌, ◌++◌, append_assoc, append-nil}
use Prim.Native.Nat.{ℕ, ◌+◌, ◌<◌, ◌≤◌}
use native.Mathlib.Nat.{zero-add, add-zero}
use native.Mathlib.Omega.{arith}
use native.Mathlib.Numerals.{add-one}
use lib.ListN.{length, get_or, set, take, drop, length-set, length-append, drop_of_length-le}
use lib.Seq.{take-suc-set}
use lib.Dec.{ltb}
use borrow.Author.Tests.{lt-ltb, le-ltb}
use Rattle.places.proofs.Loops.{drop_more}
use Rattle.work_lists.specs.Steps.{laid_from, Filled}

module _ {A : Type 0} where
  length_laid : (k : ℕ) (xs l : List A) → length (laid_from k xs l) ≡ length l
  unfolding laid_from
  length_laid k [] l = refl
  length_laid k (x ∷ xs) l = length_laid (k + 1) xs (set l k x) ∙ length-set l k x

  laid_append : (k : ℕ) (xs ys l : List A) → laid_from k (xs ++ ys) l ≡ laid_from (k + length xs) ys (laid_from k xs l)
  unfolding laid_from
  laid_append k [] ys l = rw add-zero
  laid_append k (x ∷ xs) ys l =
      let e : k + 1 + length xs ≡ k + length (x ∷ xs) = omega arith in
      rw (← e) (laid_append (k + 1) xs ys (set l k x))

  -- what was laid down stands after what stood before place k
  laid_read : (k : ℕ) (xs l : List A) → k + length xs ≤ length l → take (k + length xs) (laid_from k xs l) ≡ take k l ++ xs
  unfolding laid_from
  laid_read k [] l h = rw (add-zero, append-nil)
  laid_read k (x ∷ xs) l h =
      let e : k + 1 + length xs ≡ k + length (x ∷ xs) = omega arith in
      let step : take (k + 1) (set l k x) ++ xs ≡ take k l ++ x ∷ xs = rw (add-one k, take-suc-set l k x (omega arith), append_assoc) in
      rw (← e) (laid_read (k + 1) xs (set l k x) (rw length-set (omega arith)) ∙ step)

  -- ---- stretches
  pub filled_none : {m : ℕ} {l : List A} → Filled [] m l m l
  unfolding laid_from
  filled_none = record { count = sym (add-zero _); list = refl }

  pub filled_one : {x : A} {m r : ℕ} {before after : List A} → r ≡ m + 1 → after ≡ set before m x → Filled (x ∷ []) m before r after
  unfolding laid_from
  filled_one e f = record { count = e; list = f }

  pub filled_more : {xs ys : List A} {m k r : ℕ} {before between after : List A}
      → Filled xs m before k between → Filled ys k between r after → Filled (xs ++ ys) m before r after
  filled_more {xs} {ys} {m} {before = before} p q =
      record {
        count = omega (arith, p.count, q.count, length-append xs ys);
        list = rw (laid_append m xs ys before, ← p.count, ← p.list) q.list;
      }

  -- where all fit, they are read back
  pub filled_read : {xs : List A} {r : ℕ} {before after : List A} → Filled xs 0 before r after → r ≤ length before → take r after ≡ xs
  filled_read {xs} {before = before} p h = rw (p.count, p.list) (laid_read 0 xs before (omega (arith, p.count)))

  -- ---- m elements were laid down, and with the rest of them all are
  pub record Rest (all before : List A) (m : ℕ) (rest l : List A) : Type 0 where
    pub count : m + length rest ≡ length all
    pub list : laid_from m rest l ≡ laid_from 0 all before

  pub rest_start : {all before : List A} → Rest all before 0 all before
  rest_start = record { count = zero-add _; list = refl }

  pub rest_more : {all before xs ys l l' : List A} {m r : ℕ} → Rest all before m (xs ++ ys) l → Filled xs m l r l' → Rest all before r ys l'
  rest_more {xs = xs} {ys = ys} {l = l} {m = m} p q =
      record {
        count = omega (arith, p.count, q.count, length-append xs ys);
        list = rw (q.count, q.list, ← laid_append m xs ys l) p.list;
      }

  pub rest_end : {all before l : List A} {m : ℕ} → Rest all before m [] l → Filled all 0 before m l
  unfolding laid_from
  rest_end p = record { count = omega (arith, p.count); list = p.list }

  pub rest_length : {all before l : List A} {m : ℕ} {rest : List A} → Rest all before m rest l → length l ≡ length before
  rest_length {all} {before} {l} {m} {rest} p = sym (length_laid m rest l) ∙ ap length p.list ∙ length_laid 0 all before

  -- ---- a loop that lays down the elements of a list one after the other
  pub lay_next : {all before l l' : List A} {i : ℕ} {x : A} (d : A) → Rest all before i (drop i all) l → i < length all
      → x ≡ get_or all i d → l' ≡ set l i x → Rest all before (i + 1) (drop (i + 1) all) l'
  lay_next {all} {i = i} d p h e f = rest_more {xs = get_or all i d ∷ []} (rw (drop_more all i d h) at p) (filled_one refl (rw e at f))

  pub lay_end : {all before l : List A} {i : ℕ} → Rest all before i (drop i all) l → length all ≤ i → length all ≤ length before
      → take (length all) l ≡ all
  lay_end {all} {before} {l} {i} p h g =
      let f : Filled all 0 before i l = rest_end (rw (drop_of_length-le all h) at p) in
      let e : length all ≡ i = omega (arith, f.count) in
      rw e (filled_read f (omega arith))

  -- ---- whether what was laid down fits
  pub filled_over : {xs : List A} {m room : ℕ} {before after : List A} → Filled xs 0 before m after → room < m → ltb room (length xs) ≡ true
  filled_over {xs} {room = room} p h = lt-ltb room (length xs) (omega (arith, p.count))

  pub filled_within : {xs : List A} {m room : ℕ} {before after : List A} → Filled xs 0 before m after → m ≤ room
      → ltb room (length xs) ≡ false
  filled_within {xs} {room = room} p h = le-ltb room (length xs) (omega (arith, p.count))
