-- How points are stored, two numbers or three each; what an answer says of the outcome, and the stretch of numbers that has its points.
use mathlib.Core.Path.{◌≡◌, refl, sym, ap}
use mathlib.Core.Logic.{◌≢◌}
use mathlib.Core.Bool.{Bool, true, false, cond}
use mathlib.Core.List.{List, [], ◌∷◌}
use Prim.Native.Nat.{ℕ, zero, suc, ◌*◌, ◌/◌, ◌≤◌}
use native.Mathlib.Omega.{arith}
use lib.ListN.{length, take, length-take}
use lib.Ieee.{Float}
use Rattle.std.specs.Prelude.{Some, None, Ok, Err}
use Rattle.places.specs.Stored.{in_threes, in_pairs, joined}
use Rattle.places.proofs.Stored.{length_threes, length_pairs, threes_take, pairs_take}
use Rattle.flat.specs.Points.{Point}
use Rattle.work_lists.specs.declared.NoRoom.{NoRoom}
use Rattle.work_lists.specs.declared.Outline.{Outline}
use Rattle.work_lists.specs.WorkLists.{Outcome, nothing, no_room, outline, outline_of}
use Rattle.work_lists.specs.Steps.{Ended}

-- ---- how points are stored: so many numbers each, and those of the first n points come first
pub record Reads (size : ℕ) (read : List Float → List Point) : Type 0 where
  pub count : (l : List Float) → length (read l) ≡ length l / size
  pub fits : (n : ℕ) (l : List Float) → n ≤ length (read l) → n * size ≤ length l
  pub first : (n : ℕ) (l : List Float) → read (take (n * size) l) ≡ take n (read l)
  pub front : (n : ℕ) (l : List Float) → n ≤ length (read l) → joined (take n (read l)) ≡ take (n * size) l

module _ {A : Type 0} where
  front_threes : (n : ℕ) (l : List A) → n ≤ length (in_threes l) → joined (take n (in_threes l)) ≡ take (n * 3) l
  unfolding in_threes joined
  front_threes zero l h = refl
  front_threes (suc n) [] h = absurd (omega arith)
  front_threes (suc n) (a ∷ []) h = absurd (omega arith)
  front_threes (suc n) (a ∷ b ∷ []) h = absurd (omega arith)
  front_threes (suc n) (a ∷ b ∷ c ∷ l) h =
      let e : suc n * 3 ≡ suc (suc (suc (n * 3))) = omega arith in
      rw e (ap (λ (r : List A). a ∷ b ∷ c ∷ r) (front_threes n l (omega arith)))

  front_pairs : (n : ℕ) (l : List A) → n ≤ length (in_pairs l) → joined (take n (in_pairs l)) ≡ take (n * 2) l
  unfolding in_pairs joined
  front_pairs zero l h = refl
  front_pairs (suc n) [] h = absurd (omega arith)
  front_pairs (suc n) (a ∷ []) h = absurd (omega arith)
  front_pairs (suc n) (a ∷ b ∷ l) h =
      let e : suc n * 2 ≡ suc (suc (n * 2)) = omega arith in
      rw e (ap (λ (r : List A). a ∷ b ∷ r) (front_pairs n l (omega arith)))

pub reads_threes : Reads 3 in_threes
reads_threes = record { count = length_threes; fits = λ n l h. omega (arith, length_threes l); first = threes_take; front = front_threes }

pub reads_pairs : Reads 2 in_pairs
reads_pairs = record { count = length_pairs; fits = λ n l h. omega (arith, length_pairs l); first = pairs_take; front = front_pairs }

-- ---- from an answer back to the outcome
-- nothing is left, or an outline of no points
pub nothing_left : {o : Outcome} {a b : List Point} → Ended o (Ok None) a b → (o ≢ no_room) × (outline_of o ≡ [])
nothing_left {o = nothing} q = ((λ e. let z : ◌≡◌ {A = ℕ} 0 1 = cc in omega arith), refl)
nothing_left {o = no_room} q = let z : ◌≡◌ {A = ℕ} 0 1 = cc q.answer in absurd (omega arith)
nothing_left {o = outline s []} q = ((λ e. let z : ◌≡◌ {A = ℕ} 0 1 = cc in omega arith), refl)
nothing_left {o = outline s (p ∷ ps)} q = let z : ◌≡◌ {A = ℕ} 0 1 = cc q.answer in absurd (omega arith)

pub room_lacks : {o : Outcome} {a b : List Point} {e : NoRoom} → Ended o (Err e) a b → o ≡ no_room
room_lacks {o = nothing} q = let z : ◌≡◌ {A = ℕ} 0 1 = cc q.answer in absurd (omega arith)
room_lacks {o = no_room} q = refl
room_lacks {o = outline s []} q = let z : ◌≡◌ {A = ℕ} 0 1 = cc q.answer in absurd (omega arith)
room_lacks {o = outline s (p ∷ ps)} q = let z : ◌≡◌ {A = ℕ} 0 1 = cc q.answer in absurd (omega arith)

outline_is : {o : Outcome} {left : Outline} {a b : List Point} → Ended o (Ok (Some left)) a b
    → (o ≡ outline left.in_second (take left.points (cond left.in_second b a))) × (left.points ≤ length (cond left.in_second b a))
outline_is {o = nothing} q = let z : ◌≡◌ {A = ℕ} 0 1 = cc q.answer in absurd (omega arith)
outline_is {o = no_room} q = let z : ◌≡◌ {A = ℕ} 0 1 = cc q.answer in absurd (omega arith)
outline_is {o = outline s []} q = let z : ◌≡◌ {A = ℕ} 0 1 = cc q.answer in absurd (omega arith)
outline_is {o = outline s (p ∷ ps)} {left} {a} {b} q =
    let e : left.points ≡ length (p ∷ ps) = cc q.answer in
    let f : left.in_second ≡ s = cc q.answer in
    rw (e, f) (ap (outline s) (sym q.stands), omega (arith, length-take (length (p ∷ ps)) (cond s b a), ap length q.stands))

-- ---- the outline that an answer shows, by the numbers of its list
cond_of : {A B : Type 0} (f : A → B) (s : Bool) (x y : A) → cond s (f x) (f y) ≡ f (cond s x y)
cond_of f true x y = refl
cond_of f false x y = refl

module _ {size : ℕ} {read : List Float → List Point} (s : Reads size read) {o : Outcome} {left : Outline} {a b : List Float}
    (q : Ended o (Ok (Some left)) (read a) (read b)) where
  pub outline_left : o ≡ outline left.in_second (take left.points (read (cond left.in_second b a)))
  outline_left = rw (cond_of read left.in_second b a) at (outline_is q).0

  pub outline_fits : left.points * size ≤ length (cond left.in_second b a)
  outline_fits = s.fits left.points (cond left.in_second b a) (rw (cond_of read left.in_second b a) at (outline_is q).1)

  pub outline_small : {k : ℕ} → length a ≤ k → length b ≤ k → left.points * size ≤ k
  outline_small {k} f g = go left.in_second outline_fits
    where
      go : (t : Bool) → left.points * size ≤ length (cond t b a) → left.points * size ≤ k
      go true h = omega arith
      go false h = omega arith
