-- The loop that goes from one work list to the other and back, over planes or edges alike; how a clipping ends; and the room of both lists.
-- The loop's invariant says: what is left to do from the outline that stands makes the whole outcome.
use mathlib.Core.Path.{◌≡◌, refl, sym, ap, ◌∙◌}
use mathlib.Core.Logic.{◌≢◌}
use mathlib.Core.Bool.{Bool, true, false, not, cond}
use mathlib.Core.List.{List, [], ◌∷◌}
use Prim.Native.Nat.{ℕ, ◌+◌, ◌<◌, ◌≤◌, zero-le}
use native.Mathlib.Omega.{arith}
use lib.ListN.{length, get_or, take, drop, drop_of_length-le}
use lib.Seq.{length-take-le}
use lib.Dec.{ltb}
use lib.Ieee.{Float}
use borrow.Author.Tests.{lt-ltb, le-ltb, ltb-true, ltb-false}
use Rattle.std.specs.Prelude.{Option, Some, None, Result, Ok, Err}
use Rattle.places.proofs.Loops.{drop_more}
use Rattle.flat.specs.Points.{Point}
use Rattle.work_lists.specs.declared.Step.{Step}
use Rattle.work_lists.specs.declared.Step.TheVariants.{Kept, Gone, Made}
use Rattle.work_lists.specs.declared.NoRoom.{NoRoom}
use Rattle.work_lists.specs.declared.Outline.{Outline}
use Rattle.work_lists.specs.WorkLists.{Change, whole, gone, full, made, Outcome, nothing, no_room, outline, left_by, run_of}
use Rattle.work_lists.specs.WorkLists.{clipped_of, shorter_of, answer_of}
use Rattle.work_lists.specs.Steps.{Ended, Shows, shows_whole, shows_gone, shows_full, shows_made, Moved}

-- ---- what an answer says of the change
kept_is : {room : ℕ} {c : Change} {l : List Point} → Shows room c (Ok Kept) l → c ≡ whole
kept_is shows_whole = refl

gone_is : {room : ℕ} {c : Change} {l : List Point} → Shows room c (Ok Gone) l → c ≡ gone
gone_is shows_gone = refl

full_is : {room : ℕ} {c : Change} {e : NoRoom} {l : List Point} → Shows room c (Err e) l → c ≡ full
full_is shows_full = refl

made_is : {room n : ℕ} {c : Change} {l : List Point} → Shows room c (Ok (Made n)) l → (n ≤ room) × (c ≡ made (take n l))
made_is (shows_made h e) = (h, ap made (sym e))

-- ---- the two lists
cond_not : {A : Type 0} (s : Bool) (x y : A) → cond (not s) y x ≡ cond s x y
cond_not true x y = refl
cond_not false x y = refl

-- both lists keep their lengths
sizes : {E : Type 0} {room : ℕ} {change : E → List Point → Change} {e : E} {n : ℕ} {second : Bool} {a b : List Point}
    {r : Result Step NoRoom} {a' b' : List Point} → Moved room change e n second a b r a' b'
    → (length a' ≡ length a) × (length b' ≡ length b)
sizes {second = true} m = (m.long, ap length m.same)
sizes {second = false} m = (ap length m.same, m.long)

-- ---- how a clipping ends
module _ {o : Outcome} {a b : List Point} where
  pub ended_nothing : o ≡ nothing → Ended o (Ok None) a b
  ended_nothing e = rw e (record { answer = refl; stands = refl })

  pub ended_full : {e : NoRoom} → o ≡ no_room → Ended o (Err e) a b
  ended_full e = rw e (record { answer = refl; stands = refl })

-- an outline of points is their number, and which list they stand in
outline_answer : (second : Bool) (ps : List Point) → 0 < length ps
    → Ok (Some (record { points = length ps; in_second = second })) ≡ answer_of (outline second ps)
outline_answer second [] h = absurd (omega arith)
outline_answer second (p ∷ ps) h = refl

-- ---- where no outline is left, nothing more is done
module _ {E : Type 0} (change : E → List Point → Change) where
  run_nothing : (es : List E) → run_of change es nothing ≡ nothing
  unfolding run_of
  run_nothing [] = refl
  run_nothing (e ∷ es) = refl

  run_full : (es : List E) → run_of change es no_room ≡ no_room
  unfolding run_of
  run_full [] = refl
  run_full (e ∷ es) = refl

-- ---- the loop
-- i of the planes or edges are done, and the outline of n points stands in one of the lists a and b, of the numbers that `read` makes
-- points of; both are as long as they were
pub record Alternating {E : Type 0} (read : List Float → List Point) (room : ℕ) (change : E → List Point → Change) (es : List E)
    (left : Outcome) (a₀ b₀ : List Float) (i n : ℕ) (second : Bool) (a b : List Float) : Type 0 where
  pub within : i ≤ length es
  pub few : n ≤ room
  pub first_long : length a ≡ length a₀
  pub second_long : length b ≡ length b₀
  pub first_room : room ≤ length (read a)
  pub second_room : room ≤ length (read b)
  pub so : run_of change (drop i es) (outline second (take n (cond second (read b) (read a)))) ≡ left

module _ {E : Type 0} {read : List Float → List Point} {room : ℕ} {change : E → List Point → Change} {es : List E} {left : Outcome} where
  pub alternate_start : {n : ℕ} {a b : List Float} → n ≤ room → room ≤ length (read a) → room ≤ length (read b)
      → run_of change es (outline false (take n (read a))) ≡ left → Alternating read room change es left a b 0 n false a b
  alternate_start h f s e =
      record { within = zero-le; few = h; first_long = refl; second_long = refl; first_room = f; second_room = s; so = e }

  module _ {a₀ b₀ a b : List Float} {i n : ℕ} {second : Bool} (q : Alternating read room change es left a₀ b₀ i n second a b) where
    -- the list that is read holds the outline
    stands_in : n ≤ length (cond second (read b) (read a))
    stands_in = go second
      where
        go : (s : Bool) → n ≤ length (cond s (read b) (read a))
        go true = omega (arith, q.few, q.second_room)
        go false = omega (arith, q.few, q.first_room)

    abbrev standing : List Point
    standing = take n (cond second (read b) (read a))

    -- what the next one makes of the outline decides
    next : {e : E} (d : E) → i < length es → e ≡ get_or es i d
        → run_of change (drop (i + 1) es) (left_by (change e standing) second standing) ≡ left
    unfolding run_of
    next d h e = rw e (rw (drop_more es i d h) at q.so)

    -- one turn of the loop: e is the next, and it was applied to the outline that stands
    module _ {e : E} {a' b' : List Float} (d : E) (h : i < length es) (at : e ≡ get_or es i d) where
      pub alternate_gone : Moved room change e n second (read a) (read b) (Ok Gone) (read a') (read b')
          → Ended left (Ok None) (read a') (read b')
      alternate_gone m = ended_nothing (sym (rw (gone_is m.shows, run_nothing change) at (next d h at)))

      pub alternate_full : {f g : NoRoom} → Moved room change e n second (read a) (read b) (Err f) (read a') (read b')
          → Ended left (Err g) (read a') (read b')
      alternate_full m = ended_full (sym (rw (full_is m.shows, run_full change) at (next d h at)))

      module _ (f : length a' ≡ length a) (g : length b' ≡ length b) where
        pub alternate_kept : Moved room change e n second (read a) (read b) (Ok Kept) (read a') (read b')
            → Alternating read room change es left a₀ b₀ (i + 1) n second a' b'
        alternate_kept m =
            let l = sizes m in
            record {
              within = omega arith;
              few = q.few;
              first_long = f ∙ q.first_long;
              second_long = g ∙ q.second_long;
              first_room = omega (arith, l.0, q.first_room);
              second_room = omega (arith, l.1, q.second_room);
              so = rw m.same (rw (kept_is m.shows) at (next d h at));
            }

        pub alternate_made : {k : ℕ} → Moved room change e n second (read a) (read b) (Ok (Made k)) (read a') (read b')
            → Alternating read room change es left a₀ b₀ (i + 1) k (not second) a' b'
        alternate_made m =
            let l = sizes m in
            record {
              within = omega arith;
              few = (made_is m.shows).0;
              first_long = f ∙ q.first_long;
              second_long = g ∙ q.second_long;
              first_room = omega (arith, l.0, q.first_room);
              second_room = omega (arith, l.1, q.second_room);
              so = rw (cond_not second (read a') (read b')) (rw (made_is m.shows).1 at (next d h at));
            }

    -- no more to do: the outline that stands is what is left
    last : length es ≤ i → left ≡ outline second standing
    unfolding run_of
    last h = sym (rw (drop_of_length-le es h) at q.so)

    pub alternate_none : length es ≤ i → n ≡ 0 → Ended left (Ok None) (read a) (read b)
    alternate_none h z = rw (last h, z) (record { answer = refl; stands = refl })

    pub alternate_end : length es ≤ i → n ≢ 0
        → Ended left (Ok (Some (record { points = n; in_second = second }))) (read a) (read b)
    alternate_end h z =
        let l : length standing ≡ n = length-take-le n (cond second (read b) (read a)) stands_in in
        rw (last h) (record { answer = rw l at (outline_answer second standing (omega arith)); stands = rw l })

-- ---- what is to be clipped must have room in the shorter list, and then has it in both
pub shorter_fits : (a b : ℕ) → (shorter_of a b ≤ a) × (shorter_of a b ≤ b)
unfolding shorter_of
shorter_fits a b = go (ltb b a) refl
  where
    go : (t : Bool) → ltb b a ≡ t → (cond t b a ≤ a) × (cond t b a ≤ b)
    go true e = let h : b < a = ltb-true b a e in (omega arith, omega arith)
    go false e = let h : a ≤ b = ltb-false b a e in (omega arith, omega arith)

module _ {E : Type 0} (room : ℕ) (change : E → List Point → Change) (es : List E) (ps : List Point) where
  pub clipped_full : {a b : List Point} {e : NoRoom} → room < length ps → Ended (clipped_of room change es ps) (Err e) a b
  unfolding clipped_of
  clipped_full h = rw (lt-ltb room (length ps) h) (record { answer = refl; stands = refl })

  pub clipped_run : {r : Result (Option Outline) NoRoom} {a b : List Point} → length ps ≤ room
      → Ended (run_of change es (outline false ps)) r a b
      → Ended (clipped_of room change es ps) r a b
  unfolding clipped_of
  clipped_run h q = rw (le-ltb room (length ps) h) q
