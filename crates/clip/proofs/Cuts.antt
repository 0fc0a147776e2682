-- What a cut leaves: a stretch was laid down, and its points without the doubled ones stand at its front.
-- And what a plane makes of an outline, by how many of its points are out.
use mathlib.Core.Path.{◌≡◌, refl, ap, ◌∙◌}
use mathlib.Core.Bool.{Bool, true, false, cond}
use mathlib.Core.List.{List, ◌++◌}
use Prim.Native.Nat.{ℕ, ◌*◌, ◌<◌, ◌≤◌}
use native.Mathlib.Omega.{arith}
use lib.ListN.{length, take, drop, length-take}
use lib.Seq.{take-append-le, length-take-le}
use lib.Ieee.{Float}
use Rattle.std.specs.Prelude.{Result, Ok, Err}
use Rattle.places.specs.Loops.{count_of}
use borrow.Author.Tests.{lt-ltb, le-ltb, eq-eqb, ne_eqb}
use Rattle.places.specs.Stored.{in_threes}
use Rattle.places.proofs.Stored.{length_threes, threes_take, threes_front}
use Rattle.flat.specs.Points.{Point}
use Rattle.planes.specs.declared.Plane.{Plane}
use Rattle.work_lists.specs.declared.NoRoom.{NoRoom}
use Rattle.work_lists.specs.declared.Step.{Step}
use Rattle.work_lists.specs.declared.Step.TheVariants.{Kept, Gone, Made}
use Rattle.work_lists.specs.Steps.{Filled, Shows, Moved, shows_whole, shows_full, shows_gone, shows_made}
use Rattle.work_lists.proofs.Filling.{filled_read, filled_over, filled_within}
use Rattle.clip_step.specs.Doubled.{without_doubled}
use Rattle.clip.specs.Clip.{beyond, cut_change, slice, plane_change}

pub cut_full : {room m : ℕ} {cut before after list : List Point} {e : NoRoom} → Filled cut 0 before m after → room < m
    → Shows room (cut_change room cut) (Err e) list
unfolding cut_change
cut_full f h = rw (filled_over f h) shows_full

-- m points of the cut were laid down and have room; of that stretch `front` is what dropping doubled points left, with `left` points
module _ {room m left : ℕ} {cut before : List Point} (after front : List Float) (f : Filled cut 0 before m (in_threes after))
    (h : m ≤ room) (g : room ≤ length before) (count : left ≡ length (without_doubled (in_threes (take (m * 3) after))))
    (stands : take left (in_threes front) ≡ without_doubled (in_threes (take (m * 3) after))) where
  -- the stretch is the whole cut
  part_is : in_threes (take (m * 3) after) ≡ cut
  part_is = threes_take m after ∙ filled_read f (omega arith)

  count_is : left ≡ length (without_doubled cut)
  count_is = rw part_is at count

  pub cut_gone : {list : List Point} → left < 3 → Shows room (cut_change room cut) (Ok Gone) list
  unfolding cut_change
  cut_gone l = rw (filled_within f h, ← count_is, lt-ltb left 3 l) shows_gone

  pub cut_made : 3 ≤ left → length front ≡ m * 3
      → Shows room (cut_change room cut) (Ok (Made left)) (in_threes (front ++ drop (m * 3) after))
  unfolding cut_change
  cut_made l n =
      let w : left ≤ length (in_threes front) = omega (arith, length-take left (in_threes front), ap length stands, count) in
      let s : take left (in_threes (front ++ drop (m * 3) after)) ≡ without_doubled cut =
      rw (threes_front m front after n, take-append-le, ← part_is) stands in
      rw (filled_within f h, ← count_is, le-ltb left 3 l) (shows_made {n = left} (omega (arith, length_threes front)) s)

-- ---- an outline of n points in the first list or in the second
pub shown_is : (second : Bool) (n : ℕ) (a b : List Float)
    → in_threes (take (n * 3) (cond second b a)) ≡ take n (cond second (in_threes b) (in_threes a))
shown_is true n a b = threes_take n b
shown_is false n a b = threes_take n a

pub stretch_fits : (second : Bool) (n : ℕ) (a b : List Float) → n ≤ length (in_threes a) → n ≤ length (in_threes b)
    → n * 3 ≤ length (cond second b a)
stretch_fits true n a b h g = omega (arith, length_threes b)
stretch_fits false n a b h g = omega (arith, length_threes a)

outline_length : (second : Bool) (n : ℕ) (a b : List Point) → n ≤ length a → n ≤ length b → length (take n (cond second b a)) ≡ n
outline_length true n a b h g = length-take-le n b g
outline_length false n a b h g = length-take-le n a h

module _ {room n : ℕ} (eps : Float) {plane : Plane} {second : Bool} {a b : List Point} (h : n ≤ length a) (g : n ≤ length b) where
  -- neither list is written to where the plane makes no cut
  still : {r : Result Step NoRoom} → Shows room (plane_change room eps plane (take n (cond second b a))) r (cond second a b)
      → Moved room (plane_change room eps) plane n second a b r a b
  still s = record { shows = s; same = refl; long = refl }

  pub none_few : n < 3 → Moved room (plane_change room eps) plane n second a b (Ok Gone) a b
  unfolding plane_change
  none_few l = still (rw (outline_length second n a b h g, lt-ltb n 3 l) shows_gone)

  module _ {out : ℕ} (l : 3 ≤ n) (e : out ≡ count_of (beyond plane eps) (take n (cond second b a))) where
    pub none_out : out ≡ 0 → Moved room (plane_change room eps) plane n second a b (Ok Kept) a b
    unfolding plane_change
    none_out z = still (rw (outline_length second n a b h g, le-ltb n 3 l, ← e, eq-eqb out 0 z) shows_whole)

    pub all_out : ¬ (out ≡ 0) → out ≡ n → Moved room (plane_change room eps) plane n second a b (Ok Gone) a b
    unfolding plane_change
    all_out z w = still (rw (outline_length second n a b h g, le-ltb n 3 l, ← e, ne_eqb out 0 z, eq-eqb out n w) shows_gone)

    pub some_out : {r : Result Step NoRoom} {a' b' : List Point} → ¬ (out ≡ 0) → ¬ (out ≡ n)
        → Moved room (slice room eps) plane n second a b r a' b'
        → Moved room (plane_change room eps) plane n second a b r a' b'
    unfolding plane_change
    some_out z w m =
        record {
          shows = rw (outline_length second n a b h g, le-ltb n 3 l, ← e, ne_eqb out 0 z, ne_eqb out n w) m.shows;
          same = m.same;
          long = m.long;
        }
