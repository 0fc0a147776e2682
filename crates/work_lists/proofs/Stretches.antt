-- The stretch of a work list that is lent to be read, and the room that both lists have: for points of two numbers or of three.
-- With these laws the code for planes and the code for edges hand the same argument on.
use mathlib.Core.Path.{◌≡◌, refl}
use mathlib.Core.Bool.{Bool, true, false}
use mathlib.Core.List.{List}
use Prim.Native.Nat.{ℕ, ◌-◌, ◌*◌, ◌/◌, ◌≤◌}
use native.Mathlib.Nat.{sub-zero}
use lib.ListN.{length, take}
use lib.Seq.{length-take-le}
use lib.Ieee.{Float}
use Rattle.std.specs.Prelude.{Result}
use Rattle.flat.specs.Points.{Point}
use Rattle.work_lists.specs.declared.NoRoom.{NoRoom}
use Rattle.work_lists.specs.declared.Step.{Step}
use Rattle.work_lists.specs.WorkLists.{Change, shorter_of}
use Rattle.work_lists.specs.Steps.{Shows, Moved}
use Rattle.work_lists.proofs.Alternation.{shorter_fits}
use Rattle.work_lists.proofs.Endings.{Reads}

module _ {size : ℕ} {read : List Float → List Point} (s : Reads size read) where
  -- lists of as many numbers have as many points
  pub same_count : (l l' : List Float) → length l' ≡ length l → length (read l') ≡ length (read l)
  same_count l l' e = rw (s.count l', s.count l, e)

  -- the first n points of a list are those of its stretch of n points
  pub stretch_is : (n : ℕ) (l : List Float) → read (take (n * size - 0) l) ≡ take n (read l)
  stretch_is n l = rw (sub-zero, s.first n l)

  pub stretch_long : (n : ℕ) (l : List Float) → n ≤ length (read l) → length (read (take (n * size - 0) l)) ≡ n
  stretch_long n l h = rw (stretch_is n l) (length-take-le n (read l) h)

  -- ---- room for as many points as the shorter list holds is room in both
  module _ (a b : List Float) {room : ℕ} (e : room ≡ shorter_of (length a / size) (length b / size)) where
    pub room_is : shorter_of (length (read a)) (length (read b)) ≡ room
    room_is = rw (s.count a, s.count b, e)

    pub room_first : room ≤ length (read a)
    room_first = rw (s.count a, e) (shorter_fits (length a / size) (length b / size)).0

    -- the first list may be written to before
    pub room_still : (a' : List Float) → length a' ≡ length a → room ≤ length (read a')
    room_still a' l = rw (same_count a a' l) room_first

    pub room_second : room ≤ length (read b)
    room_second = rw (s.count b, e) (shorter_fits (length a / size) (length b / size)).1

  -- ---- a step reads the stretch of one list and writes to the other
  module _ {E : Type 0} {room : ℕ} {change : E → List Point → Change} {e : E} {n : ℕ} {r : Result Step NoRoom} {second : Bool}
      (a b : List Float) where
    pub moved_to_first : (a' : List Float) → second ≡ true → length a' ≡ length a
        → Shows room (change e (read (take (n * size - 0) b))) r (read a')
        → Moved room change e n second (read a) (read b) r (read a') (read b)
    moved_to_first a' t l h = rw t (record { shows = rw (stretch_is n b) at h; same = refl; long = same_count a a' l })

    pub moved_to_second : (b' : List Float) → second ≡ false → length b' ≡ length b
        → Shows room (change e (read (take (n * size - 0) a))) r (read b')
        → Moved room change e n second (read a) (read b) r (read a) (read b')
    moved_to_second b' t l h = rw t (record { shows = rw (stretch_is n a) at h; same = refl; long = same_count b b' l })
