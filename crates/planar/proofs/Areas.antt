-- The area of what is left, by what the answer of a clipping says.
use mathlib.Core.Path.{◌≡◌, refl}
use mathlib.Core.Logic.{◌≢◌}
use mathlib.Core.Bool.{cond}
use mathlib.Core.List.{List, []}
use Prim.Native.Nat.{◌*◌}
use lib.ListN.{take}
use lib.Ieee.{Float, of_bits, div}
use Rattle.places.specs.Stored.{in_pairs}
use Rattle.floats.specs.F64.{zero64}
use Rattle.floats.specs.Pick.{magnitude_of}
use Rattle.flat.specs.Points.{Point}
use Rattle.flat.specs.Flat.{summed_area_of, signed_area_of}
use Rattle.std.specs.Prelude.{Some, None, Ok, Err}
use Rattle.work_lists.specs.declared.NoRoom.{NoRoom}
use Rattle.work_lists.specs.declared.Outline.{Outline}
use Rattle.work_lists.specs.WorkLists.{Outcome, nothing, no_room, outline, outline_of}
use Rattle.work_lists.specs.Steps.{Ended}
use Rattle.work_lists.proofs.Endings.{reads_pairs, nothing_left, room_lacks, outline_left}
use Rattle.places.specs.Loops.{fold_list}
use Rattle.places.proofs.Stored.{pairs_take}
use Rattle.planar.specs.Planar.{intersection_area_of, area_answer}

-- nothing has the area +0
no_area_lem : magnitude_of (signed_area_of []) ≡ zero64
unfolding of_bits div fold_list magnitude_of summed_area_of signed_area_of
no_area_lem = refl

-- the area of every outcome but that of no room
area_is : (o : Outcome) → o ≢ no_room → Ok (magnitude_of (signed_area_of (outline_of o))) ≡ area_answer o
unfolding intersection_area_of
area_is nothing h = refl
area_is no_room h = absurd (h refl)
area_is (outline second ps) h = refl

pub area_none : {o : Outcome} {a b : List Point} → Ended o (Ok None) a b → Ok zero64 ≡ area_answer o
area_none {o} q = rw (← no_area_lem, ← (nothing_left q).1) (area_is o (nothing_left q).0)

pub area_refused : {o : Outcome} {e f : NoRoom} {a b : List Point} → Ended o (Err e) a b → Err f ≡ area_answer o
area_refused q = rw (room_lacks q)

pub area_shown : {o : Outcome} {left : Outline} (a b : List Float) {l : List Float} {s x : Float}
    → Ended o (Ok (Some left)) (in_pairs a) (in_pairs b) → l ≡ take (left.points * 2) (cond left.in_second b a)
    → s ≡ signed_area_of (in_pairs l) → x ≡ magnitude_of s → Ok x ≡ area_answer o
unfolding intersection_area_of
area_shown {left} a b q e f g =
    rw (outline_left reads_pairs q, g, f, e, pairs_take left.points (cond left.in_second b a))
