-- The overlap of two cells from its parts: one list that has the planes of both, cut into those of each, and the sum over the faces of
-- the first cell, from which the sum over those of the second goes on.
use mathlib.Core.Path.{◌≡◌, ap, ◌∙◌}
use mathlib.Core.Bool.{true, false}
use mathlib.Core.List.{List, [], ◌∷◌, ◌++◌, append-nil}
use Prim.Native.Nat.{ℕ, zero, suc, ◌+◌, ◌-◌, ◌≤◌}
use native.Mathlib.Nat.{add-zero, sub-zero}
use native.Mathlib.Omega.{arith}
use lib.ListN.{length, take, drop, replicate, length-take, length-drop, length-append, length-replicate}
use lib.Seq.{take_all, take_at, drop_at}
use borrow.Rule.Slice.PartMut.{put_mid}
use lib.Ieee.{Float}
use Rattle.std.specs.Prelude.{Result, Ok, Err}
use Rattle.places.specs.Limits.{most_coordinates}
use Rattle.places.proofs.Stored.{length_threes}
use Rattle.cell.specs.Faces.{faces_of}
use Rattle.cell.specs.Steps.{Sound}
use Rattle.cell.proofs.Faces.{length_faces}
use Rattle.floats.specs.F64.{zero64}
use Rattle.flat.specs.Points.{Point}
use Rattle.planes.specs.declared.Plane.{Plane}
use Rattle.planes.specs.Planes.{planes_of, no_area_count, in_fours}
use Rattle.planes.proofs.Faces.{planes_count}
use Rattle.work_lists.specs.declared.NoRoom.{NoRoom}
use Rattle.overlap.specs.declared.Measures.{Measures}
use Rattle.overlap.specs.Tolerances.{measures_of}
use Rattle.overlap.specs.Steps.{Joint, Stocked, room_of, other_part}
use Rattle.overlap.specs.Overlap.{first_patches, second_patches, added_to, magnitude_of_sum, overlap_of}
use Rattle.overlap.proofs.Patches.{same_room}
use Rattle.overlap.proofs.Sums.{added_append}

-- ---- the stretch from a place to the end of a list is what it is without the place before
pub to_the_end : (from : ℕ) (l : List Float) → take (length l - from) (drop from l) ≡ drop from l
to_the_end from l = take_all (length l - from) (drop from l) (rw length-drop (omega arith))

-- ---- the list of both cells' planes, cut into those of each
module _ {n k : ℕ} {firsts seconds : List Plane} {both : List Float} (j : Joint n k firsts seconds both) where
  -- where the second cell's start, counted from the end
  seam : length both - k ≡ n
  seam = omega (arith, j.size)

  others_first : in_fours (other_part false n both) ≡ seconds
  others_first = j.of_second

  others_second : in_fours (other_part true k both) ≡ firsts
  others_second = rw seam j.of_first

  -- where the list `kept` has `most` numbers, the planes of each cell have room there
  module _ (most : ℕ) (few : most ≤ 1024) where
    pub stocked_first : k ≤ most → Stocked false n firsts both (replicate most zero64)
    stocked_first h =
        let size = length-replicate most zero64 in
        record {
          fits = omega (arith, j.size);
          own_planes = j.of_first;
          few_others = rw length-drop (omega (arith, j.size));
          room = rw length-drop (omega (arith, j.size));
        }

    pub stocked_second : {kept : List Float} → length kept ≡ length (replicate most zero64) → n ≤ most → Stocked true k seconds both kept
    stocked_second e h =
        let size = length-replicate most zero64 in
        record {
          fits = omega (arith, j.size);
          own_planes = rw seam j.of_second;
          few_others = rw (seam, length-take) (omega arith);
          room = rw (seam, length-take) (omega arith);
        }

-- ---- the sums: m measures the two cells, the list `both` has their planes, and s is the sum over the first cell's faces
module _ (first second : List Float) (vs : List Point) (faces : List (List ℕ)) (ws : List Point) (other_faces : List (List ℕ))
    {both : List Float} {n k : ℕ} {m : Measures} {s : Result Float NoRoom}
    (q : m ≡ measures_of vs ws) (j : Joint n k (planes_of vs faces) (planes_of ws other_faces) both)
    (sum : s ≡ added_to m.reference zero64 (first_patches (room_of first second) m vs faces (in_fours (other_part false n both)))) where
  -- where there is no room for one of these faces
  pub overlap_refused : {e f : NoRoom} → s ≡ Err e → Err f ≡ overlap_of (room_of first second) vs faces ws other_faces
  unfolding overlap_of
  overlap_refused g =
      let of_first = first_patches (room_of first second) m vs faces (in_fours (other_part false n both)) in
      rw (← q, ← others_first j, added_append m.reference zero64 of_first, ← sum, g)

  -- where it is v, t the sum that goes on from v over the second cell's faces, in lists of the same lengths, and r its magnitude
  pub overlap_is : (first' second' : List Float) {v : Float} {t r : Result Float NoRoom} → s ≡ Ok v
      → length first' ≡ length first → length second' ≡ length second
      → t ≡ added_to m.reference v (second_patches (room_of first' second') m ws other_faces (in_fours (other_part true k both)))
      → r ≡ magnitude_of_sum t → r ≡ overlap_of (room_of first second) vs faces ws other_faces
  unfolding overlap_of
  overlap_is first' second' g a b h e =
      let of_first = first_patches (room_of first second) m vs faces (in_fours (other_part false n both)) in
      rw (
        ← q,
        ← others_first j,
        ← others_second j,
        added_append m.reference zero64 of_first,
        ← sum,
        g,
        ← same_room first' second' first second a b,
        ← h,
      ) e

-- ---- how that list is laid: the first n numbers of a list l are the first cell's planes, and b, whose first k numbers are the second's,
-- comes into the places from n on
take_past : (a b : List Float) (n k : ℕ) → length a ≡ n → take (k + n) (a ++ b) ≡ a ++ take k b
take_past [] b zero k h = rw (add-zero k)
take_past [] b (suc n) k h = absurd (omega arith)
take_past (x ∷ a) b zero k h = absurd (omega arith)
take_past (x ∷ a) b (suc n) k h =
    let e : k + suc n ≡ suc (k + n) = omega arith in
    rw e (ap (λ (l : List Float). x ∷ l) (take_past a b n k (omega arith)))

module _ (n k : ℕ) (l : List Float) (room : n ≤ length l) where
  -- nothing is left behind b
  joined : {firsts seconds : List Plane} (b rest : List Float) → k ≤ length b → length rest ≡ 0
      → in_fours (take n l) ≡ firsts → in_fours (take k b) ≡ seconds
      → Joint n k firsts seconds (take (k + n) (take n l ++ (b ++ rest)))
  joined b [] h z f g =
      let front : length (take n l) ≡ n = simp length-take (omega arith) in
      rw (append-nil b, take_past (take n l) b n k front)
      (record {
        size = simp (length-append, length-take) (omega arith);
        of_first = rw (take_at (take n l) (take k b) n front) f;
        of_second = rw (drop_at (take n l) (take k b) n front) g;
      })
  joined b (x ∷ rest) h z f g = absurd (omega arith)

  pub joint_laid : {firsts seconds : List Plane} (b : List Float) (all : ℕ) → all ≡ k + n → k ≤ length b
      → in_fours (take n l) ≡ firsts → in_fours (take k b) ≡ seconds → Joint n k firsts seconds (take all (put_mid n (length l - n) l b))
  joint_laid b all e h f g = rw e (joined b _ h (simp length-drop (omega arith)) f g)

-- the front of a list, as the code cuts it off
pub joint_cut : {n k : ℕ} {firsts seconds : List Plane} (all : ℕ) (l : List Float) → Joint n k firsts seconds (take all l)
    → Joint n k firsts seconds (take (all - 0) l)
joint_cut all l j = rw (sub-zero all) j

-- ---- how many faces have no area: all but those that have a plane
pub with_others : (vs : List Point) (c es : List ℕ) {n : ℕ} → n ≡ length (planes_of vs (faces_of c es))
    → n + no_area_count vs (faces_of c es) ≡ length es
with_others vs c es e = rw e (planes_count vs (faces_of c es) ∙ length_faces c es)

pub left_over : (n : ℕ) {k all : ℕ} → n + k ≡ all → all - n ≡ k
left_over n e = omega arith

-- a cell that is sound has few coordinates
pub few_coordinates : {coords : List Float} {corners ends : List ℕ} → Sound coords corners ends → length coords ≤ most_coordinates
few_coordinates {coords} sound = omega (arith, length_threes coords, sound.threes, sound.few)
