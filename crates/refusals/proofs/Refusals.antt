-- The first of two refusals and of the rows of a definition, told by the code's tests; the size of a list, told by how many numbers it
-- has; and what is known of lists and cells that are not refused, for those who go on with them.
use mathlib.Core.Path.{◌≡◌, refl, sym, ◌∙◌}
use mathlib.Core.Logic.{◌≢◌}
use mathlib.Core.Bool.{Bool, true, false, not, ◌&&◌, ◌||◌, cond}
use mathlib.Core.List.{List, [], ◌∷◌}
use Prim.Native.Nat.{ℕ, ◌-◌, ◌/◌, ◌%◌, ◌<◌, ◌≤◌}
use native.Mathlib.Omega.{arith}
use borrow.Author.Tests.{le-ltb, lt-leb, ltb-false, leb-false, eqb-true, not-false, ne_eqb}
use lib.Dec.{T, eqb, leb, ltb}
use lib.ListN.{length, get_or}
use lib.Seq.{length-slice}
use lib.Ieee.{Float}
use Rattle.std.specs.Prelude.{Ok, Err}
use Rattle.std.specs.Result.{IsErrAnd}
use Rattle.places.proofs.Refusals.{handed_on}
use Rattle.places.specs.Refusals.{Check, no_refusal}
use Rattle.places.specs.declared.refusal.Refusal.{Refusal}
use Rattle.places.specs.declared.refusal.Refusal.TheVariants.{Size, Number, Index, EmptyFace, Room, Inexact}
use Rattle.places.specs.Loops.{any_of}
use Rattle.places.specs.Lists.{Each}
use Rattle.places.specs.Stored.{in_threes}
use Rattle.places.proofs.Lists.{each_slice}
use Rattle.places.proofs.Stored.{length_threes, length_pairs}
use Rattle.exact.proofs.Conditions.{none_each}
use Rattle.flat.specs.Points.{vertices_of}
use Rattle.flat.specs.Steps.{Inside}
use Rattle.cell.specs.Faces.{faces_of, rises}
use Rattle.cell.specs.Refusals.{first_row, points_refused, number_refused, not_below, index_refused, is_empty, empty_refused, refusal_of}
use Rattle.cell.specs.Steps.{Sound}
use Rattle.cell.proofs.Faces.{face_at, rises_at, length_faces}
use Rattle.cell.proofs.Refusals.{row_applies, row_passed, row_known, no_row, or_none, any_none, all_below, Counted, counted, sound}
use Rattle.cell.proofs.Refusals.{asked_known}
use Rattle.inside.specs.Inside.{face_end}
use Rattle.inside.specs.Steps.{MarkedInside}
use Rattle.local.specs.Local.{move_refused}
use Rattle.planes.proofs.Faces.{has_corner_lem}
use Rattle.planes.proofs.Stored.{length_fours}
use Rattle.refusals.specs.Refusals.{first_refusal, list_refusal, local_refusal, pairs_refused, plane_refusal, face_refusal, faces_refusal}
use Rattle.refusals.specs.Refusals.{room_refused, triangles_refusal, strays, phed_refusal, queries_refused, survey_refusal, planes_refused}
use Rattle.refusals.specs.Refusals.{work_refused, works_refusal, clip_refusal, planar_refusal, overlap_refusal}
use Rattle.refusals.specs.Refusals.{no_area_refusal, check_size_refused, check_refusal}
use Rattle.refusals.specs.Steps.{parts_refused}

-- ---- the first of two refusals
module _ {first : Check} (rest : Check) where
  -- one that is found decides
  pub or_found : {r : Check} {why : Refusal} → IsErrAnd r (λ y. y ≡ why) → Err why ≡ first → r ≡ first_refusal first rest
  unfolding first_refusal
  or_found h e = rw (handed_on h, ← e)

  -- else the other does
  pub or_other : {r : Check} → no_refusal ≡ first → r ≡ rest → r ≡ first_refusal first rest
  unfolding first_refusal
  or_other e q = rw (← e) q

-- where neither refuses
pub or_none_of_both : (first rest : Check) → first_refusal first rest ≡ no_refusal → (first ≡ no_refusal) × (rest ≡ no_refusal)
unfolding first_refusal
or_none_of_both (Ok _) rest e = (refl, e)
or_none_of_both (Err why) rest e = absurd (cc)

-- ---- a row of a definition, told by the answer b of the code's test
module _ {b applies : Bool} (why : Refusal) (rows : List (Refusal × Bool)) (asked : b ≡ applies) where
  -- a test that holds refuses
  pub row_yes : b ≡ true → Err why ≡ first_row ((why, applies) ∷ rows)
  row_yes t = row_applies why rows (sym asked ∙ t)

  -- one that fails leaves it to the rows after it
  pub row_no : {r : Check} → b ≡ false → r ≡ first_row rows → r ≡ first_row ((why, applies) ∷ rows)
  row_no t q = row_passed why rows (sym asked ∙ t) q

-- a size that is judged before all else is row 1 by itself
module _ {b applies : Bool} (rest : Check) (asked : b ≡ applies) where
  pub size_yes : b ≡ true → Err Size ≡ first_refusal (first_row ((Size, applies) ∷ [])) rest
  size_yes t = or_found rest refl (row_yes Size [] asked t)

  pub size_no : {r : Check} → b ≡ false → r ≡ rest → r ≡ first_refusal (first_row ((Size, applies) ∷ [])) rest
  size_no t e = or_other rest (row_no Size [] asked t no_row) e

-- a row that asks for either of two: the first decides where it holds, else the second does
module _ {a x : Bool} (y : Bool) (asked : a ≡ x) where
  pub either_first : a ≡ true → x || y ≡ true
  either_first t = rw (← asked, t)

  pub either_second : {z : Bool} → a ≡ false → y ≡ z → x || y ≡ z
  either_second t u = rw (← asked, t) u

-- a row that stands alone
pub one_row : (why : Refusal) (applies : Bool) → first_row ((why, applies) ∷ []) ≡ no_refusal → applies ≡ false
one_row why applies e = (row_known why [] applies e).0

-- ---- a list stored in parts
module _ (n size most : ℕ) where
  pub not_in_parts : (n % size ≡ 0 → ⊥) → true ≡ parts_refused n size most
  unfolding parts_refused
  not_in_parts h = rw (ne_eqb (n % size) 0 h)

  pub parts_many : n % size ≡ 0 → ltb most (n / size) ≡ parts_refused n size most
  unfolding parts_refused
  parts_many e = rw e

-- the sizes of points of the plane, of query values and of planes are of that kind
pub pairs_are : (ps : List Float) → parts_refused (length ps) 2 512 ≡ pairs_refused ps
unfolding parts_refused pairs_refused
pairs_are ps = rw (length_pairs ps)

pub queries_are : (queries : List Float) → parts_refused (length queries) 3 256 ≡ queries_refused queries
unfolding parts_refused queries_refused
queries_are queries = rw (length_threes queries)

pub planes_are : (planes : List Float) → parts_refused (length planes) 4 256 ≡ planes_refused planes
unfolding parts_refused planes_refused
planes_are planes = rw (length_fours planes)

parts_known : (n size most : ℕ) → parts_refused n size most ≡ false → (n % size ≡ 0) × (n / size ≤ most)
unfolding parts_refused
parts_known n size most e =
    let size-known = or_none _ _ e in
    (eqb-true _ _ (not-false _ size-known.0), ltb-false most _ size-known.1)

-- ---- lists of points
pub list_points : (coords : List Float) → list_refusal coords ≡ no_refusal → points_refused coords ≡ false
unfolding list_refusal
list_points coords e = (row_known Size ((Number, number_refused coords) ∷ []) (points_refused coords) e).0

pub list_counted : (coords : List Float) → list_refusal coords ≡ no_refusal → Counted coords
list_counted coords e = counted coords (list_points coords e)

pub list_numbers : (coords : List Float) → list_refusal coords ≡ no_refusal → number_refused coords ≡ false
unfolding list_refusal
list_numbers coords e = one_row Number _ (row_known Size ((Number, number_refused coords) ∷ []) (points_refused coords) e).1

-- vertices that can be moved to a local origin: the list passes, and none stays behind
pub local_zero : (coords : List Float) → local_refusal coords ≡ no_refusal
    → (list_refusal coords ≡ no_refusal) × (move_refused (vertices_of coords) ≡ false)
unfolding local_refusal
local_zero coords e =
    let two = or_none_of_both _ _ e in
    (two.0, one_row Inexact _ two.1)

pub plane_counted : (ps : List Float) → plane_refusal ps ≡ no_refusal → (length ps % 2 ≡ 0) × (length ps ≤ 1024)
unfolding plane_refusal
plane_counted ps e =
    let sized = (row_known Size ((Number, number_refused ps) ∷ []) (pairs_refused ps) e).0 in
    let known = parts_known (length ps) 2 512 (pairs_are ps ∙ sized) in
    (known.0, omega (arith, known.0, known.1))

-- ---- a cell and its query points
module _ (coords : List Float) (corners ends : List ℕ) (queries : List Float)
    (e : survey_refusal coords corners ends queries ≡ no_refusal) where
  survey_zero : (first_row ((Size, queries_refused queries) ∷ []) ≡ no_refusal) × (refusal_of coords corners ends queries [] ≡ no_refusal)
  unfolding survey_refusal
  survey_zero = or_none_of_both _ _ e

  pub survey_sound : Sound coords corners ends
  survey_sound = sound coords corners ends queries [] survey_zero.1

  pub few_query_points : length (vertices_of queries) ≤ 256
  few_query_points =
      let sized = one_row Size _ survey_zero.0 in
      rw (length_threes queries) (parts_known (length queries) 3 256 (queries_are queries ∙ sized)).1

  pub few_queries : length queries ≤ 770
  few_queries = omega (arith, few_query_points, length_threes queries)

-- ---- triangles that are checked
-- for n from 3 to 256 the size is refused as that of a list in threes
pub check_size_by_parts : (n : ℕ) (places : List ℕ) → 3 ≤ n → n ≤ 256 → parts_refused (length places) 3 254 ≡ check_size_refused n places
unfolding parts_refused check_size_refused
check_size_by_parts n places h g = rw (le-ltb n 3 h, le-ltb 256 n g, length_threes places)

-- what is known of triangles over a face's places that are not refused
pub record Checked (n : ℕ) (places : List ℕ) : Type 0 where
  pub low : 3 ≤ n
  pub high : n ≤ 256
  pub threes : length places % 3 ≡ 0
  pub few : length places / 3 ≤ 254
  pub below : Each 0 (λ p. p < n) places

pub check_known : (n : ℕ) (places : List ℕ) → check_refusal n places ≡ no_refusal → Checked n places
unfolding check_refusal check_size_refused
check_known n places e =
    let one = row_known Size _ (check_size_refused n places) e in
    let four = row_known Index [] (index_refused n places) one.1 in
    let size = or_none (ltb n 3 || ltb 256 n) (not (eqb (length places % 3) 0) || ltb 254 (length (in_threes places))) one.0 in
    let corners = or_none (ltb n 3) (ltb 256 n) size.0 in
    let parts = or_none (not (eqb (length places % 3) 0)) (ltb 254 (length (in_threes places))) size.1 in
    record {
      low = ltb-false n 3 corners.0;
      high = ltb-false 256 n corners.1;
      threes = eqb-true (length places % 3) 0 (not-false (eqb (length places % 3) 0) parts.0);
      few = omega (arith, ltb-false 254 (length (in_threes places)) parts.1, length_threes places);
      below = all_below n places four.0;
    }

-- triangles over a face's places are not refused where all that `Checked` says holds of them
pub check_passes : (n : ℕ) (places : List ℕ) → Checked n places → check_refusal n places ≡ no_refusal
unfolding check_refusal check_size_refused index_refused first_row
check_passes n places k =
    let parts : length (in_threes places) ≤ 254 = omega (arith, k.few, length_threes places) in
    let below = (none_each (not_below n) 0 places).1 (record { holds = λ i h. lt-leb n _ (k.below.holds i h) }) in
    rw (le-ltb n 3 k.low, le-ltb 256 n k.high, k.threes, le-ltb 254 (length (in_threes places)) parts, below)

-- ---- a list with marks
stray_no : (n c : ℕ) → not (eqb c face_end) && leb n c ≡ false → c ≢ face_end → c < n
stray_no n c e h = leb-false n c (rw (ne_eqb c face_end h) at e)

pub phed_known : (coords : List Float) (cs : List ℕ) (p : List Float) → phed_refusal coords cs p ≡ no_refusal
    → MarkedInside (vertices_of coords) cs × (length cs ≤ 2304)
unfolding phed_refusal
phed_known coords cs p e =
    let n = length (vertices_of coords) in
    let one = row_known Size _ (points_refused coords || ltb 2304 (length cs)) e in
    let two = row_known Number _ (number_refused coords || number_refused p) one.1 in
    let four = row_known Index [] (any_of (strays n) cs) two.1 in
    let size = or_none (points_refused coords) (ltb 2304 (length cs)) one.0 in (
      record { holds = λ k h. stray_no n (get_or cs k 0) (any_none (strays n) 0 cs four.0 k h) },
      ltb-false 2304 _ size.1,
    )

-- ---- the triangles of a face
-- the check of the cell and the face's number decides where it refuses, else the room does
module _ (coords : List Float) (corners ends : List ℕ) (k room : ℕ) where
  pub first_decides : {why : Refusal} → Err why ≡ face_refusal coords corners ends k
      → Err why ≡ triangles_refusal coords corners ends k room
  unfolding triangles_refusal
  first_decides f = or_found _ refl f

  pub room_decides : (b : Bool) → no_refusal ≡ face_refusal coords corners ends k
      → b ≡ room_refused (get_or (faces_of corners ends) k []) room
      → cond b (Err Room) no_refusal ≡ triangles_refusal coords corners ends k room
  unfolding triangles_refusal first_row
  room_decides b f r = or_other _ f (rw (sym r))

-- a face that has room
pub fits : (face : List ℕ) (room : ℕ) → false ≡ room_refused face room → length face - 2 ≤ room
unfolding room_refused
fits face room e = ltb-false room _ (sym e)

-- a face of a sound cell
pub face_sound : (coords : List Float) (corners ends : List ℕ) (k : ℕ) → Sound coords corners ends → k < length ends
    → Inside (vertices_of coords) (get_or (faces_of corners ends) k []) × (length (get_or (faces_of corners ends) k []) ≤ 2048)
face_sound coords corners ends k s h =
    let start = get_or (0 ∷ ends) k 0 in
    let end = get_or ends k 0 in
    let r = rises_at 0 ends (length corners) k h s.ordered in
    rw (face_at corners ends k h) (
      each_slice start end corners s.inside,
      omega (arith, length-slice start end corners r.1, s.few_corners),
    )

-- what is known of the face k where neither the cell nor that number is refused
pub record AskedFace (coords : List Float) (corners ends : List ℕ) (k : ℕ) : Type 0 where
  pub ordered : T (rises 0 ends (length corners))
  pub there : k < length ends
  pub inside : Inside (vertices_of coords) (get_or (faces_of corners ends) k [])
  pub few : length (get_or (faces_of corners ends) k []) ≤ 2048

pub asked_face : (coords : List Float) (corners ends : List ℕ) (k : ℕ) → face_refusal coords corners ends k ≡ no_refusal
    → AskedFace coords corners ends k
asked_face coords corners ends k z =
    let s = sound coords corners ends [] (k ∷ []) z in
    let there = (asked_known coords corners ends [] (k ∷ []) z).holds 0 (omega arith) in
    let face = face_sound coords corners ends k s there in
    record { ordered = s.ordered; there = there; inside = face.0; few = face.1 }

-- a face of a cell that has no empty face
pub face_solid : (corners ends : List ℕ) (k : ℕ) → empty_refused corners ends ≡ false → k < length ends
    → 0 < length (get_or (faces_of corners ends) k [])
unfolding empty_refused
face_solid corners ends k e h = has_corner_lem _ (any_none is_empty [] (faces_of corners ends) e k (rw (length_faces corners ends) h))

-- ---- a cell whose faces all have corners
pub record FacesKnown (coords : List Float) (corners ends asked : List ℕ) : Type 0 where
  pub cell : refusal_of coords corners ends [] asked ≡ no_refusal
  pub sound : Sound coords corners ends
  pub solid : empty_refused corners ends ≡ false

pub faces_known : (coords : List Float) (corners ends asked : List ℕ) → faces_refusal coords corners ends asked ≡ no_refusal
    → FacesKnown coords corners ends asked
unfolding faces_refusal
faces_known coords corners ends asked e =
    let two = or_none_of_both _ _ e in
    record { cell = two.0; sound = sound coords corners ends [] asked two.0; solid = one_row EmptyFace _ two.1 }

-- a list that is not refused has a place for each face
pub no_area_known : (coords : List Float) (corners ends : List ℕ) (room : ℕ) → no_area_refusal coords corners ends room ≡ no_refusal
    → Sound coords corners ends × (length ends ≤ room)
unfolding no_area_refusal
no_area_known coords corners ends room e =
    let two = or_none_of_both _ _ e in (
      (faces_known coords corners ends [] two.0).sound,
      ltb-false room (length ends) (one_row Room _ two.1),
    )

-- what is known of the face k of such a cell
pub record SolidFace (coords : List Float) (corners ends : List ℕ) (k : ℕ) : Type 0 where
  pub ordered : T (rises 0 ends (length corners))
  pub there : k < length ends
  pub inside : Inside (vertices_of coords) (get_or (faces_of corners ends) k [])
  pub some : 0 < length (get_or (faces_of corners ends) k [])

pub face_known : (coords : List Float) (corners ends : List ℕ) (k : ℕ) → faces_refusal coords corners ends (k ∷ []) ≡ no_refusal
    → SolidFace coords corners ends k
face_known coords corners ends k e =
    let s = faces_known coords corners ends (k ∷ []) e in
    let h = (asked_known coords corners ends [] (k ∷ []) s.cell).holds 0 (omega arith) in
    record {
      ordered = s.sound.ordered;
      there = h;
      inside = (face_sound coords corners ends k s.sound h).0;
      some = face_solid corners ends k s.solid h;
    }

-- ---- clipping and the overlap
works_known : (first second : List Float) → works_refusal first second ≡ no_refusal → (length first ≤ 3072) × (length second ≤ 3072)
unfolding works_refusal work_refused
works_known first second e =
    let two = or_none _ _ (one_row Size _ e) in
    (ltb-false 3072 _ two.0, ltb-false 3072 _ two.1)

-- what is known where the clipping of the face k is not refused
pub record Clippable (coords : List Float) (corners ends : List ℕ) (k : ℕ) (planes first second : List Float) : Type 0 where
  pub ordered : T (rises 0 ends (length corners))
  pub there : k < length ends
  pub inside : Inside (vertices_of coords) (get_or (faces_of corners ends) k [])
  pub corners_few : length (get_or (faces_of corners ends) k []) ≤ 2048
  pub planes_few : length planes ≤ 1024
  pub first_few : length first ≤ 3072
  pub second_few : length second ≤ 3072

pub clip_known : (coords : List Float) (corners ends : List ℕ) (k : ℕ) (planes first second : List Float)
    → clip_refusal coords corners ends k planes first second ≡ no_refusal → Clippable coords corners ends k planes first second
unfolding clip_refusal
clip_known coords corners ends k planes first second e =
    let size = or_none_of_both _ _ e in
    let lists = or_none_of_both _ _ size.1 in
    let fours = parts_known (length planes) 4 256 (planes_are planes ∙ one_row Size _ size.0) in
    let works = works_known first second lists.0 in
    let face = asked_face coords corners ends k lists.1 in
    record {
      ordered = face.ordered;
      there = face.there;
      inside = face.inside;
      corners_few = face.few;
      planes_few = omega (arith, fours.0, fours.1);
      first_few = works.0;
      second_few = works.1;
    }

-- what is known where planar clipping is not refused
pub record Planar (subject clip first second : List Float) : Type 0 where
  pub subject_few : length subject ≤ 1024
  pub clip_few : length clip ≤ 1024
  pub first_few : length first ≤ 3072
  pub second_few : length second ≤ 3072

pub planar_known : (subject clip first second : List Float) → planar_refusal subject clip first second ≡ no_refusal
    → Planar subject clip first second
unfolding planar_refusal
planar_known subject clip first second e =
    let lists = or_none_of_both _ _ e in
    let outlines = or_none_of_both _ _ lists.1 in
    let works = works_known first second lists.0 in
    record {
      subject_few = (plane_counted subject outlines.0).1;
      clip_few = (plane_counted clip outlines.1).1;
      first_few = works.0;
      second_few = works.1;
    }

-- what is known where the overlap of two cells is not refused
pub record Overlapping (coords : List Float) (corners ends : List ℕ) (coords2 : List Float) (corners2 ends2 : List ℕ)
    (first second : List Float) : Type 0 where
  pub one : FacesKnown coords corners ends []
  pub other : FacesKnown coords2 corners2 ends2 []
  pub first_few : length first ≤ 3072
  pub second_few : length second ≤ 3072

pub overlap_known : (coords : List Float) (corners ends : List ℕ) (coords2 : List Float) (corners2 ends2 : List ℕ)
    (first second : List Float) → overlap_refusal coords corners ends coords2 corners2 ends2 first second ≡ no_refusal
    → Overlapping coords corners ends coords2 corners2 ends2 first second
unfolding overlap_refusal
overlap_known coords corners ends coords2 corners2 ends2 first second e =
    let lists = or_none_of_both _ _ e in
    let cells = or_none_of_both _ _ lists.1 in
    let works = works_known first second lists.0 in
    record {
      one = faces_known coords corners ends [] cells.0;
      other = faces_known coords2 corners2 ends2 [] cells.1;
      first_few = works.0;
      second_few = works.1;
    }
