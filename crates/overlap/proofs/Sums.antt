-- The loop of `add_faces`: the planes of the faces that have area stand in a list, in the order of the faces, and what is left of the faces
-- is taken into the sum, one after the other.
use mathlib.Core.Path.{◌≡◌, refl, sym, ◌∙◌}
use mathlib.Core.Bool.{Bool, true, false, cond}
use mathlib.Core.List.{List, [], ◌∷◌, ◌++◌, map}
use Prim.Native.Nat.{ℕ, ◌+◌, ◌*◌, ◌<◌, ◌≤◌, zero-le}
use native.Mathlib.Omega.{arith}
use lib.Dec.{T}
use lib.ListN.{length, get_or, take, drop, length-take, length-drop}
use lib.Seq.{slice}
use lib.Ieee.{Float}
use Rattle.std.specs.Prelude.{Some, None, Result, Ok, Err}
use Rattle.places.proofs.Lists.{each_slice}
use Rattle.places.proofs.Stored.{threes_take}
use Rattle.floats.specs.F64.{◌+f◌}
use Rattle.flat.specs.Points.{Point, vertices_of}
use Rattle.cell.specs.Faces.{faces_from, faces_of, rises}
use Rattle.cell.specs.Steps.{Sound}
use Rattle.cell.proofs.Faces.{Step, faces_more, faces_none, rises_more}
use Rattle.planes.specs.declared.Plane.{Plane}
use Rattle.work_lists.specs.declared.NoRoom.{NoRoom}
use Rattle.work_lists.specs.declared.Outline.{Outline}
use Rattle.work_lists.specs.WorkLists.{Outcome, nothing, no_room, outline}
use Rattle.work_lists.specs.Steps.{Ended}
use Rattle.work_lists.proofs.Endings.{room_lacks}
use Rattle.overlap.specs.declared.Measures.{Measures}
use Rattle.overlap.specs.Overlap.{first_patches, second_patches, contribution_of, added_to}
use Rattle.overlap.specs.Steps.{face_patch, patches_of, room_of, Ready}
use Rattle.overlap.proofs.Patches.{same_room}

pub patches_are : (other : Bool) (room : ℕ) (m : Measures) (vs : List Point) (planes : List Plane) (faces : List (List ℕ))
    → patches_of other room m vs faces planes ≡ map (face_patch other room m vs planes) faces
unfolding first_patches second_patches
patches_are true room m vs planes faces = refl
patches_are false room m vs planes faces = refl

-- ---- the lists that are lent keep their lengths
pub record SameLengths (kept₀ first₀ second₀ kept first second : List Float) : Type 0 where
  pub of_kept : length kept ≡ length kept₀
  pub of_first : length first ≡ length first₀
  pub of_second : length second ≡ length second₀

pub lengths_start : {kept first second : List Float} → SameLengths kept first second kept first second
lengths_start = record { of_kept = refl; of_first = refl; of_second = refl }

module _ {kept₀ first₀ second₀ kept first second : List Float} (same : SameLengths kept₀ first₀ second₀ kept first second) where
  pub lengths_kept : {kept' first' second' : List Float} → length kept' ≡ length kept → length first' ≡ length first
      → length second' ≡ length second → SameLengths kept₀ first₀ second₀ kept' first' second'
  lengths_kept e f g = record { of_kept = e ∙ same.of_kept; of_first = f ∙ same.of_first; of_second = g ∙ same.of_second }

  -- so the room is as it was
  pub room_kept : room_of first second ≡ room_of first₀ second₀
  room_kept = same_room first second first₀ second₀ same.of_first same.of_second

-- the face k is ready to be clipped
pub ready_at : {coords planes first second : List Float} {c es face : List ℕ} (p e : ℕ) → Sound coords c es → face ≡ slice p e c
    → length planes ≤ 1024 → length first ≤ 3072 → length second ≤ 3072 → Ready (vertices_of coords) face planes first second
ready_at {c = c} p e sound f few s t =
    rw f
    (record {
      inside = each_slice p e c sound.inside;
      few_corners = simp (length-drop, length-take) (omega (arith, sound.few_corners));
      few_planes = few;
      short_first = s;
      short_second = t;
    })

-- ---- one face taken into the sum v, as its answer says
pub took_nothing : {o : Outcome} {a b : List Point} (ref : Point) (v : Float) → Ended o (Ok None) a b → Ok v ≡ added_to ref v (o ∷ [])
unfolding added_to
took_nothing {o = nothing} ref v q = refl
took_nothing {o = no_room} ref v q = cc q.answer
took_nothing {o = outline s []} ref v q = refl
took_nothing {o = outline s (p ∷ ps)} ref v q = cc q.answer

took_outline : {o : Outcome} {left : Outline} {a b : List Point} (ref : Point) (v : Float) → Ended o (Ok (Some left)) a b
    → Ok (v +f contribution_of ref (take left.points (cond left.in_second b a))) ≡ added_to ref v (o ∷ [])
unfolding added_to
took_outline {o = nothing} ref v q = cc q.answer
took_outline {o = no_room} ref v q = cc q.answer
took_outline {o = outline t []} ref v q = cc q.answer
took_outline {o = outline t (p ∷ ps)} {left} ref v q =
    let size : left.points ≡ length (p ∷ ps) = cc q.answer in
    let side : left.in_second ≡ t = cc q.answer in
    rw (size, side, q.stands)

-- the same for a face that is taken in with a sum, measures, room and numbers that are those of the loop
pub face_taken : {r : Result Float NoRoom} {other other' : Bool} {m m' : Measures} {v v' : Float} {room room' : ℕ} {face face' : List ℕ}
    (vs : List Point) (planes : List Plane) → other' ≡ other → m' ≡ m → v' ≡ v → room' ≡ room → face' ≡ face
    → r ≡ added_to m'.reference v' (face_patch other' room' m' vs planes face' ∷ [])
    → r ≡ added_to m.reference v (face_patch other room m vs planes face ∷ [])
face_taken vs planes a b c d e q = rw (← a, ← b, ← c, ← d, ← e) q

-- the points of the stretch that shows an outline
shown_points : (n : ℕ) (s : Bool) (a b : List Float)
    → vertices_of (take (n * 3) (cond s b a)) ≡ take n (cond s (vertices_of b) (vertices_of a))
shown_points n true a b = threes_take n b
shown_points n false a b = threes_take n a

pub took_shown : {o : Outcome} {left : Outline} {shown : List Float} {w : Float} (ref : Point) (v : Float) (a b : List Float)
    → Ended o (Ok (Some left)) (vertices_of a) (vertices_of b) → shown ≡ take (left.points * 3) (cond left.in_second b a)
    → w ≡ contribution_of ref (vertices_of shown)
    → Ok (v +f w) ≡ added_to ref v (o ∷ [])
took_shown {left} ref v a b q f g = rw (g, f, shown_points left.points left.in_second a b) (took_outline ref v q)

pub took_refusal : {o : Outcome} {e f : NoRoom} {a b : List Point} (ref : Point) (v : Float) → Ended o (Err e) a b
    → Err f ≡ added_to ref v (o ∷ [])
unfolding added_to
took_refusal ref v q = rw (room_lacks q)

-- ---- outcomes taken in one after the other: the sum goes on from where the first ones came to
abbrev pub onward : Result Float NoRoom → (Float → Result Float NoRoom) → Result Float NoRoom
onward (Ok v) next = next v
onward (Err e) next = Err e

pub added_append : (ref : Point) (v : Float) (xs ys : List Outcome)
    → added_to ref v (xs ++ ys) ≡ onward (added_to ref v xs) (λ w. added_to ref w ys)
unfolding added_to
added_append ref v [] ys = refl
added_append ref v (nothing ∷ xs) ys = added_append ref v xs ys
added_append ref v (no_room ∷ xs) ys = refl
added_append ref v (outline s [] ∷ xs) ys = added_append ref v xs ys
added_append ref v (outline s (p ∷ ps) ∷ xs) ys = added_append ref (v +f contribution_of ref (p ∷ ps)) xs ys

-- what is left of the faces from face k on, with the previous end p
abbrev pub outcomes : (List ℕ → Outcome) → List ℕ → List ℕ → ℕ → ℕ → List Outcome
outcomes f c es p k = map f (faces_from p c (drop k es))

-- ---- the loop: from face k, the previous end p and the sum v on it comes to `whole`
pub record Adding (ref : Point) (f : List ℕ → Outcome) (c es : List ℕ) (whole : Result Float NoRoom) (p k : ℕ) (v : Float) : Type 0 where
  pub within : k ≤ length es
  pub ordered : T (rises p (drop k es) (length c))
  pub so : added_to ref v (outcomes f c es p k) ≡ whole

pub add_start : {ref : Point} {f : List ℕ → Outcome} {c es : List ℕ} {v : Float} → T (rises 0 es (length c))
    → Adding ref f c es (added_to ref v (map f (faces_of c es))) 0 0 v
unfolding faces_of
add_start t = record { within = zero-le; ordered = t; so = refl }

module _ {ref : Point} {f : List ℕ → Outcome} {c es : List ℕ} {whole : Result Float NoRoom} {p k e : ℕ}
    {v : Float} (l : Adding ref f c es whole p k v) (h : k < length es) (q : e ≡ get_or es k 0) where
  pub add_step : Step p es (length c) k e
  add_step = rises_more p es (length c) k e h q l.ordered

  -- the face k is taken in, and r is where the sum came to
  goes_on : {r : Result Float NoRoom} → r ≡ added_to ref v (f (slice p e c) ∷ [])
      → onward r (λ w. added_to ref w (outcomes f c es e (k + 1))) ≡ whole
  goes_on g =
      let next : added_to ref v (f (slice p e c) ∷ outcomes f c es e (k + 1)) ≡ whole = rw q (sym (rw (faces_more p c es k h)) ∙ l.so) in
      rw g (sym (added_append ref v (f (slice p e c) ∷ []) (outcomes f c es e (k + 1))) ∙ next)

  pub add_more : {w : Float} → Ok w ≡ added_to ref v (f (slice p e c) ∷ []) → Adding ref f c es whole e (k + 1) w
  add_more g = record { within = omega arith; ordered = add_step.rest; so = goes_on g }

  pub add_refused : {no also : NoRoom} → Err no ≡ added_to ref v (f (slice p e c) ∷ []) → Err also ≡ whole
  add_refused g = goes_on g

pub add_end : {ref : Point} {f : List ℕ → Outcome} {c es : List ℕ} {whole : Result Float NoRoom} {p k : ℕ} {v : Float}
    → Adding ref f c es whole p k v → length es ≤ k → Ok v ≡ whole
unfolding added_to
add_end {c = c} {es = es} {p = p} {k = k} l h = sym (rw (faces_none p c es k h)) ∙ l.so
