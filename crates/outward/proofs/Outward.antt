-- What a turned corner list has to do with the list before: as many corners, the same faces turned, and a sound cell again.
-- The loop of `into_ccw` uses the first; the others say to a reader that `outward_corners` is what its name says.
use mathlib.Core.Path.{◌≡◌, refl, ◌∙◌, ap}
use mathlib.Core.Logic.{◌⊎◌, inl, inr, ⊎_elim}
use mathlib.Core.Bool.{Bool, true, false, cond}
use mathlib.Core.List.{List, [], ◌∷◌, ◌++◌, map, reverse, append_assoc}
use Prim.Native.Nat.{ℕ, ◌-◌, ◌<◌}
use native.Mathlib.Nat.{sub-zero}
use native.Mathlib.Omega.{arith}
use lib.Dec.{T, eqb→eq}
use lib.ListN.{length, get_or, length-append, length-reverse}
use lib.Seq.{slice, length-slice, take_at, drop_at}
use lib.Ieee.{Float, lt}
use Rattle.places.specs.Loops.{any_of}
use Rattle.places.specs.Lists.{Each}
use Rattle.places.specs.Stored.{joined}
use Rattle.places.proofs.Lists.{each_nil, each_append, each_slice, map_at}
use Rattle.places.proofs.Reversal.{reverse_at}
use Rattle.floats.specs.F64.{zero64}
use Rattle.flat.specs.Points.{Point, vertices_of, centroid_of}
use Rattle.cell.specs.Faces.{faces_from, faces_of, rises}
use Rattle.cell.specs.Refusals.{is_empty, empty_refused}
use Rattle.cell.specs.Steps.{Sound}
use Rattle.cell.proofs.Faces.{Step, rises_more, length_faces}
use Rattle.outward.specs.Outward.{away_of, outward_of, outward_corners}

-- ---- a face turned outward
module _ (vs : List Point) (reference : Point) (face : List ℕ) where
  -- it is the face or its reverse
  pub outward_either : (outward_of vs reference face ≡ face) ⊎ (outward_of vs reference face ≡ reverse face)
  unfolding outward_of
  outward_either = go (lt (away_of vs reference face) zero64)
    where
      go : (b : Bool) → (cond b (reverse face) face ≡ face) ⊎ (cond b (reverse face) face ≡ reverse face)
      go true = inr refl
      go false = inl refl

  pub length_outward : length (outward_of vs reference face) ≡ length face
  length_outward = ⊎_elim (λ e. ap length e) (λ e. ap length e ∙ length-reverse face) outward_either

  -- what holds of its corners holds of the turned face's
  each_outward : {P : ℕ → Type 0} → Each 0 P face → Each 0 P (outward_of vs reference face)
  each_outward {P} h = ⊎_elim (λ e. rw e h) (λ e. rw e (record { holds = back })) outward_either
    where
      back : (k : ℕ) → k < length (reverse face) → P (get_or (reverse face) k 0)
      back k g =
          let n : length (reverse face) ≡ length face = length-reverse face in
          rw (reverse_at 0 face k (omega arith)) (h.holds (length face - 1 - k) (omega arith))

-- ---- the faces of the corners c, each changed by an f that keeps the number of corners, one after the other
module _ (f : List ℕ → List ℕ) (keeps : (l : List ℕ) → length (f l) ≡ length l) (c : List ℕ) where
  length_joined : (p : ℕ) (es : List ℕ) → T (rises p es (length c)) → length (joined (map f (faces_from p c es))) ≡ length c - p
  unfolding joined
  length_joined p [] t = omega (arith, eqb→eq p (length c) t)
  length_joined p (e ∷ es) t =
      let s : Step p (e ∷ es) (length c) 0 e = rises_more p (e ∷ es) (length c) 0 e (omega arith) refl t in
      rw (length-append, keeps (slice p e c), length-slice p e c s.upto, length_joined e es s.rest) (omega arith)

  -- after the corners `done`, up to p, they are the faces from p on of the whole list
  faces_joined : (done : List ℕ) (p : ℕ) (es : List ℕ) → length done ≡ p → T (rises p es (length c))
      → faces_from p (done ++ joined (map f (faces_from p c es))) es ≡ map f (faces_from p c es)
  unfolding joined
  faces_joined done p [] n t = refl
  faces_joined done p (e ∷ es) n t =
      let s : Step p (e ∷ es) (length c) 0 e = rises_more p (e ∷ es) (length c) 0 e (omega arith) refl t in
      let face = f (slice p e c) in
      let rest = joined (map f (faces_from e c es)) in
      let m : length (done ++ face) ≡ e = rw (length-append, keeps (slice p e c), length-slice p e c s.upto) (omega arith) in
      rw (
        ← append_assoc done face rest,
        take_at (done ++ face) rest e m,
        drop_at done face p n,
        faces_joined (done ++ face) e es m s.rest,
      )

  each_joined : {P : ℕ → Type 0} → ((l : List ℕ) → Each 0 P l → Each 0 P (f l)) → Each 0 P c → (p : ℕ) (es : List ℕ)
      → Each 0 P (joined (map f (faces_from p c es)))
  unfolding joined
  each_joined g h p [] = each_nil
  each_joined g h p (e ∷ es) =
      each_append (f (slice p e c)) (joined (map f (faces_from e c es))) (g (slice p e c) (each_slice p e c h)) (each_joined g h e es)

  empty_mapped : (fs : List (List ℕ)) → any_of is_empty (map f fs) ≡ any_of is_empty fs
  unfolding any_of is_empty
  empty_mapped [] = refl
  empty_mapped (l ∷ fs) = rw (keeps l, empty_mapped fs)

-- ---- the turned list
module _ (vs : List Point) (c es : List ℕ) (ordered : T (rises 0 es (length c))) where
  -- has as many corners as before
  pub length_turned : length (outward_corners vs (faces_of c es)) ≡ length c
  unfolding outward_corners faces_of
  length_turned =
      length_joined (outward_of vs (centroid_of 3 vs)) (length_outward vs (centroid_of 3 vs)) c 0 es ordered
      ∙ sub-zero (length c)

  -- and its faces, cut at the same ends, are the faces before, each turned outward
  pub faces_turned : faces_of (outward_corners vs (faces_of c es)) es ≡ map (outward_of vs (centroid_of 3 vs)) (faces_of c es)
  unfolding outward_corners faces_of
  faces_turned = faces_joined (outward_of vs (centroid_of 3 vs)) (length_outward vs (centroid_of 3 vs)) c [] 0 es refl ordered

  -- so each is the face before or its reverse
  pub face_either : (k : ℕ) → k < length es
      → (get_or (faces_of (outward_corners vs (faces_of c es)) es) k [] ≡ get_or (faces_of c es) k [])
      ⊎ (get_or (faces_of (outward_corners vs (faces_of c es)) es) k [] ≡ reverse (get_or (faces_of c es) k []))
  face_either k h =
      let reference = centroid_of 3 vs in
      rw (faces_turned, map_at (outward_of vs reference) (faces_of c es) k [] [] (rw (length_faces c es) h))
      (outward_either vs reference (get_or (faces_of c es) k []))

  -- and none is empty where none was
  pub empty_turned : empty_refused (outward_corners vs (faces_of c es)) es ≡ empty_refused c es
  unfolding empty_refused
  empty_turned = rw faces_turned (empty_mapped (outward_of vs (centroid_of 3 vs)) (length_outward vs (centroid_of 3 vs)) c (faces_of c es))

-- a cell stays sound when its faces are turned
pub sound_turned : (coords : List Float) (c es : List ℕ) → Sound coords c es
    → Sound coords (outward_corners (vertices_of coords) (faces_of c es)) es
unfolding outward_corners faces_of
sound_turned coords c es s =
    let vs = vertices_of coords in
    let reference = centroid_of 3 vs in
    let n : length (outward_corners vs (faces_of c es)) ≡ length c = length_turned vs c es s.ordered in
    record {
      threes = s.threes;
      some = s.some;
      few = s.few;
      few_faces = s.few_faces;
      few_corners = rw n s.few_corners;
      ordered = rw n s.ordered;
      inside = each_joined (outward_of vs reference) (length_outward vs reference) c (λ l h. each_outward vs reference l h) s.inside 0 es;
    }
