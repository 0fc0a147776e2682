-- The volume that two cells share keeps every bit of what it was before a face could have no area (proofs/Former.antt), for all lists.
-- The planes of four NaN that are left out changed nothing (proofs/Sparse.antt), save for a face under 3 corners: nothing was left of it,
-- where now the face itself may be. Its contribution is +0, and +0 changes no sum, for the sum starts at +0 and is never −0.
use mathlib.Core.Path.{◌≡◌, refl, sym, ap}
use mathlib.Core.Bool.{Bool, true, false, cond}
use mathlib.Core.List.{List, [], ◌∷◌, ◌++◌, map}
use Prim.Native.Nat.{ℕ}
use lib.Dec.{T}
use lib.Ieee.{Float, binary64, fits}
use lib.Ieee.Fits.{div-fits}
use Rattle.std.specs.Prelude.{Result, Ok}
use Rattle.places.specs.Loops.{any_of}
use Rattle.floats.specs.F64.{◌+f◌, zero64}
use Rattle.floats.proofs.PlusZero.{NotMinusZero, zero_not_minus, plus_zero, sum_again}
use Rattle.flat.specs.Points.{Point, corners_of, bounds_of}
use Rattle.planes.specs.declared.Plane.{Plane}
use Rattle.planes.specs.Planes.{no_area, has_plane, newell_plane, has_no_area, plane_of}
use Rattle.planes.proofs.NoArea.{nan_plane, no_area_nan, nan_same_side, same_side_nan, nan_opposite, opposite_nan}
use Rattle.work_lists.specs.declared.NoRoom.{NoRoom}
use Rattle.work_lists.specs.WorkLists.{Outcome, nothing, no_room, outline}
use Rattle.clip.specs.Clip.{clip_face_of}
use Rattle.overlap.specs.declared.Measures.{Measures}
use Rattle.overlap.specs.Tolerances.{boxes_miss, measures_of}
use Rattle.overlap.specs.Overlap.{contribution_of, first_skip, second_skip, first_patch, second_patch, first_patches}
use Rattle.overlap.specs.Overlap.{second_patches, added_to, magnitude_of_sum, overlap_of, intersection_of}
use Rattle.overlap.proofs.Fans.{contribution_none}
use Rattle.overlap.proofs.Former.{former_first, former_second, former_overlap, former_intersection}
use Rattle.overlap.proofs.Sparse.{Sparse, planes_sparse, others_sparse, others_all, any_sparse, any_never}
use Rattle.overlap.proofs.Sparse.{SameOutcome, outcome_same, outcome_short, outcome_either, clip_sparse}

-- ---- what is left of one face, with the planes of the other cell as they were, l, and as they are, k
module _ (room : ℕ) (m : Measures) {l k : List Plane} (h : Sparse l k) (ps : List Point) where
  abbrev tol : Float
  tol = m.coplanar

  -- by a test that passes of no plane, and by one that does not pass of a plane of four NaN
  never_skipped : (test : Plane → Bool) → ((p : Plane) → test p ≡ false)
      → SameOutcome (cond (any_of test l) nothing (clip_face_of room m.eps l ps)) (clip_face_of room m.eps k ps)
  never_skipped test e = rw (any_never test e l) (clip_sparse room m.eps ps h)

  skipped_alike : (test : Plane → Bool) {l' k' : List Plane} → test nan_plane ≡ false → Sparse l' k'
      → SameOutcome (cond (any_of test l) nothing (clip_face_of room m.eps l' ps))
      (cond (any_of test k) nothing (clip_face_of room m.eps k' ps))
  skipped_alike test e g =
      rw (any_sparse test e h) (outcome_either (any_of test k) outcome_same (clip_sparse room m.eps ps g))

  -- a face of the first cell
  first_alike : (b : Bool) → has_no_area ps ≡ b
      → SameOutcome (former_first room m l ps) (first_patch room m k ps (cond b no_area (has_plane (newell_plane ps))))
  unfolding former_first first_patch
  first_alike true e =
      rw (no_area_nan ps e, others_all tol l) (never_skipped (first_skip nan_plane tol) (λ p. nan_opposite p tol))
  first_alike false e =
      skipped_alike (first_skip (newell_plane ps) tol) (opposite_nan (newell_plane ps) tol) (others_sparse (newell_plane ps) tol h)

  same_first : SameOutcome (former_first room m l ps) (first_patch room m k ps (plane_of ps))
  unfolding plane_of
  same_first = first_alike (has_no_area ps) refl

  -- a face of the second cell
  second_alike : (b : Bool) → has_no_area ps ≡ b
      → SameOutcome (former_second room m l ps) (second_patch room m k ps (cond b no_area (has_plane (newell_plane ps))))
  unfolding former_second second_patch
  second_alike true e =
      rw (no_area_nan ps e) (never_skipped (second_skip nan_plane tol) (λ p. rw (opposite_nan p tol, same_side_nan p tol)))
  second_alike false e =
      let q = newell_plane ps in
      skipped_alike (second_skip q tol) (rw (nan_opposite q tol, nan_same_side q tol)) h

  same_second : SameOutcome (former_second room m l ps) (second_patch room m k ps (plane_of ps))
  unfolding plane_of
  same_second = second_alike (has_no_area ps) refl

-- ---- what is left of all faces
data EachSame : List Outcome → List Outcome → Type 0 where
  each_none : EachSame [] []
  each_more : {o q : Outcome} {os qs : List Outcome} → SameOutcome o q → EachSame os qs → EachSame (o ∷ os) (q ∷ qs)

each_face : {A : Type 0} (f g : A → Outcome) → ((x : A) → SameOutcome (f x) (g x)) → (xs : List A) → EachSame (map f xs) (map g xs)
each_face f g h [] = each_none
each_face f g h (x ∷ xs) = each_more (h x) (each_face f g h xs)

each_append : {os qs os' qs' : List Outcome} → EachSame os qs → EachSame os' qs' → EachSame (os ++ os') (qs ++ qs')
each_append each_none g = g
each_append (each_more e h) g = each_more e (each_append h g)

-- ---- the sum
contribution_fits : (ref : Point) (ps : List Point) → T (fits binary64 (contribution_of ref ps))
unfolding contribution_of
contribution_fits ref [] = div-fits binary64 _ _
contribution_fits ref (p ∷ ps) = div-fits binary64 _ _

same_added : (ref : Point) (v : Float) {os qs : List Outcome} → EachSame os qs → NotMinusZero v → added_to ref v os ≡ added_to ref v qs
unfolding added_to
same_added ref v each_none s = refl
same_added ref v (each_more (outcome_same {o = nothing}) h) s = same_added ref v h s
same_added ref v (each_more (outcome_same {o = no_room}) h) s = refl
same_added ref v (each_more (outcome_same {o = outline second []}) h) s = same_added ref v h s
same_added ref v (each_more (outcome_same {o = outline second (p ∷ ps)}) h) s =
    let c = contribution_of ref (p ∷ ps) in same_added ref (v +f c) h (sum_again v c (contribution_fits ref (p ∷ ps)) s)
same_added ref v (each_more (outcome_short second {ps = []} e) h) s = same_added ref v h s
same_added ref v (each_more (outcome_short second {ps = p ∷ ps} e) h) s =
    rw (← contribution_none ref (p ∷ ps) e, plus_zero v s) (same_added ref v h s)

-- ---- the volume
pub same_bits : (room : ℕ) (vs : List Point) (faces : List (List ℕ)) (ws : List Point) (other_faces : List (List ℕ))
    → intersection_of room vs faces ws other_faces ≡ former_intersection room vs faces ws other_faces
unfolding intersection_of overlap_of first_patches second_patches former_intersection former_overlap
same_bits room vs faces ws other_faces =
    let m = measures_of vs ws in
    let first = each_face _ _ (λ face. same_first room m (planes_sparse ws other_faces) (corners_of vs face)) faces in
    let second = each_face _ _ (λ face. same_second room m (planes_sparse vs faces) (corners_of ws face)) other_faces in
    ap (λ (s : Result Float NoRoom). cond (boxes_miss (bounds_of 3 vs) (bounds_of 3 ws)) (Ok zero64) (magnitude_of_sum s))
    (sym (same_added m.reference zero64 (each_append first second) zero_not_minus))
