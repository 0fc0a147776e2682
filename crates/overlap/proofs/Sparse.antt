-- A list of planes with planes of four NaN left out clips an outline of at least 3 points as the whole list does. No plane is the same as
-- such a plane, from the same side or the other, and it leaves such an outline whole, since no point is beyond it. Of an outline under 3
-- points every plane leaves nothing. So there the two may differ, where all planes were left out: nothing was left, and now the outline
-- itself is.
use mathlib.Core.Path.{◌≡◌, refl, sym, ap}
use mathlib.Core.Bool.{Bool, true, false, cond}
use mathlib.Core.List.{List, [], ◌∷◌}
use Prim.Native.Nat.{ℕ, ◌<◌, ◌≤◌}
use native.Mathlib.Nat.{lt_of_not-le}
use native.Mathlib.Decide.{dec_le}
use lib.Dec.{ltb}
use lib.ListN.{length}
use lib.Ieee.{Float}
use borrow.Author.Tests.{lt-ltb, le-ltb}
use Rattle.places.specs.Loops.{any_of, count_of}
use Rattle.floats.proofs.Nans.{not_below_nan}
use Rattle.flat.specs.Points.{Point, corners_of}
use Rattle.planes.specs.declared.Plane.{Plane}
use Rattle.planes.specs.Planes.{no_area, has_plane, newell_plane, has_no_area, plane_of, with_plane, planes_of, same_side}
use Rattle.planes.proofs.NoArea.{nan_plane, no_area_nan, nan_distance, nan_same_side, same_side_nan}
use Rattle.work_lists.specs.WorkLists.{Change, whole, gone, Outcome, nothing, no_room, outline, left_by, run_of, clipped_of}
use Rattle.clip.specs.Clip.{beyond, plane_change, clip_face_of}
use Rattle.clip.proofs.Points.{MadePoints, made_whole, made_gone, made_full, made_some, plane_points}
use Rattle.overlap.specs.Overlap.{other_planes}
use Rattle.overlap.proofs.Former.{former_planes}

-- the second list is the first with some planes of four NaN left out
pub data Sparse : List Plane → List Plane → Type 0 where
  sparse_none : Sparse [] []
  sparse_keep : (p : Plane) {l k : List Plane} → Sparse l k → Sparse (p ∷ l) (p ∷ k)
  sparse_drop : {l k : List Plane} → Sparse l k → Sparse (nan_plane ∷ l) k

-- ---- such are the planes of the faces that have area
one_face : (ps : List Point) {l k : List Plane} → Sparse l k → Sparse (newell_plane ps ∷ l) (with_plane (plane_of ps) k)
unfolding plane_of
one_face ps {l} {k} h = go (has_no_area ps) refl
  where
    go : (b : Bool) → has_no_area ps ≡ b → Sparse (newell_plane ps ∷ l) (with_plane (cond b no_area (has_plane (newell_plane ps))) k)
    go true e = rw (no_area_nan ps e) (sparse_drop h)
    go false e = sparse_keep (newell_plane ps) h

pub planes_sparse : (vs : List Point) (faces : List (List ℕ)) → Sparse (former_planes vs faces) (planes_of vs faces)
unfolding former_planes planes_of
planes_sparse vs [] = sparse_none
planes_sparse vs (face ∷ faces) = one_face (corners_of vs face) (planes_sparse vs faces)

-- ---- the planes save those that are another
either_sparse : (p : Plane) (b : Bool) {l k : List Plane} → Sparse l k → Sparse (cond b l (p ∷ l)) (cond b k (p ∷ k))
either_sparse p true h = h
either_sparse p false h = sparse_keep p h

pub others_sparse : (q : Plane) (tol : Float) {l k : List Plane} → Sparse l k → Sparse (other_planes q tol l) (other_planes q tol k)
unfolding other_planes
others_sparse q tol sparse_none = sparse_none
others_sparse q tol (sparse_keep p h) = either_sparse p (same_side q p tol) (others_sparse q tol h)
others_sparse q tol (sparse_drop h) = rw (same_side_nan q tol) (sparse_drop (others_sparse q tol h))

-- save those that are the plane of four NaN: none is
pub others_all : (tol : Float) (l : List Plane) → other_planes nan_plane tol l ≡ l
unfolding other_planes
others_all tol [] = refl
others_all tol (p ∷ l) = rw (nan_same_side p tol, others_all tol l)

-- ---- a test of the planes
pub any_sparse : (test : Plane → Bool) {l k : List Plane} → test nan_plane ≡ false → Sparse l k → any_of test l ≡ any_of test k
unfolding any_of
any_sparse test e sparse_none = refl
any_sparse test e (sparse_keep p h) = ap (λ (b : Bool). cond (test p) true b) (any_sparse test e h)
any_sparse test e (sparse_drop h) = rw e (any_sparse test e h)

pub any_never : {A : Type 0} (test : A → Bool) → ((x : A) → test x ≡ false) → (l : List A) → any_of test l ≡ false
unfolding any_of
any_never test e [] = refl
any_never test e (x ∷ l) = rw (e x) (any_never test e l)

count_never : {A : Type 0} (test : A → Bool) → ((x : A) → test x ≡ false) → (l : List A) → count_of test l ≡ 0
unfolding count_of
count_never test e [] = refl
count_never test e (x ∷ l) = rw (e x, count_never test e l)

-- ---- the planes one after the other
module _ (room : ℕ) (eps : Float) where
  nan_whole : (ps : List Point) → 3 ≤ length ps → plane_change room eps nan_plane ps ≡ whole
  unfolding plane_change
  nan_whole ps h =
      let none_out = count_never (beyond nan_plane eps) (λ p. rw (nan_distance p) (not_below_nan eps)) ps in
      rw (le-ltb (length ps) 3 h, none_out)

  short_gone : (p : Plane) (ps : List Point) → length ps < 3 → plane_change room eps p ps ≡ gone
  unfolding plane_change
  short_gone p ps h = rw (lt-ltb (length ps) 3 h)

  run_nothing : (l : List Plane) → run_of (plane_change room eps) l nothing ≡ nothing
  unfolding run_of
  run_nothing [] = refl
  run_nothing (p ∷ l) = refl

  run_no_room : (l : List Plane) → run_of (plane_change room eps) l no_room ≡ no_room
  unfolding run_of
  run_no_room [] = refl
  run_no_room (p ∷ l) = refl

-- where an outline is left, it has at least 3 points
data Wide : Outcome → Type 0 where
  wide_nothing : Wide nothing
  wide_no_room : Wide no_room
  wide_outline : {second : Bool} {ps : List Point} → 3 ≤ length ps → Wide (outline second ps)

wide_left : {c : Change} (second : Bool) (ps : List Point) → MadePoints c → 3 ≤ length ps → Wide (left_by c second ps)
wide_left second ps made_whole h = wide_outline h
wide_left second ps made_gone h = wide_nothing
wide_left second ps made_full h = wide_no_room
wide_left second ps (made_some g) h = wide_outline g

run_sparse : (room : ℕ) (eps : Float) {l k : List Plane} {o : Outcome} → Sparse l k → Wide o
    → run_of (plane_change room eps) l o ≡ run_of (plane_change room eps) k o
unfolding run_of
run_sparse room eps sparse_none w = refl
run_sparse room eps (sparse_keep p h) wide_nothing = refl
run_sparse room eps (sparse_keep p h) wide_no_room = refl
run_sparse room eps (sparse_keep p h) (wide_outline {second = second} {ps = ps} w) =
    run_sparse room eps h (wide_left second ps (plane_points room eps p ps) w)
run_sparse room eps (sparse_drop {k = k} h) wide_nothing = sym (run_nothing room eps k)
run_sparse room eps (sparse_drop {k = k} h) wide_no_room = sym (run_no_room room eps k)
run_sparse room eps (sparse_drop h) (wide_outline {ps = ps} w) = rw (nan_whole room eps ps w) (run_sparse room eps h (wide_outline w))

-- ---- what was left and what is left: the same, or nothing and an outline under 3 points
pub data SameOutcome : Outcome → Outcome → Type 0 where
  outcome_same : {o : Outcome} → SameOutcome o o
  outcome_short : (second : Bool) {ps : List Point} → length ps < 3 → SameOutcome nothing (outline second ps)

pub outcome_either : (b : Bool) {o o' q q' : Outcome} → SameOutcome o o' → SameOutcome q q' → SameOutcome (cond b o q) (cond b o' q')
outcome_either true h g = h
outcome_either false h g = g

module _ (room : ℕ) (eps : Float) (ps : List Point) where
  abbrev clipped : List Plane → Outcome
  clipped l = run_of (plane_change room eps) l (outline false ps)

  module _ (h : length ps < 3) where
    some_plane : (p : Plane) (l : List Plane) → clipped (p ∷ l) ≡ nothing
    unfolding run_of
    some_plane p l = rw (short_gone room eps p ps h) (run_nothing room eps l)

    beside_nothing : (k : List Plane) → SameOutcome nothing (clipped k)
    unfolding run_of
    beside_nothing [] = outcome_short false h
    beside_nothing (p ∷ k) = rw (some_plane p k) outcome_same

    short_sparse : {l k : List Plane} → Sparse l k → SameOutcome (clipped l) (clipped k)
    short_sparse sparse_none = outcome_same
    short_sparse (sparse_keep p {l = l} {k = k} g) = rw (some_plane p l) (beside_nothing (p ∷ k))
    short_sparse (sparse_drop {l = l} {k = k} g) = rw (some_plane nan_plane l) (beside_nothing k)

  left_sparse : {l k : List Plane} → Sparse l k → SameOutcome (clipped l) (clipped k)
  left_sparse {l} {k} g = go (dec_le 3 (length ps))
    where
      go : Dec (3 ≤ length ps) → SameOutcome (clipped l) (clipped k)
      go (yes h) = rw (run_sparse room eps g (wide_outline {second = false} {ps = ps} h)) outcome_same
      go (no h) = short_sparse (lt_of_not-le h) g

  pub clip_sparse : {l k : List Plane} → Sparse l k → SameOutcome (clip_face_of room eps l ps) (clip_face_of room eps k ps)
  unfolding clip_face_of clipped_of
  clip_sparse g = outcome_either (ltb room (length ps)) outcome_same (left_sparse g)
