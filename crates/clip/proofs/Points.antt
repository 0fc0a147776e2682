-- A clipping of an outline that has points never ends with an outline of 0 points: a plane that cuts leaves at least 3.
use mathlib.Core.Bool.{Bool, true, false, not, cond}
use mathlib.Core.List.{List, [], ◌∷◌}
use Prim.Native.Nat.{ℕ, ◌<◌, ◌≤◌}
use native.Mathlib.Omega.{arith}
use lib.Dec.{T, ltb, eqb, nltb→le}
use lib.ListN.{length}
use lib.Ieee.{Float}
use Rattle.places.specs.Loops.{count_of}
use Rattle.flat.specs.Points.{Point}
use Rattle.planes.specs.declared.Plane.{Plane}
use Rattle.work_lists.specs.WorkLists.{Change, whole, gone, full, made, Outcome, nothing, no_room, outline, left_by, run_of, clipped_of}
use Rattle.clip_step.specs.ClipStep.{trimmed_by}
use Rattle.clip_step.specs.Doubled.{without_doubled}
use Rattle.clip.specs.Clip.{beyond, cut_change, plane_change, clip_face_of}

-- where a plane made another outline it has at least 3 points, and where an outline is left it has points
pub data MadePoints : Change → Type 0 where
  made_whole : MadePoints whole
  made_gone : MadePoints gone
  made_full : MadePoints full
  made_some : {ps : List Point} → 3 ≤ length ps → MadePoints (made ps)

pub data LeftPoints : Outcome → Type 0 where
  left_nothing : LeftPoints nothing
  left_no_room : LeftPoints no_room
  left_some : {second : Bool} {ps : List Point} → 0 < length ps → LeftPoints (outline second ps)

-- a test between two
made_either : (b : Bool) {c d : Change} → MadePoints c → MadePoints d → MadePoints (cond b c d)
made_either true h g = h
made_either false h g = g

pub left_either : (b : Bool) {o q : Outcome} → LeftPoints o → LeftPoints q → LeftPoints (cond b o q)
left_either true h g = h
left_either false h g = g

-- ---- one plane
under_three : (ps : List Point) → MadePoints (cond (ltb (length ps) 3) gone (made ps))
under_three ps = go (ltb (length ps) 3) (nltb→le (length ps) 3)
  where
    go : (b : Bool) → (T (not b) → 3 ≤ length ps) → MadePoints (cond b gone (made ps))
    go true h = made_gone
    go false h = made_some (h tt)

cut_points : (room : ℕ) (cut : List Point) → MadePoints (cut_change room cut)
unfolding cut_change
cut_points room cut = made_either (ltb room (length cut)) made_full (under_three (without_doubled cut))

pub plane_points : (room : ℕ) (eps : Float) (plane : Plane) (ps : List Point) → MadePoints (plane_change room eps plane ps)
unfolding plane_change
plane_points room eps plane ps =
    let out = count_of (beyond plane eps) ps in
    let cut = cut_points room (trimmed_by plane eps ps) in
    made_either (ltb (length ps) 3) made_gone (made_either (eqb out 0) made_whole (made_either (eqb out (length ps)) made_gone cut))

-- ---- all planes, one after the other
left_points : {c : Change} (second : Bool) (ps : List Point) → MadePoints c → 0 < length ps → LeftPoints (left_by c second ps)
left_points second ps made_whole h = left_some h
left_points second ps made_gone h = left_nothing
left_points second ps made_full h = left_no_room
left_points second ps (made_some {ps = qs} g) h = left_some {ps = qs} (omega arith)

run_points : (room : ℕ) (eps : Float) (planes : List Plane) {o : Outcome} → LeftPoints o
    → LeftPoints (run_of (plane_change room eps) planes o)
unfolding run_of
run_points room eps [] h = h
run_points room eps (plane ∷ planes) left_nothing = left_nothing
run_points room eps (plane ∷ planes) left_no_room = left_no_room
run_points room eps (plane ∷ planes) (left_some {second = second} {ps = ps} h) =
    run_points room eps planes (left_points second ps (plane_points room eps plane ps) h)

pub clip_points : (room : ℕ) (eps : Float) (planes : List Plane) (ps : List Point) → 0 < length ps
    → LeftPoints (clip_face_of room eps planes ps)
unfolding clip_face_of clipped_of
clip_points room eps planes ps h = left_either (ltb room (length ps)) left_no_room (run_points room eps planes (left_some h))
