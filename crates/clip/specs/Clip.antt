-- clip_face_by_polyhedron: an outline in space clipped by planes, one after the other.
use Rattle.std.specs.Prelude.{ℕ, Bool, cond, List, length, ltb, eqb, Float}
use Rattle.std.specs.Float.Ieee.{lt}
use Rattle.places.specs.Loops.{count_of}
use Rattle.flat.specs.Points.{Point}
use Rattle.planes.specs.declared.Plane.{Plane}
use Rattle.planes.specs.Planes.{distance_of}
use Rattle.work_lists.specs.WorkLists.{Change, whole, gone, full, made, Outcome, clipped_of}
use Rattle.clip_step.specs.ClipStep.{trimmed_by}
use Rattle.clip_step.specs.Doubled.{without_doubled}

-- tested whole, a point is out when its distance is above eps, so that NaN is not
abbrev pub beyond : Plane → Float → Point → Bool
beyond plane eps p = lt eps (distance_of plane p)

-- what a cut leaves: no room for it, or under 3 points without the doubled ones, or an outline
unfoldable pub cut_change : ℕ → List Point → Change
cut_change room cut =
    let left = without_doubled cut in
    cond (ltb room (length cut)) full (cond (ltb (length left) 3) gone (made left))

-- what a plane cuts an outline down to
abbrev pub slice : ℕ → Float → Plane → List Point → Change
slice room eps plane ps = cut_change room (trimmed_by plane eps ps)

-- what a plane makes of an outline: nothing of one under 3 points; it stays whole where no point is out, and goes where all are;
-- else it is cut
unfoldable pub plane_change : ℕ → Float → Plane → List Point → Change
plane_change room eps plane ps =
    let out = count_of (beyond plane eps) ps in
    let cut = slice room eps plane ps in
    cond (ltb (length ps) 3) gone (cond (eqb out 0) whole (cond (eqb out (length ps)) gone cut))

-- clip_face_by_polyhedron, with room for so many points in the shorter work list
unfoldable pub clip_face_of : ℕ → Float → List Plane → List Point → Outcome
clip_face_of room eps planes ps = clipped_of room (plane_change room eps) planes ps
