-- `overlap::first_patch` meets its contract: a face that a plane skips leaves nothing, and else the front of `kept`, by which it is
-- clipped, has just the planes that are not its own.
use mathlib.Core.Bool.{false}
use Rattle.overlap.proofs.Patches.{patch_skipped, patch_clipped, front_planes}
use Rattle.overlap.proofs.first_patch.Goals as goal

pub returns-then-any_coplanar_skip : goal.returns-then-any_coplanar_skip
returns-then-any_coplanar_skip c =
    patch_skipped false _ c.args.m _ _ c.args.plane c.any_coplanar_skip.ensures c.if-any_coplanar_skip.true

pub returns : goal.returns
returns c =
    patch_clipped false _ c.args.m _ _ c.args.plane c.any_coplanar_skip.ensures c.if-any_coplanar_skip.false
    (rw (front_planes, c.other_planes-n.ensures.kept_after) at c.clip_face.ensures)
