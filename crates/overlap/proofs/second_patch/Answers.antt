-- `overlap::second_patch` meets its contract: a face that a plane skips leaves nothing, and else it is clipped by all planes.
use mathlib.Core.Bool.{true}
use Rattle.overlap.proofs.Patches.{patch_skipped, patch_clipped}
use Rattle.overlap.proofs.second_patch.Goals as goal

pub returns-then-any_coplanar_skip : goal.returns-then-any_coplanar_skip
returns-then-any_coplanar_skip c =
    patch_skipped true _ c.args.m _ _ c.args.plane c.any_coplanar_skip.ensures c.if-any_coplanar_skip.true

pub returns : goal.returns
returns c =
    patch_clipped true _ c.args.m _ _ c.args.plane c.any_coplanar_skip.ensures c.if-any_coplanar_skip.false
    c.clip_face.ensures
