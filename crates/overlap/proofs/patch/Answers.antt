-- `overlap::patch` meets its contract: a face of no area is clipped by all planes, and for one with a plane `other` says which case of the
-- definition it is, and the function of that case is called.
use mathlib.Core.Path.{sym, ◌∙◌}
use mathlib.Core.Bool.{true, false}
use Rattle.overlap.proofs.Patches.{patch_without_plane, patch_with_plane}
use Rattle.overlap.proofs.patch.Goals as goal

pub returns-in_default : goal.returns-in_default
returns-in_default c =
    patch_without_plane c.args.t.other _ c.args.t.m _ _ (sym c.in_default.is ∙ c.requires.found_value) c.clip_face.ensures

pub returns-then-other : goal.returns-then-other
returns-then-other c =
    rw c.if-other.true (patch_with_plane true _ c.args.t.m _ _ (sym c.in-Some.is ∙ c.requires.found_value) c.second_patch.ensures)

pub returns : goal.returns
returns c =
    rw c.if-other.false (patch_with_plane false _ c.args.t.m _ _ (sym c.in-Some.is ∙ c.requires.found_value) c.first_patch.ensures)
