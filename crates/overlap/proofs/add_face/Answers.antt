-- `overlap::add_face` meets its contract: `patch` answers what is left of the face, and for each of its three answers the sum is the
-- definition's; for an outline the numbers that show it have its points.
use native.Mathlib.Omega.{arith}
use Rattle.work_lists.proofs.Endings.{reads_threes, outline_fits, outline_small}
use Rattle.work_lists.proofs.PassedUp.{refused_alike}
use Rattle.overlap.proofs.Sums.{took_nothing, took_shown, took_refusal}
use Rattle.overlap.proofs.add_face.Goals as goal

pub returns-in_err-left : goal.returns-in_err-left
returns-in_err-left c =
    rw (refused_alike c.from_residual.ensures.0) (took_refusal _ _ c.in_err-left.ensures)

pub returns-in_default : goal.returns-in_default
returns-in_default c =
    took_nothing _ _ (rw c.in_default.is at c.in_ok-left.ensures)

pub overflow_mul-left : goal.overflow_mul-left
overflow_mul-left c =
    let ended = rw c.in-Some.is at c.in_ok-left.ensures in
    omega (
      arith,
      outline_small reads_threes ended {k = 3072} (rw c.patch.auto.first c.requires.ready.short_first)
          (rw c.patch.auto.second c.requires.ready.short_second),
    )

pub shown-shown-requires : goal.shown-shown-requires
shown-shown-requires c =
    outline_fits reads_threes (rw c.in-Some.is at c.in_ok-left.ensures)

pub returns : goal.returns
returns c =
    took_shown _ _ _ _ (rw c.in-Some.is at c.in_ok-left.ensures) c.shown-shown.ensures c.contribution.ensures
