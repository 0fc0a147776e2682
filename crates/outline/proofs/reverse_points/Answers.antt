-- `outline::reverse_points` meets its contract: the swaps that are left make the reversed list, and at the middle none is left; each swap
-- keeps the number over.
use mathlib.Core.Path.{refl, sym, ◌∙◌}
use mathlib.Core.List.{[]}
use native.Mathlib.Omega.{arith}
use Rattle.places.specs.Stored.{in_pairs}
use Rattle.places.proofs.Folding.{fold_end}
use Rattle.places.proofs.Reversal.{mirror_start, mirror_next}
use Rattle.places.proofs.Stored.{length_pairs}
use Rattle.outline.proofs.reverse_points.Goals as goal

pub loop-i-init : goal.loop-i-init
loop-i-init c =
    let e = sym (length_pairs c.args.ps.now) in
    (e, refl, mirror_start [] _ (in_pairs c.args.ps.now) e, refl)

pub swap_points-requires : goal.swap_points-requires
swap_points-requires c =
    let e = length_pairs c.loop-i.ps in
    record { i_in_bounds = omega arith; j_in_bounds = omega arith }

pub loop-i-preserved : goal.loop-i-preserved
loop-i-preserved c = (
  c.loop-i.invariant.0,
  c.swap_points.auto.ps ∙ c.loop-i.invariant.1,
  mirror_next [] _ c.loop-i.invariant.2 (omega arith) (cc),
  c.swap_points.ensures.over ∙ c.loop-i.invariant.3,
)

pub returns : goal.returns
returns c =
    record { points = fold_end c.loop-i.invariant.2 (omega arith); over = c.loop-i.invariant.3 }
