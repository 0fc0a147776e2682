-- `overlap::other_planes` meets its contract: what was laid down and what is still to be kept from place i on are all that is kept, and
-- as at most i planes were laid down there is a place for the next.
use mathlib.Core.Path.{sym, ◌∙◌}
use Rattle.planes.specs.Steps.{no_plane}
use Rattle.planes.proofs.Stored.{length_fours}
use native.Mathlib.Omega.{arith}
use Rattle.overlap.proofs.Sifting.{sift_drop, sift_keep, sift_end}
use borrow.Author.Rules.{rules}
use Rattle.overlap.proofs.other_planes.Goals as goal
use Rattle.overlap.proofs.other_planes.Goals.{then-not-plane_same_side, else-not-plane_same_side}

pub put_plane-requires : goal.put_plane-requires
put_plane-requires c =
    omega (arith, length_fours c.loop-i.kept, length_fours c.args.planes.now, c.loop-i.invariant.1.few)

pub loop-i-preserved : goal.loop-i-preserved
loop-i-preserved c =
    elim c.if-not-plane_same_side.branch [
      | then-not-plane_same_side w ↦ rw (w.kept-is, w.m-is) (
        w.put_plane.auto.out ∙ c.loop-i.invariant.0,
        sift_keep no_plane c.loop-i.invariant.1 (search (rules, length_fours)) c.plane_at-p.ensures
            (sym c.plane_same_side.ensures ∙ w.if-not-plane_same_side.true) w.put_plane.ensures,
      )
      | else-not-plane_same_side w ↦ rw (w.kept-is, w.m-is) (
        c.loop-i.invariant.0,
        sift_drop no_plane c.loop-i.invariant.1 (search (rules, length_fours)) c.plane_at-p.ensures
            (sym c.plane_same_side.ensures ∙ w.if-not-plane_same_side.false),
      )
    ]

pub returns : goal.returns
returns c =
    let planes = length_fours c.args.planes.now in
    let done = sift_end c.loop-i.invariant.1 (search (rules, length_fours)) (omega (arith, planes, length_fours c.args.kept.now)) in
    record {
      value = done.0;
      kept_after = done.1;
      result_in_bounds = omega (arith, planes, c.loop-i.invariant.1.few, c.loop-i.invariant.1.within);
    }

pub plane_at-p-requires : goal.plane_at-p-requires
plane_at-p-requires c = search (rules, length_fours)
