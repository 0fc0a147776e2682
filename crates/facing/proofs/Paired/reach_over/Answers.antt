-- `facing::Paired::reach_over` meets its contract: each step lets one more face ask, and none comes into the list twice, so n steps
-- reach all n.
use mathlib.Core.Path.{refl}
use native.Mathlib.Omega.{arith}
use Rattle.cell.specs.Faces.{faces_of}
use Rattle.cell.proofs.Faces.{length_faces}
use Rattle.facing.proofs.Spread.{spread_start, spread_whole}
use Rattle.facing.proofs.Paired.reach_over.Goals as goal

pub loop-at-init : goal.loop-at-init
loop-at-init c = (
  refl,
  refl,
  spread_start (faces_of c.args.self.now.corners.now c.args.self.now.ends.now) c.args.code.now c.args.list.now
      (λ k. omega (arith, c.requires.blank.0.zero k))
      (omega (arith, c.requires.blank.1, length_faces c.args.self.now.corners.now c.args.self.now.ends.now))
      (omega (arith, c.requires.blank.2, length_faces c.args.self.now.corners.now c.args.self.now.ends.now)),
)

pub returns : goal.returns
returns c =
    spread_whole c.loop-at.invariant.2 (omega (arith, length_faces c.args.self.now.corners.now c.args.self.now.ends.now))
