-- `cut_check::Chains::paired_at` meets its contract: stamps are written at the places from which sides come to a, and taken off at those to
-- which sides go from a, so that all are found exactly where each side that leaves is run back.
use mathlib.Core.Path.{◌≡◌, refl}
use mathlib.Core.Bool.{false≢true}
use Prim.Native.Nat.{ℕ}
use native.Mathlib.Omega.{arith}
use lib.ListN.{length, length-set}
use Rattle.places.specs.Ring.{prev_of}
use Rattle.cut_check.specs.Steps.{corners_at, CheckedCorners}
use Rattle.cut_check.proofs.Linked.{chain_within}
use Rattle.cut_check.proofs.Pairing.{Decided, decide, decided_no, decided_last}
use Rattle.cut_check.proofs.Chains.paired_at.Goals as goal
use Rattle.cut_check.proofs.Chains.paired_at.Goals.{After-take_after}

pub stamp_before-requires : goal.stamp_before-requires
stamp_before-requires c =
    record { stamp_len = c.requires.stamp_len.1; first_within = chain_within _ _ _ _ _ c.requires.chain }

pub take_after-requires : goal.take_after-requires
take_after-requires c =
    let size : length c.stamp_before.new.stamp ≡ c.args.self.now.n = omega arith in
    record { stamp_len = rw length-set size; first_within = chain_within _ _ _ _ _ c.requires.chain }

-- what is left decides, by the stamp of the place before a
decided : (c : After-take_after) {p : ℕ} → p ≡ prev_of c.args.a c.args.self.now.n
    → Decided c.args.self.now.n c.args.self.now.corners.now c.args.a p c.take_after.new.stamp c.take_after.result
decided c e =
    let self = c.args.self.now in
    let corners : CheckedCorners self.n self.corners.now = record {
      threes = self.threes;
      few = omega arith;
      below = record { holds = self.below };
    } in
    let here = corners_at c.args.a self.corners.now (length self.corners.now) in
    let written = c.stamp_before.ensures here c.requires.chain in
    let took = c.take_after.ensures here c.requires.chain in
    decide corners c.requires.stamp_len.0 c.requires.stamp_len.1 c.requires.stamp_len.2 written c.next.ensures.0 took e

-- a side that leaves finds no stamp
pub returns-then-not-take_after : goal.returns-then-not-take_after
returns-then-not-take_after c =
    record {
      variant = decided_no (decided (goal.at.returns-then-not-take_after c).After-take_after refl) c.if-not-take_after.true;
      fresh = λ z. absurd (false≢true z);
    }

-- each side that leaves finds a stamp, and that of the face is asked for last
pub returns : goal.returns
returns c =
    let found = c.if-not-take_after.false in
    let face = decided (goal.at.returns c).After-take_after c.prev.ensures.0 in
    record { variant = decided_last face found; fresh = λ z. face.fresh found }
