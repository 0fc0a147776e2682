-- `cut_check::is_cut` meets its contract: where the number of triangles or their places are wrong the test says no at once, and otherwise
-- the triangles are a cut exactly where each side that occurs, those of the face backward among them, occurs once each way.
use mathlib.Core.Path.{◌≡◌}
use mathlib.Core.Logic.{◌↔◌}
use mathlib.Core.Bool.{Bool, true}
use native.Mathlib.Omega.{arith}
use Rattle.places.specs.Stored.{in_threes}
use Rattle.cut_check.specs.CutCheck.{is_cut_of}
use Rattle.cut_check.specs.Steps.{Paired, CheckedCorners}
use Rattle.cut_check.proofs.Answers.{wrong_number, not_different_lem, paired_is_cut}
use Rattle.cut_check.proofs.is_cut.Goals as goal
use Rattle.cut_check.proofs.is_cut.Goals.{Else-any_same, Start}

pub returns-then-corners-n : goal.returns-then-corners-n
returns-then-corners-n c =
    wrong_number c.args.n c.args.corners.now (λ e. omega (arith, e))

pub returns-then-any_same : goal.returns-then-any_same
returns-then-any_same c = not_different_lem _ _ c.any_same.ensures c.if-any_same.true

-- the number and the places are right, so that the sides decide
module _ (c : Else-any_same) where
  abbrev given : Start
  given = c.before.before.before.before.before

  by_sides : {r : Bool} → (r ≡ true) ↔ Paired given.args.n (in_threes given.args.corners.now)
      → r ≡ is_cut_of given.args.n (in_threes given.args.corners.now)
  by_sides i =
      let pre = given.requires in
      let corners : CheckedCorners given.args.n given.args.corners.now = record {
        threes = pre.2;
        few = omega arith;
        below = pre.3;
      } in
      paired_is_cut pre.0 corners c.if-corners-n.false c.any_same.ensures c.if-any_same.false i

pub returns-then-n-le16 : goal.returns-then-n-le16
returns-then-n-le16 c =
    by_sides (goal.at.returns-then-n-le16 c).Else-any_same c.paired_within.ensures

pub returns-then-n-le64 : goal.returns-then-n-le64
returns-then-n-le64 c =
    by_sides (goal.at.returns-then-n-le64 c).Else-any_same c.paired_within-then-n-le64.ensures

pub returns : goal.returns
returns c =
    by_sides (goal.at.returns c).Else-any_same c.paired_within-2.ensures
