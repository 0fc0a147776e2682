-- `refusals::phed_refusal` meets its contract: rows 1 and 2 of the definition are two tests each and row 4 is one; a test that holds
-- decides once those before it have failed.
use mathlib.Core.Path.{◌≡◌, sym, ◌∙◌}
use mathlib.Core.Bool.{false, ◌||◌}
use borrow.Author.Tests.{lt-ltb, le-ltb}
use lib.Dec.{ltb}
use lib.ListN.{length}
use Rattle.places.specs.Limits.{most_marked_corners}
use Rattle.places.specs.Loops.{any_of}
use Rattle.places.proofs.Stored.{length_threes}
use Rattle.places.specs.declared.refusal.Refusal.TheVariants.{Size, Number, Index}
use Rattle.flat.specs.Points.{vertices_of}
use Rattle.cell.specs.Refusals.{points_refused, number_refused}
use Rattle.cell.proofs.Refusals.{row_applies, row_passed, no_row, few_points}
use Rattle.refusals.specs.Refusals.{strays, phed_refusal}
use Rattle.refusals.proofs.Refusals.{row_yes, row_no, either_first, either_second}
use Rattle.refusals.proofs.phed_refusal.Goals as goal
use Rattle.refusals.proofs.phed_refusal.Goals.{After-strays_in, Else-cs-gt-MOST_MARKED_CORNERS, Else-number_refused-2}
use Rattle.refusals.proofs.phed_refusal.Goals.{then-points_refused-via-then-points_refused}
use Rattle.refusals.proofs.phed_refusal.Goals.{then-points_refused-via-else-points_refused+then-cs-gt-MOST_MARKED_CORNERS}
use Rattle.refusals.proofs.phed_refusal.Goals.{then-number_refused-via-then-number_refused}
use Rattle.refusals.proofs.phed_refusal.Goals.{then-number_refused-via-else-number_refused+then-number_refused-2}

-- rows 1 and 2 are passed past their second tests
sized : (c : Else-cs-gt-MOST_MARKED_CORNERS) → points_refused c.args.coords.now || ltb most_marked_corners (length c.args.cs.now) ≡ false
sized c =
    either_second _ c.points_refused.ensures c.if-points_refused.false (le-ltb _ _ c.if-cs-gt-MOST_MARKED_CORNERS.false)

numbered : (c : Else-number_refused-2) → number_refused c.args.coords.now || number_refused c.args.p ≡ false
numbered c =
    either_second _ c.number_refused.ensures c.if-number_refused.false
    (sym c.number_refused-else-number_refused.ensures ∙ c.if-number_refused-2.false)

-- the search for strays, by the number of vertices
searched : (c : After-strays_in) → c.strays_in.result ≡ any_of (strays (length (vertices_of c.args.coords.now))) c.args.cs.now
searched c =
    rw (length_threes c.args.coords.now) c.strays_in.ensures

pub returns-then-points_refused : goal.returns-then-points_refused
unfolding phed_refusal
returns-then-points_refused c =
    row_applies Size _ (
    elim c.then-points_refused.branch [
      | then-points_refused-via-then-points_refused w ↦ either_first _ c.points_refused.ensures w.if-points_refused.true
      | then-points_refused-via-else-points_refused+then-cs-gt-MOST_MARKED_CORNERS w ↦
          either_second _ c.points_refused.ensures w.if-points_refused.false (lt-ltb _ _ w.if-cs-gt-MOST_MARKED_CORNERS.true)
    ]
    )

pub returns-then-number_refused : goal.returns-then-number_refused
unfolding phed_refusal
returns-then-number_refused c =
    row_passed Size _ (sized (goal.at.returns-then-number_refused c).Else-cs-gt-MOST_MARKED_CORNERS)
    (row_applies Number _ (
    elim c.then-number_refused.branch [
      | then-number_refused-via-then-number_refused w ↦ either_first _ c.number_refused.ensures w.if-number_refused.true
      | then-number_refused-via-else-number_refused+then-number_refused-2 w ↦
          either_second _ c.number_refused.ensures w.if-number_refused.false
          (sym w.number_refused-else-number_refused.ensures ∙ w.if-number_refused-2.true)
    ]
    ))

pub strays_in-requires : goal.strays_in-requires
strays_in-requires c =
    few_points c.args.coords.now (sym c.points_refused.ensures ∙ c.if-points_refused.false)

pub returns-then-strays_in : goal.returns-then-strays_in
unfolding phed_refusal
returns-then-strays_in c =
    row_passed Size _ (sized (goal.at.returns-then-strays_in c).Else-cs-gt-MOST_MARKED_CORNERS)
    (row_passed Number _ (numbered (goal.at.returns-then-strays_in c).Else-number_refused-2)
    (row_yes Index _ (searched (goal.at.returns-then-strays_in c).After-strays_in) c.if-strays_in.true))

pub returns : goal.returns
unfolding phed_refusal
returns c =
    row_passed Size _ (sized (goal.at.returns c).Else-cs-gt-MOST_MARKED_CORNERS)
    (row_passed Number _ (numbered (goal.at.returns c).Else-number_refused-2)
    (row_no Index _ (searched (goal.at.returns c).After-strays_in) c.if-strays_in.false no_row))
