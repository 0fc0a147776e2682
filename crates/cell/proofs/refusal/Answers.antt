-- `cell::refusal` meets its contract: the checks come in the order of the rows, so where one answers the rows before it have passed.
use mathlib.Core.Path.{◌≡◌, sym, ◌∙◌}
use mathlib.Core.Bool.{false, ◌||◌}
use Rattle.places.proofs.Stored.{length_threes}
use Rattle.places.specs.declared.refusal.Refusal.TheVariants.{Size, Number, Ends, Index}
use Rattle.cell.specs.Refusals.{size_refused, number_refused, ends_refused, index_refused, refusal_of}
use Rattle.cell.proofs.Refusals.{few_of_all, row_applies, row_passed, no_row}
use Rattle.cell.proofs.refusal.Goals as goal
use Rattle.cell.proofs.refusal.Goals.{Else-size_refused, Else-number_refused-2, Else-ends_refused}
use Rattle.cell.proofs.refusal.Goals.{then-number_refused-via-then-number_refused}
use Rattle.cell.proofs.refusal.Goals.{then-number_refused-via-else-number_refused+then-number_refused-2}
use Rattle.cell.proofs.refusal.Goals.{then-index_refused-via-then-index_refused}
use Rattle.cell.proofs.refusal.Goals.{then-index_refused-via-else-index_refused+then-index_refused-2}

-- ---- what a row says that has let the cell pass
sized : (c : Else-size_refused) → size_refused c.args.coords.now c.args.corners.now c.args.ends.now ≡ false
sized c = sym c.size_refused.ensures ∙ c.if-size_refused.false

numbers : (c : Else-number_refused-2) → number_refused c.args.coords.now || number_refused c.args.query.now ≡ false
numbers c =
    let queried = sym c.number_refused-else-number_refused.ensures ∙ c.if-number_refused-2.false in
    rw (sym c.number_refused.ensures ∙ c.if-number_refused.false) queried

ordered : (c : Else-ends_refused) → ends_refused c.args.corners.now c.args.ends.now ≡ false
ordered c = sym c.ends_refused.ensures ∙ c.if-ends_refused.false

-- ---- the answers
pub returns-then-size_refused : goal.returns-then-size_refused
unfolding refusal_of
returns-then-size_refused c = row_applies Size _ (sym c.size_refused.ensures ∙ c.if-size_refused.true)

pub returns-then-number_refused : goal.returns-then-number_refused
unfolding refusal_of
returns-then-number_refused c =
    row_passed Size _ (sized (goal.at.returns-then-number_refused c).Else-size_refused) (row_applies Number _ (
    elim c.then-number_refused.branch [
      | then-number_refused-via-then-number_refused w ↦ rw (sym c.number_refused.ensures ∙ w.if-number_refused.true) cc
      | then-number_refused-via-else-number_refused+then-number_refused-2 w ↦
          let queried = sym w.number_refused-else-number_refused.ensures ∙ w.if-number_refused-2.true in
          rw (sym c.number_refused.ensures ∙ w.if-number_refused.false) queried
    ]
    ))

pub returns-then-ends_refused : goal.returns-then-ends_refused
unfolding refusal_of
returns-then-ends_refused c =
    let at = goal.at.returns-then-ends_refused c in
    row_passed Size _ (sized at.Else-size_refused) (row_passed Number _ (numbers at.Else-number_refused-2) (
    row_applies Ends _ (sym c.ends_refused.ensures ∙ c.if-ends_refused.true)))

pub index_refused-requires : goal.index_refused-requires
index_refused-requires c =
    (few_of_all c.args.coords.now c.args.corners.now c.args.ends.now (sized (goal.at.index_refused-requires c).Else-size_refused)).0

pub index_refused-requires-else-index_refused : goal.index_refused-requires-else-index_refused
index_refused-requires-else-index_refused c =
    let at = goal.at.index_refused-requires-else-index_refused c in
    (few_of_all c.args.coords.now c.args.corners.now c.args.ends.now (sized at.Else-size_refused)).1

pub returns-then-index_refused : goal.returns-then-index_refused
unfolding refusal_of
returns-then-index_refused c =
    let at = goal.at.returns-then-index_refused c in
    let first = c.index_refused.ensures in
    row_passed Size _ (sized at.Else-size_refused) (row_passed Number _ (numbers at.Else-number_refused-2) (
    row_passed Ends _ (ordered at.Else-ends_refused) (row_applies Index _ (rw (length_threes c.args.coords.now) (
    elim c.then-index_refused.branch [
      | then-index_refused-via-then-index_refused w ↦ rw (sym first ∙ w.if-index_refused.true) cc
      | then-index_refused-via-else-index_refused+then-index_refused-2 w ↦
          let beyond = sym w.index_refused-else-index_refused.ensures ∙ w.if-index_refused-2.true in
          rw (sym first ∙ w.if-index_refused.false) beyond
    ]
    )))))

pub returns : goal.returns
unfolding refusal_of
returns c =
    let at = goal.at.returns c in
    let beyond = sym c.index_refused-else-index_refused.ensures ∙ c.if-index_refused-2.false in
    row_passed Size _ (sized at.Else-size_refused) (row_passed Number _ (numbers at.Else-number_refused-2) (
    row_passed Ends _ (ordered at.Else-ends_refused) (row_passed Index _ (
    rw (length_threes c.args.coords.now, sym c.index_refused.ensures ∙ c.if-index_refused.false) beyond
    ) no_row)))
