-- `cell::empty_refused` meets its contract: the face from one end to the next is empty exactly where the two are equal, and no face before
-- k was.
use mathlib.Core.Path.{refl}
use Rattle.cell.specs.Refusals.{empty_refused}
use Rattle.cell.proofs.Faces.{faces_start, faces_step, faces_yes, faces_no, faces_end}
use Rattle.cell.proofs.Refusals.{empty_yes, empty_no}
use borrow.Author.Rules.{rules}
use Rattle.cell.proofs.empty_refused.Goals as goal

pub loop-end-init : goal.loop-end-init
unfolding empty_refused
loop-end-init c =
    faces_start c.requires refl

pub returns-then-start-end : goal.returns-then-start-end
returns-then-start-end c =
    faces_yes c.loop-end.invariant (search rules) refl
    (empty_yes c.loop-end.start _ c.args.corners.now (search rules))

pub loop-end-preserved : goal.loop-end-preserved
loop-end-preserved c =
    let step = faces_step c.loop-end.invariant (search rules) refl in
    faces_no c.loop-end.invariant (search rules) refl
    (empty_no c.loop-end.start _ c.args.corners.now step.from step.upto c.if-start-end.false)

pub returns : goal.returns
returns c = faces_end c.loop-end.invariant (search rules)
