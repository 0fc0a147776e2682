-- `clip_step::doubled::sure_square` meets its contract: a square whose root is above eps is sure, since the root grows with the number; a
-- NaN is, since no sum of squares reaches it.
use Rattle.clip_step.proofs.Surely.{sure_of, never_sure}
use Rattle.clip_step.proofs.doubled.sure_square.Goals as goal

pub returns-then-root_of_square-eps : goal.returns-then-root_of_square-eps
returns-then-root_of_square-eps c =
    sure_of c.args.eps _ (rw (← c.root_of_square.ensures) c.if-root_of_square-eps.true)

pub returns : goal.returns
returns c =
    never_sure c.args.eps
