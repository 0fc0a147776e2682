-- `clip_step::doubled::is_near` meets its contract: a sum of squares that is `sure` is one of points farther apart than eps, which are not
-- near; of any other the root is taken, as the definition does.
use Rattle.clip_step.specs.Doubled.{dist3_of}
use Rattle.clip_step.proofs.Surely.{surely_not_near}
use Rattle.clip_step.proofs.doubled.is_near.Goals as goal

pub returns-then-sure-s : goal.returns-then-sure-s
returns-then-sure-s c =
    surely_not_near c.args.a c.args.b c.requires c.square3-s.ensures c.if-sure-s.true

pub returns : goal.returns
unfolding dist3_of
returns c = cc
