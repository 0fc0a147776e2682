-- `planar::gather` meets its contract: the points before place i stand at the front of the list, and those left to lay down make, with
-- them, the whole outline.
use mathlib.Core.Path.{◌∙◌}
use mathlib.Core.List.{[]}
use native.Mathlib.Omega.{arith}
use Rattle.places.proofs.Stored.{length_pairs}
use Rattle.work_lists.proofs.Filling.{rest_length, lay_next, lay_end}
use borrow.Author.Rules.{rules}
use Rattle.planar.proofs.gather.Goals as goal

pub put_pair-requires : goal.put_pair-requires
put_pair-requires c =
    omega (arith, length_pairs c.args.src.now, rest_length c.loop-i.invariant.1)

pub loop-i-preserved : goal.loop-i-preserved
loop-i-preserved c = (
  c.put_pair.auto.ps ∙ c.loop-i.invariant.0,
  lay_next [] c.loop-i.invariant.1 (search (rules, length_pairs)) c.pair.ensures c.put_pair.ensures.points,
)

pub returns : goal.returns
returns c = lay_end c.loop-i.invariant.1 (search (rules, length_pairs)) (search (rules, length_pairs))

pub pair-requires : goal.pair-requires
pair-requires c = search (rules, length_pairs)
