-- `clip_step::push` meets its contract: a point that has a place is stored there; storing at a place that the list does not have leaves it
-- as it is; the count goes up both times.
use mathlib.Core.Path.{refl, sym}
use native.Mathlib.Omega.{arith}
use lib.Seq.{set_out}
use Rattle.places.proofs.Stored.{length_threes}
use Rattle.work_lists.proofs.Filling.{filled_one}
use borrow.Author.Rules.{rules}
use Rattle.clip_step.proofs.push.Goals as goal

pub returns-then-m-s : goal.returns-then-m-s
returns-then-m-s c =
    filled_one refl c.put_vertex.ensures.vertices

pub returns : goal.returns
returns c =
    filled_one refl (sym (set_out _ _ _ (omega (arith, length_threes c.args.s.now))))

pub put_vertex-requires : goal.put_vertex-requires
put_vertex-requires c = search (rules, length_threes)
