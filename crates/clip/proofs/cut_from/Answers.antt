-- `clip::cut_from` meets its contract: the stretch that is lent to `cut` has the n points of the outline that stands in the list, and the
-- cut shows in the other list, whichever of the two is read.
use native.Mathlib.Omega.{arith}
use Rattle.places.proofs.Stored.{length_threes}
use Rattle.work_lists.proofs.Endings.{reads_threes}
use Rattle.work_lists.proofs.Stretches.{stretch_long, moved_to_first, moved_to_second}
use borrow.Author.Rules.{rules}
use Rattle.clip.proofs.cut_from.Goals as goal

pub overflow_mul-n : goal.overflow_mul-n
overflow_mul-n c =
    omega (arith, length_threes c.args.second.now)

pub slice_bounds-cut-end : goal.slice_bounds-cut-end
slice_bounds-cut-end c =
    reads_threes.fits c.args.n c.args.second.now (search rules)

pub cut-requires-clause-nonzero : goal.cut-requires-clause-nonzero
cut-requires-clause-nonzero c = omega (arith, stretch_long reads_threes c.args.n c.args.second.now (search rules))

pub returns-then-in_second : goal.returns-then-in_second
returns-then-in_second c =
    moved_to_first reads_threes c.args.first.now c.args.second.now c.cut.new.dst c.if-in_second.true c.cut.auto.dst
    c.cut.ensures

pub overflow_mul-n-2 : goal.overflow_mul-n-2
overflow_mul-n-2 c =
    omega (arith, length_threes c.args.first.now)

pub slice_bounds-cut-end-2 : goal.slice_bounds-cut-end-2
slice_bounds-cut-end-2 c =
    reads_threes.fits c.args.n c.args.first.now (search rules)

pub cut-requires-2-clause-nonzero : goal.cut-requires-2-clause-nonzero
cut-requires-2-clause-nonzero c = omega (arith, stretch_long reads_threes c.args.n c.args.first.now (search rules))

pub returns : goal.returns
returns c =
    moved_to_second reads_threes c.args.first.now c.args.second.now c.cut-2.new.dst c.if-in_second.false c.cut-2.auto.dst
    c.cut-2.ensures
