-- `planar::advance_from` meets its contract: the stretch that is lent to `advance` has the n points of the outline that stands in the list,
-- and what is left shows in the other list, whichever of the two is read.
use native.Mathlib.Omega.{arith}
use Rattle.places.proofs.Stored.{length_pairs}
use Rattle.work_lists.proofs.Endings.{reads_pairs}
use Rattle.work_lists.proofs.Stretches.{moved_to_first, moved_to_second}
use borrow.Author.Rules.{rules}
use Rattle.planar.proofs.advance_from.Goals as goal

pub overflow_mul-n : goal.overflow_mul-n
overflow_mul-n c =
    omega (arith, length_pairs c.args.second.now)

pub slice_bounds-advance-end : goal.slice_bounds-advance-end
slice_bounds-advance-end c =
    reads_pairs.fits c.args.n c.args.second.now (search rules)

pub returns-then-in_second : goal.returns-then-in_second
returns-then-in_second c =
    moved_to_first reads_pairs c.args.first.now c.args.second.now c.advance.new.dst c.if-in_second.true c.advance.auto.dst
    c.advance.ensures

pub overflow_mul-n-2 : goal.overflow_mul-n-2
overflow_mul-n-2 c =
    omega (arith, length_pairs c.args.first.now)

pub slice_bounds-advance-end-2 : goal.slice_bounds-advance-end-2
slice_bounds-advance-end-2 c =
    reads_pairs.fits c.args.n c.args.first.now (search rules)

pub returns : goal.returns
returns c =
    moved_to_second reads_pairs c.args.first.now c.args.second.now c.advance-2.new.dst c.if-in_second.false c.advance-2.auto.dst
    c.advance-2.ensures
