-- `outward::compute_convexity` meets its contract: a third of the coordinates is the number of vertices; under 4 the definition's first
-- side holds, else its answer is the opposite of `any_parts`.
use borrow.Author.Tests.{lt-ltb, le-ltb}
use Rattle.places.proofs.Stored.{length_threes}
use Rattle.outward.specs.Convexity.{compute_convexity_of}
use Rattle.outward.proofs.compute_convexity.Goals as goal

pub returns-then-cell-lt4 : goal.returns-then-cell-lt4
unfolding compute_convexity_of
returns-then-cell-lt4 c = rw (length_threes, lt-ltb _ 4 c.if-cell-lt4.true)

pub returns : goal.returns
unfolding compute_convexity_of
returns c = rw (length_threes, le-ltb _ 4 c.if-cell-lt4.false, ← c.any_parts.ensures)
