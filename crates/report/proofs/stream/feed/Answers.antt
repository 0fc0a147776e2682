-- `report::stream::feed` meets its contract: the block's first bytes are taken whole, those behind the records are moved to the front, and
-- with both a run goes on.
use Rattle.report.proofs.Split.{feeds, put_front, moved_rest}
use Rattle.report.proofs.stream.feed.Goals as goal

pub returns-clause-feeds : goal.returns-clause-feeds
returns-clause-feeds c =
    let waits = moved_rest c.args.block.now c.args.total c.requires.total_bound.2 c.to_front.ensures in
    feeds c.take_block-d.ensures.queries_value waits (put_front c.take_block-d.ensures.put c.take_block-d.ensures.fits_2.2)
