-- `cell_report::take_in` meets its contract: what is fed is the bytes that waited, and behind them those that came.
use Rattle.report.proofs.Split.{came_in}
use Rattle.cell_report.proofs.take_in.Goals as goal

pub returns-clause-takes : goal.returns-clause-takes
returns-clause-takes c = came_in c.args.came.waited c.args.came.bytes c.args.block.now c.feed.ensures.feeds
