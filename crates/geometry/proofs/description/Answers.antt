-- `geometry::description` meets its contract: the counts are those of the lists.
use Rattle.places.proofs.Stored.{length_threes}
use Rattle.geometry.specs.Cells.{cell_of}
use Rattle.geometry.proofs.description.Goals as goal

pub returns : goal.returns
unfolding cell_of
returns c = rw (length_threes c.args.coords.now)
