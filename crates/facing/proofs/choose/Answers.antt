-- `facing::choose` meets its contract: each vertex that occurs has a number below k, and whichever table is taken has k rows and k columns.
use mathlib.Core.Path.{refl}
use Rattle.side_table.proofs.Corners.{each_below}
use Rattle.side_table.proofs.Numbers.{nobody}
use Rattle.facing.proofs.choose.Goals as goal

pub number_all-k-requires : goal.number_all-k-requires
number_all-k-requires c =
    (nobody 256 refl, each_below 256 c.requires.each.0 c.requires.each.1)
