-- `side_table::number_all` meets its contract: after i corners the table numbers what those corners name, and after the last, all of them.
use mathlib.Core.Path.{refl}
use native.Mathlib.Omega.{arith}
use Rattle.side_table.proofs.Numbers.{seen_none, seen_more, seen_all}
use Rattle.side_table.proofs.number_all.Goals as goal

pub loop-x-init : goal.loop-x-init
loop-x-init c = seen_none _ c.requires.0

pub loop-x-preserved : goal.loop-x-preserved
loop-x-preserved c = seen_more c.loop-x.invariant (omega arith) refl c.number_vertex-k.ensures

pub returns : goal.returns
returns c = seen_all c.loop-x.invariant (omega arith)
