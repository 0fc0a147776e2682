-- `cut::by_place::fill_order` meets its contract: each place of the list gets its own number, which 32 bits hold.
use native.Mathlib.Omega.{arith}
use Rattle.cut.proofs.Storing.{stored_places}
use Rattle.cut.proofs.by_place.fill_order.Goals as goal

pub returns : goal.returns
returns c = stored_places _ _ (omega arith) (λ k h. c.loop-i.invariant k (omega arith))
