-- `facing::choose_in` meets its contract: so many zeros are a table with room for its rows, and for k of them.
use native.Mathlib.Nat.{mul-le-mul}
use lib.ListN.{length-replicate}
use Rattle.places.proofs.Stamps.{zeros}
use Rattle.facing.proofs.choose_in.Goals as goal

pub choose_over-requires-clause-k_in_bounds : goal.choose_over-requires-clause-k_in_bounds
choose_over-requires-clause-k_in_bounds g c =
    let rows = c.requires.k_in_bounds in
    (simp length-replicate (rw (← c.requires.room.0) (mul-le-mul rows.0 rows.0)), zeros _, rows.1, rows.2)
