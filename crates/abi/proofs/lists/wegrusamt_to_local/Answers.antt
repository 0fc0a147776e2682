-- `abi::lists::wegrusamt_to_local` meets its contract: where `out` is too short only the local origin is asked for, and putting it
-- refuses; else the vertices are moved, and the vector is put at the front of `out`.
use Rattle.abi.proofs.Told.{local_short}
use Rattle.abi.proofs.lists.wegrusamt_to_local.Goals as goal

pub returns-then-out-lt3 : goal.returns-then-out-lt3
returns-then-out-lt3 c =
    local_short c.args.coords.now c.args.out.now c.if-out-lt3.true c.local_origin.ensures c.put_place.ensures
