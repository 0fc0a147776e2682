-- `abi::turning::wegrusamt_turn_faces` meets its contract: where `out` is too short only the refusal is asked, else the entry promises all.
use Rattle.abi.proofs.Told.{turn_short}
use Rattle.abi.proofs.turning.wegrusamt_turn_faces.Goals as goal

pub returns-then-out-lt1 : goal.returns-then-out-lt1
returns-then-out-lt1 c =
    turn_short c.args.coords.now c.args.corners.now c.args.ends.now c.args.out.now c.if-out-lt1.true c.can_turn.ensures
    c.untold.ensures
