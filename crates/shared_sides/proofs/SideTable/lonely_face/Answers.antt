-- `shared_sides::SideTable::lonely_face` meets its contract: whether a side of the face is lonely is asked of those from i on,
-- since none before was.
use native.Mathlib.Omega.{arith}
use mathlib.Core.Path.{refl}
use Rattle.places.proofs.Rings.{length_sides, side_at}
use Rattle.places.proofs.Loops.{ask_start, ask_yes, ask_no, ask_end}
use Rattle.shared_sides.specs.Steps.{lonely_face}
use Rattle.shared_sides.proofs.SideTable.lonely_face.Goals as goal

pub loop-i-init : goal.loop-i-init
unfolding lonely_face
loop-i-init c = ask_start refl

pub returns-then-lonely_side : goal.returns-then-lonely_side
returns-then-lonely_side c =
    ask_yes (0, 0) c.loop-i.invariant (omega (arith, length_sides c.args.face.now))
    (cc (side_at c.args.face.now c.loop-i.i 0 (omega arith)))

pub loop-i-preserved : goal.loop-i-preserved
loop-i-preserved c =
    ask_no (0, 0) c.loop-i.invariant (omega (arith, length_sides c.args.face.now))
    (cc (side_at c.args.face.now c.loop-i.i 0 (omega arith)))

pub returns : goal.returns
returns c =
    ask_end c.loop-i.invariant (omega (arith, length_sides c.args.face.now))
