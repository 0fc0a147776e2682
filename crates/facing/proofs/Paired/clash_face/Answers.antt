-- `facing::Paired::clash_face` meets its contract: whether a side clashes is asked of those from place i on, since none before did.
use mathlib.Core.Path.{refl, ap}
use Prim.Native.Nat.{◌<◌}
use mathlib.Core.List.{[]}
use native.Mathlib.Omega.{arith}
use lib.ListN.{length, get_or}
use Rattle.places.specs.Ring.{sides}
use Rattle.places.proofs.Rings.{length_sides}
use Rattle.places.proofs.Loops.{ask_start, ask_yes, ask_no, ask_end}
use Rattle.cell.specs.Faces.{faces_of}
use Rattle.facing.specs.Steps.{clash_face}
use Rattle.facing.proofs.Rounds.{OnFace, on_face, from_known, to_known, here, here_marked}
use Rattle.facing.proofs.Paired.clash_face.Goals as goal
use Rattle.facing.proofs.Paired.clash_face.Goals.{After-corner-b}

-- the side of the face f at which the loop is
on_side : (c : After-corner-b) → OnFace c.args.self.now.corners.now c.args.self.now.ends.now c.args.f c.loop-i.i c.corner-a.result
    c.corner-b.result
on_side c =
    on_face c.face_by_number-face.ensures c.requires.code_len.1 refl (omega arith) c.corner-a.ensures.0
    c.next.ensures.0 c.corner-b.ensures.0

within : (c : After-corner-b) → c.loop-i.i < length
    (sides (get_or (faces_of c.args.self.now.corners.now c.args.self.now.ends.now) c.args.f []))
within c =
    let face = get_or (faces_of c.args.self.now.corners.now c.args.self.now.ends.now) c.args.f [] in
    omega (arith, length_sides face, (on_side c).within)

pub loop-i-init : goal.loop-i-init
unfolding clash_face
loop-i-init c = ask_start refl

pub clash_side-requires : goal.clash_side-requires
clash_side-requires c =
    let ground = c.args.self.now.ground in
    let side = on_side (goal.at.clash_side-requires c).After-corner-b in
    record {
      known = (from_known ground side, to_known ground side);
      marked = rw c.requires.code_len.0 (here_marked ground side);
    }

pub returns-then-clash_side : goal.returns-then-clash_side
returns-then-clash_side c =
    let place = (goal.at.returns-then-clash_side c).After-corner-b in
    ask_yes (0, 0) c.loop-i.invariant (within place)
    (rw (here c.args.self.now.ground (on_side place), ← c.clash_side.ensures) c.if-clash_side.true)

pub loop-i-preserved : goal.loop-i-preserved
loop-i-preserved c =
    let place = (goal.at.loop-i-preserved c).After-corner-b in
    ask_no (0, 0) c.loop-i.invariant (within place)
    (rw (here c.args.self.now.ground (on_side place), ← c.clash_side.ensures) c.if-clash_side.false)

pub returns : goal.returns
returns c =
    ask_end c.loop-i.invariant
    (omega (
      arith,
      length_sides (get_or (faces_of c.args.self.now.corners.now c.args.self.now.ends.now) c.args.f []),
      ap length c.face_by_number-face.ensures,
    ))
