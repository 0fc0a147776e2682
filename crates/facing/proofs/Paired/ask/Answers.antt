-- `facing::Paired::ask` meets its contract: after i sides every face that has one of them is reached, so after the last every neighbour is.
use mathlib.Core.Path.{refl}
use native.Mathlib.Omega.{arith}
use lib.ListN.{get_or}
use Rattle.cell.proofs.Faces.{length_faces}
use Rattle.facing.proofs.Spread.{spread_first}
use Rattle.facing.proofs.Rounds.{OnFace, on_face, from_known, to_known, here_marked, meet_ready, round_below}
use Rattle.facing.proofs.Rounds.{round_more, round_end}
use Rattle.facing.proofs.Paired.ask.Goals as goal
use Rattle.facing.proofs.Paired.ask.Goals.{After-corner-b}

-- the side of the face f at which the loop is
on_side : (c : After-corner-b) → OnFace c.args.self.now.corners.now c.args.self.now.ends.now (get_or c.args.list.now c.args.at.head 0)
    c.loop-i.i c.corner-a.result c.corner-b.result
on_side c =
    let below = round_below c.loop-i.invariant.3 in
    on_face c.face_by_number-face.ensures (omega (arith, below, length_faces c.args.self.now.corners.now c.args.self.now.ends.now))
    refl (omega arith) c.corner-a.ensures.0 c.next.ensures.0 c.corner-b.ensures.0

pub face_by_number-face-requires : goal.face_by_number-face-requires
face_by_number-face-requires c =
    let first = spread_first c.requires.spread.0 c.requires.spread.1 in (
      c.args.self.now.ground.numbered.ordered,
      omega (arith, first, c.requires.spread.0.codes, length_faces c.args.self.now.corners.now c.args.self.now.ends.now),
    )

pub neighbour-m-requires : goal.neighbour-m-requires
neighbour-m-requires c =
    let ground = c.args.self.now.ground in
    let side = on_side (goal.at.neighbour-m-requires c).After-corner-b in
    record {
      known = (from_known ground side, to_known ground side);
      marked = λ ne. ((here_marked ground side).first ne).0;
    }

pub meet-tail-requires : goal.meet-tail-requires
meet-tail-requires c =
    let side = on_side (goal.at.meet-tail-requires c).After-corner-b in
    let ready = meet_ready c.args.self.now.ground c.loop-i.invariant.3 side c.neighbour-m.ensures in
    record { m_in_bounds = ready.0; tail_in_bounds = ready.1 }

pub loop-i-preserved : goal.loop-i-preserved
loop-i-preserved c =
    let side = on_side (goal.at.loop-i-preserved c).After-corner-b in (
      omega arith,
      omega arith,
      omega arith,
      round_more c.args.self.now.ground c.loop-i.invariant.3 side (rw (← c.neighbour-m.ensures, ← c.runs_up.ensures) c.meet-tail.ensures),
    )

pub returns : goal.returns
returns c =
    (round_end c.loop-i.invariant.3 (rw (← c.face_by_number-face.ensures) (omega arith)), refl)
