-- `closedness::Chains::link_face` meets its contract: after i turns the first i sides are linked, and the side at i runs from corner i to
-- the next.
use mathlib.Core.Path.{refl}
use native.Mathlib.Omega.{arith}
use Rattle.closedness.proofs.Linked.{face_none, face_more, face_whole}
use Rattle.closedness.proofs.Chains.link_face.Goals as goal

pub loop-i-init : goal.loop-i-init
loop-i-init g c = record { whole = refl; taken = omega arith; linked = λ l t. face_none t }

pub loop-i-preserved : goal.loop-i-preserved
loop-i-preserved g c = record {
  whole = c.loop-i.invariant.whole;
  taken = omega arith;
  linked = λ l t.
      face_more (c.loop-i.invariant.linked l t) (omega arith) c.corner-a.ensures.0 (cc) c.link_side.ensures.gains;
}

pub returns-clause-gains : goal.returns-clause-gains
returns-clause-gains g c l t = face_whole (c.loop-i.invariant.linked l t) (omega arith)
