-- `shared_sides::put_face` meets its contract: after i sides the table with the marks of those left is what stood there with all the face's
-- marks.
use native.Mathlib.Omega.{arith}
use Rattle.shared_sides.proofs.Table.{put_next, put_full, put_end, in_more, in_none}
use Rattle.shared_sides.proofs.put_face.Goals as goal

pub returns-then-not-put_side : goal.returns-then-not-put_side
returns-then-not-put_side c =
    put_full c.loop-i.invariant.2 c.put_side.ensures _ c.if-not-put_side.true
    (in_more c.args.face.now c.loop-i.i c.args.f (omega arith) c.corner-a.ensures.0 (cc))

pub loop-i-preserved : goal.loop-i-preserved
loop-i-preserved c = (
  omega arith,
  omega arith,
  put_next c.loop-i.invariant.2 c.put_side.ensures c.if-not-put_side.false
      (in_more c.args.face.now c.loop-i.i c.args.f (omega arith) c.corner-a.ensures.0 (cc)),
)

pub returns : goal.returns
returns c =
    put_end c.loop-i.invariant.2 (in_none c.args.face.now c.loop-i.i c.args.f (omega arith))
