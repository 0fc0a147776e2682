-- `shared_sides::doubled_face` meets its contract: the corners passed have the face's stamp and no others have, so one that has it comes
-- twice.
use native.Mathlib.Omega.{arith}
use borrow.Author.Rules.{rules}
use Prim.Native.Nat.{◌<◌}
use lib.ListN.{get_or}
use mathlib.Core.Path.{refl}
use Rattle.side_table.proofs.Corners.{each_at}
use Rattle.shared_sides.proofs.Stamps.{stamp_start, stamp_yes, stamp_no, stamp_end}
use Rattle.shared_sides.proofs.doubled_face.Goals as goal

pub loop-x-init : goal.loop-x-init
loop-x-init c =
    (refl, stamp_start _ c.requires.stamp_len.1)

pub returns-then-stamp-x : goal.returns-then-stamp-x
returns-then-stamp-x c =
    (stamp_yes c.loop-x.invariant.1 (omega arith) refl c.if-stamp-x.true, c.loop-x.invariant.1.fresh)

pub loop-x-preserved : goal.loop-x-preserved
loop-x-preserved c =
    let below : get_or c.args.face.now c.loop-x.x-index 0 < 256 = each_at _ c.requires.each (omega arith) refl in
    (search rules, stamp_no c.loop-x.invariant.1 (omega arith) refl (omega arith) c.if-stamp-x.false)

pub returns : goal.returns
returns c =
    (stamp_end c.loop-x.invariant.1 (omega arith), c.loop-x.invariant.1.fresh)
