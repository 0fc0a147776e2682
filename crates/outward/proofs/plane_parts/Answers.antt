-- `outward::plane_parts` meets its contract: with what was seen, the vertices from v on give the whole answer (`Parting`): both sides seen
-- is a yes, and at the end they were not both seen.
use Prim.Native.Nat.{◌<◌}
use lib.ListN.{length}
use Rattle.flat.specs.Points.{vertices_of}
use Rattle.places.proofs.Stored.{length_threes}
use Rattle.outward.proofs.Parting.{part_start, part_yes, part_no, part_end}
use native.Mathlib.Omega.{arith}
use Rattle.outward.proofs.plane_parts.Goals as goal
use Rattle.outward.proofs.plane_parts.Goals.{else-seen-via-then-seen+else-seen-2, else-seen-via-else-seen}

pub loop-v-init : goal.loop-v-init
loop-v-init c = part_start

pub look-seen-requires : goal.look-seen-requires
look-seen-requires c = omega (arith, length_threes c.args.coords.now)

pub returns-then-seen-2 : goal.returns-then-seen-2
returns-then-seen-2 c =
    part_yes c.loop-v.invariant (omega (arith, length_threes c.args.coords.now)) c.look-seen.ensures (rw (c.if-seen.true, c.if-seen-2.true))

pub loop-v-preserved : goal.loop-v-preserved
loop-v-preserved c =
    let below : c.loop-v.v < length (vertices_of c.args.coords.now) = omega (arith, length_threes c.args.coords.now) in
    elim c.else-seen.branch [
      | else-seen-via-then-seen+else-seen-2 w ↦
          part_no c.loop-v.invariant below c.look-seen.ensures (rw (w.if-seen.true, w.if-seen-2.false))
      | else-seen-via-else-seen w ↦
          part_no c.loop-v.invariant below c.look-seen.ensures (rw w.if-seen.false)
    ]

pub returns : goal.returns
returns c = part_end c.loop-v.invariant (omega (arith, length_threes c.args.coords.now))
