-- `overlap::both_planes` meets its contract: the first cell's planes are laid down at the front, and what is laid down behind them leaves
-- them as they are.
use mathlib.Core.Path.{◌∙◌}
use Prim.Native.Nat.{◌+◌, ◌*◌, ◌≤◌}
use native.Mathlib.Omega.{arith}
use lib.ListN.{length, length-take, length-drop}
use Rattle.overlap.proofs.Patches.{first_planes}
use Rattle.overlap.proofs.Overlaps.{with_others, joint_laid}
use Rattle.overlap.proofs.both_planes.Goals as goal
use Rattle.overlap.proofs.both_planes.Goals.{After-planes-planes}

-- the first cell has no more planes than faces
few : (c : After-planes-planes) → c.planes-planes.result ≤ length c.args.cell.now.ends.now
few c = omega (arith, with_others _ _ _ c.planes-planes.ensures.value)

pub overflow_mul-from : goal.overflow_mul-from
overflow_mul-from c = omega (arith, few (goal.at.overflow_mul-from c).After-planes-planes)

pub offset_bounds-list-from : goal.offset_bounds-list-from
offset_bounds-list-from c = omega (arith, few (goal.at.offset_bounds-list-from c).After-planes-planes)

pub slice_bounds-planes-count : goal.slice_bounds-planes-count
slice_bounds-planes-count c = omega (arith, few (goal.at.slice_bounds-planes-count c).After-planes-planes)

pub slice_bounds-planes-start : goal.slice_bounds-planes-start
slice_bounds-planes-start c = omega (arith, few (goal.at.slice_bounds-planes-start c).After-planes-planes)

pub planes-planes2-requires : goal.planes-planes2-requires
planes-planes2-requires c =
    record {
      solid = c.requires.solid.1;
      ends_in_bounds = simp (length-take, length-drop) (omega (arith, few (goal.at.planes-planes2-requires c).After-planes-planes));
    }

pub returns : goal.returns
returns c =
    let n = c.planes-planes.result in
    let k = c.planes-planes2.result in
    let all = with_others _ _ _ c.planes-planes.ensures.value in
    let all2 = with_others _ _ _ c.planes-planes2.ensures.value in
    let front = c.planes-planes.new.out in
    let behind = c.planes-planes2.new.out in
    record {
      ends_value = all;
      ends2_value = all2;
      joint = joint_laid (n * 4) (k * 4) front (omega arith) behind ((n + k) * 4) (omega arith)
          (rw c.planes-planes2.auto.out (simp (length-take, length-drop) (omega arith)))
          (first_planes n front ∙ c.planes-planes.ensures.out_value) (first_planes k behind ∙ c.planes-planes2.ensures.out_value);
    }
