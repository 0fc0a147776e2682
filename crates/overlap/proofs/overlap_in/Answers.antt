-- `overlap::overlap_in` meets its contract: one list has the planes of both cells, the sum over the second cell's faces goes on from
-- that over the first's, so that it is the sum over what is left of all faces, and the faces without a plane are those of no area.
use mathlib.Core.Path.{refl, ap}
use mathlib.Core.List.{List}
use Prim.Native.Nat.{ℕ, ◌+◌, ◌*◌, ◌-◌}
use lib.ListN.{take}
use lib.Ieee.{Float}
use Rattle.std.specs.Prelude.{Ok}
use Rattle.cell.specs.SoundCell.{vertices, faces}
use Rattle.planes.specs.Planes.{planes_of}
use Rattle.overlap.specs.Steps.{Joint}
use Rattle.overlap.proofs.Overlaps.{overlap_refused, overlap_is, joint_cut, left_over}
use Rattle.overlap.proofs.Overlaps.{few_coordinates}
use Rattle.work_lists.proofs.PassedUp.{refused_alike}
use borrow.Author.Rules.{rules}
use Rattle.overlap.proofs.overlap_in.Goals as goal
use Rattle.overlap.proofs.overlap_in.Goals.{After-both_planes-c}
use Rattle.overlap.proofs.overlap_in.Given.{Over}

-- the list after the planes are laid down, and how many numbers these have
abbrev planes : (g : Over) → After-both_planes-c g → List Float
planes g c = c.both_planes-c.new.list

abbrev all : (g : Over) → After-both_planes-c g → ℕ
all g c = (c.both_planes-c.result.planes + c.both_planes-c.result.planes2) * 4

-- they are those of both cells
joint : (g : Over) (c : After-both_planes-c g) → Joint (c.both_planes-c.result.planes * 4) (c.both_planes-c.result.planes2 * 4)
    (planes_of (vertices c.args.cell.now) (faces c.args.cell.now))
    (planes_of (vertices c.args.cell2.now) (faces c.args.cell2.now)) (take (all g c - 0) (planes g c))
joint g c = joint_cut (all g c) (planes g c) c.both_planes-c.ensures.joint

pub measures-m-requires : goal.measures-m-requires
measures-m-requires g c = search (rules, few_coordinates)

pub returns-in_err-sum : goal.returns-in_err-sum
returns-in_err-sum g c =
    let so_far = c.so_far-t.ensures in
    let none = overlap_refused _ _ _ _ _ _ c.measures-m.ensures (joint g (goal.at.returns-in_err-sum g c).After-both_planes-c)
    (rw (so_far.0, so_far.1, so_far.2, so_far.3) at c.in_err-sum.ensures) refl in
    rw (refused_alike c.from_residual.ensures.0, ← none)

pub returns-in_err-whole : goal.returns-in_err-whole
returns-in_err-whole g c =
    let so_far = c.so_far-t.ensures in
    let so_far2 = c.so_far-u.ensures in
    let none = overlap_is _ _ _ _ _ _ c.measures-m.ensures (joint g (goal.at.returns-in_err-whole g c).After-both_planes-c)
    (rw (so_far.0, so_far.1, so_far.2, so_far.3) at c.in_ok-sum.ensures) _ _ refl c.add_faces.auto.first c.add_faces.auto.second
    (rw (so_far2.0, so_far2.1, so_far2.2, so_far2.3) at c.in_err-whole.ensures) refl in
    rw (refused_alike c.from_residual-in_err-whole.ensures.0, ← none)

pub returns : goal.returns
returns g c =
    let found = c.both_planes-c.result in
    let counts = c.both_planes-c.ensures in
    let so_far = c.so_far-t.ensures in
    let so_far2 = c.so_far-u.ensures in
    let is = overlap_is _ _ _ _ _ _ c.measures-m.ensures (joint g (goal.at.returns g c).After-both_planes-c)
    (rw (so_far.0, so_far.1, so_far.2, so_far.3) at c.in_ok-sum.ensures) _ _ refl c.add_faces.auto.first c.add_faces.auto.second
    (rw (so_far2.0, so_far2.1, so_far2.2, so_far2.3) at c.in_ok-whole.ensures) (ap Ok c.magnitude.ensures) in
    rw (← is, ← left_over found.planes counts.ends_value, ← left_over found.planes2 counts.ends2_value)
