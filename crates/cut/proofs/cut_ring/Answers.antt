-- `cut::cut_ring` meets its contract: the ring is the first m of ks, its points the first m of ps, and what is left to cut of it makes the
-- whole cut, its tests with those that are made; each corner that is cut off keeps that, until none can be or three are left.
use Rattle.flat.specs.Points.{vertices_of}
use mathlib.Core.Path.{◌≡◌, ◌∙◌}
use Prim.Native.Nat.{◌+◌, ◌-◌}
use native.Mathlib.Omega.{arith}
use native.Mathlib.Nat.{mul-le-mul, sub-zero}
use lib.ListN.{length, take}
use Rattle.next_corner.proofs.NextCorner.{choose_below}
use Rattle.cut.proofs.Facts.{in_tests}
use Rattle.cut.proofs.Going.{first_within, start, stop, end, parts, again, tests_so_far}
use Rattle.cut.proofs.cut_ring.Goals as goal

pub loop-t-init : goal.loop-t-init
loop-t-init c =
    rw sub-zero
    (start (vertices_of c.args.coords.now) c.args.face.now c.args.axis _ _ c.args.out.now _ c.requires.in_bounds.0 c.requires.in_bounds.2
    c.fill_places.ensures (c.fill_places.auto.ks ∙ c.requires.ks_len.0) c.fill_points.ensures c.direction-dir.ensures)

pub overflow_add-tests : goal.overflow_add-tests
overflow_add-tests c =
    let so_far = tests_so_far c.loop-t.invariant (omega arith) in
    let whole = in_tests (vertices_of c.args.coords.now) c.args.axis c.args.face.now c.requires.in_bounds.0 in
    let few = c.requires.in_bounds.1 in
    omega (arith, rw (← c.find_corner-c.ensures) at so_far, whole, few, mul-le-mul few few)

pub returns-in_default : goal.returns-in_default
returns-in_default c =
    let none = rw c.find_corner-c.ensures at c.in_default.is in
    rw (c.counted.ensures, c.find_corner-c.ensures) (stop c.loop-t.invariant (omega arith) none)

pub cut_at-requires : goal.cut_at-requires
cut_at-requires c =
    let m = length c.args.face.now - c.loop-t.t in
    let there = choose_below (take m c.loop-t.ps) c.direction-dir.result _ (rw c.find_corner-c.ensures at c.in-Some.is) in
    let within = first_within c.args.face.now m c.loop-t.ks c.loop-t.invariant.within in
    record { within = within; k_in_bounds = (omega (arith, there, parts c.loop-t.invariant), there, omega (arith, c.loop-t.invariant)) }

pub loop-t-preserved : goal.loop-t-preserved
loop-t-preserved c =
    let corner = rw c.find_corner-c.ensures at c.in-Some.is in
    let less : length c.args.face.now - (c.loop-t.t + 1) ≡ length c.args.face.now - c.loop-t.t - 1 = omega arith in
    rw (c.find_corner-c.ensures, less)
    (again c.loop-t.invariant _ _ _ _ (omega arith) corner c.cut_at.ensures.places c.cut_at.ensures.points c.cut_at.ensures.written
    c.cut_at.auto.ks c.cut_at.auto.ps c.cut_at.auto.out)

pub returns : goal.returns
returns c =
    let last : length c.args.face.now - 3 ≡ c.loop-t.t = omega arith in
    let many : length c.args.face.now - 2 ≡ c.loop-t.t + 1 = omega arith in
    rw (c.counted-2.ensures, last, many) (end c.loop-t.invariant _ (omega arith) (cc))
