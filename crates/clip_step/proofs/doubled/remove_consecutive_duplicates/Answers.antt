-- `clip_step::doubled::remove_consecutive_duplicates` meets its contract: the points that `space_out` keeps stand at the front, and
-- `opened` says how many of that stretch are left; fewer than 3 numbers have no point.
use native.Mathlib.Omega.{arith}
use native.Mathlib.Nat.{sub-zero}
use Rattle.places.proofs.Stored.{length_threes, threes_take}
use Rattle.flat.specs.Points.{vertices_of}
use Rattle.clip_step.proofs.Spacing.{spaced_few, none_doubled, doubled_dropped}
use Rattle.clip_step.proofs.doubled.remove_consecutive_duplicates.Goals as goal

pub returns-then-s-lt3 : goal.returns-then-s-lt3
returns-then-s-lt3 c =
    let e = none_doubled (vertices_of c.args.s.now) (omega (arith, length_threes c.args.s.now)) in
    record { value = e.0; s_value = e.1 }

pub space_out-n-requires : goal.space_out-n-requires
space_out-n-requires c =
    (omega (arith, length_threes c.args.s.now), c.requires, c.sure_square-sure.ensures)

pub overflow_mul-n : goal.overflow_mul-n
overflow_mul-n c =
    let few = spaced_few c.doubled_within-eps.result (vertices_of c.args.s.now) in
    omega (arith, length_threes c.args.s.now, c.space_out-n.ensures.value, few)

pub slice_bounds-opened-end : goal.slice_bounds-opened-end
slice_bounds-opened-end c =
    let few = spaced_few c.doubled_within-eps.result (vertices_of c.args.s.now) in
    omega (arith, length_threes c.args.s.now, c.space_out-n.ensures.value, c.space_out-n.auto.s, few)

pub returns : goal.returns
returns c =
    let e = doubled_dropped (vertices_of c.args.s.now) (vertices_of c.space_out-n.new.s) c.doubled_within-eps.ensures
    (c.space_out-n.ensures.value, c.space_out-n.ensures.s_value)
    (rw sub-zero (threes_take c.space_out-n.result c.space_out-n.new.s)) c.opened.ensures in
    record { value = e.0; s_value = e.1 }
