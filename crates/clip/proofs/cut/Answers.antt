-- `clip::cut` meets its contract: where the trimmed outline has room it stands whole at the front of the list, and dropping the doubled
-- points of that stretch leaves what `cut_change` says.
use mathlib.Core.Path.{◌∙◌}
use native.Mathlib.Nat.{sub-zero}
use native.Mathlib.Omega.{arith}
use lib.Seq.{length-take-le}
use Rattle.places.proofs.Stored.{length_threes}
use Rattle.clip.proofs.Cuts.{cut_full, cut_gone, cut_made}
use borrow.Author.Rules.{rules}
use Rattle.clip.proofs.cut.Goals as goal

pub returns-then-room-m : goal.returns-then-room-m
returns-then-room-m c =
    cut_full c.trim_by_plane-m.ensures c.if-room-m.true

pub overflow_mul-m : goal.overflow_mul-m
overflow_mul-m c =
    omega (arith, length_threes c.args.dst.now)

pub slice_bounds-remove_consecutive_duplicates-end : goal.slice_bounds-remove_consecutive_duplicates-end
slice_bounds-remove_consecutive_duplicates-end c =
    omega (arith, length_threes c.args.dst.now)

pub returns-then-left-lt3 : goal.returns-then-left-lt3
returns-then-left-lt3 c =
    let dropped = c.remove_consecutive_duplicates-left in
    cut_gone c.trim_by_plane-m.new.dst dropped.new.s c.trim_by_plane-m.ensures c.if-room-m.false
    (search rules) (rw sub-zero at dropped.ensures.value) (rw sub-zero at dropped.ensures.s_value) c.if-left-lt3.true

pub returns : goal.returns
returns c =
    let dropped = c.remove_consecutive_duplicates-left in
    rw sub-zero
    (cut_made c.trim_by_plane-m.new.dst dropped.new.s c.trim_by_plane-m.ensures c.if-room-m.false
    (search rules) (rw sub-zero at dropped.ensures.value) (rw sub-zero at dropped.ensures.s_value) c.if-left-lt3.false
    (dropped.auto.s ∙ rw sub-zero (length-take-le _ _ (omega (arith, length_threes c.args.dst.now)))))
