-- `overlap::intersection` meets its contract: the test is the definition's, of the boxes of both cells, by it the volume is 0 or the
-- overlap's, and the faces of no area are counted in both cases.
use Rattle.overlap.specs.Overlap.{intersection_of, overlapped_of}
use Rattle.overlap.proofs.intersection.Goals as goal

pub returns-then-boxes_miss : goal.returns-then-boxes_miss
unfolding intersection_of overlapped_of
returns-then-boxes_miss c =
    rw (
      ← c.bounds.ensures,
      ← c.bounds-2.ensures,
      ← c.boxes_miss.ensures,
      c.if-boxes_miss.true,
      ← c.no_area_count-arealess.ensures,
      ← c.no_area_count-arealess2.ensures,
    )

pub returns : goal.returns
unfolding intersection_of overlapped_of
returns c =
    rw (← c.bounds.ensures, ← c.bounds-2.ensures, ← c.boxes_miss.ensures, c.if-boxes_miss.false)
    c.overlap.ensures
