-- `abi::cells::wegrusamt_triangle_places` meets its contract: without room for the two counts nothing is written, and what is answered
-- then is what the triangles by vertex number answer, since both count alike; else the entry writes the triangles and the counts are put
-- beside them.
use mathlib.Core.List.{[]}
use Rattle.geometry.specs.Cells.{triangle_places_answer}
use Rattle.geometry.proofs.CheckCut.{same_counts}
use Rattle.abi.proofs.Told.{count_short}
use Rattle.abi.proofs.cells.wegrusamt_triangle_places.Goals as goal

pub returns-then-count-lt2 : goal.returns-then-count-lt2
returns-then-count-lt2 c =
    let answer = triangle_places_answer c.args.coords.now c.args.corners.now c.args.ends.now c.args.face in
    let same = same_counts c.args.coords.now c.args.corners.now c.args.ends.now c.args.face [] in
    count_short answer c.args.out.now c.args.count.now c.if-count-lt2.true
    (rw (← same) at c.uncounted.ensures)
