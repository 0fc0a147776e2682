-- `shared_sides::pair_up` meets its contract: a third mark or a missing second is a side that does not occur twice, else the table has both
-- marks.
use native.Mathlib.Omega.{arith}
use mathlib.Core.Path.{◌∙◌}
use mathlib.Core.Bool.{false≢true}
use Rattle.cell.specs.Faces.{faces_of}
use Rattle.cell.proofs.Faces.{length_faces}
use Rattle.shared_sides.proofs.Full.{filled, crowded, mates, unfit_crowded, unfit_else, told_strange}
use Rattle.shared_sides.proofs.pair_up.Goals as goal

pub returns-then-not-put_faces : goal.returns-then-not-put_faces
returns-then-not-put_faces c =
    let fs = faces_of c.args.corners.now c.args.ends.now in
    let third = c.if-not-put_faces.true in
    record { value = unfit_crowded fs (crowded fs c.requires.k_in_bounds.1 c.put_faces.ensures third); mates = λ e. absurd (false≢true e) }

pub returns-then-lonely_faces : goal.returns-then-lonely_faces
returns-then-lonely_faces c =
    let fs = faces_of c.args.corners.now c.args.ends.now in
    let full = filled fs c.requires.k_in_bounds.1 c.put_faces.ensures c.if-not-put_faces.false in
    let told = told_strange c.args.corners.now c.args.ends.now full c.requires.numbered.0.known c.lonely_faces.ensures ∙
    c.if-lonely_faces.true in
    record { value = unfit_crowded fs told; mates = λ e. absurd (false≢true e) }

pub returns : goal.returns
returns c =
    let fs = faces_of c.args.corners.now c.args.ends.now in
    let full = filled fs c.requires.k_in_bounds.1 c.put_faces.ensures c.if-not-put_faces.false in
    let told = told_strange c.args.corners.now c.args.ends.now full c.requires.numbered.0.known c.lonely_faces.ensures ∙
    c.if-lonely_faces.false in
    let few = length_faces c.args.corners.now c.args.ends.now in
    record { value = unfit_else fs told c.any_doubled.ensures; mates = λ _. mates full (omega (arith, few)) told }
