-- `volume::moments_in` meets its contract: each pass adds the moments of one face (`Facing`), and the faces one after the other come to all
-- triangles (`moments_all`).
use mathlib.Core.Path.{refl}
use native.Mathlib.Omega.{arith}
use Rattle.cell.specs.SoundCell.{vertices, faces}
use Rattle.cell.proofs.Faces.{face_start, face_step, face_next, face_end_lem}
use Rattle.volume.proofs.Passes.{moments_all}
use borrow.Author.Rules.{rules}
use Rattle.volume.proofs.moments_in.Goals as goal

pub loop-end-init : goal.loop-end-init
loop-end-init c =
    let all = moments_all (vertices c.args.cell.now) (faces c.args.cell.now) in
    (refl, face_start c.args.cell.now.sound.ordered (rw c.requires.refp_value all))

pub face-requires : goal.face-requires
face-requires c =
    let step = face_step c.loop-end.invariant.1 (search rules) refl in
    (step.from, step.upto)

pub loop-end-preserved : goal.loop-end-preserved
loop-end-preserved c =
    (omega (arith, c.add_face_moments-m.auto.out), face_next c.loop-end.invariant.1 (search rules) refl (cc))

pub returns : goal.returns
returns c = face_end_lem c.loop-end.invariant.1 (search rules)
