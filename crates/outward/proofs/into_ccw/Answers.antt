-- `outward::into_ccw` meets its contract: each pass turns one stretch, and what it leaves of the list is turned by the next ones.
use mathlib.Core.Path.{refl}
use native.Mathlib.Omega.{arith}
use Rattle.places.proofs.Lists.{each_slice}
use Rattle.places.proofs.Stored.{length_threes}
use Rattle.outward.specs.Outward.{outward_corners}
use Rattle.outward.proofs.Stretches.{stretch_start, stretch_step, stretch_part, stretch_some, stretch_next, stretch_end}
use Rattle.outward.proofs.Outward.{length_outward}
use Rattle.outward.proofs.into_ccw.Goals as goal

pub vertex_centroid-reference-requires : goal.vertex_centroid-reference-requires
vertex_centroid-reference-requires c =
    omega (arith, length_threes c.args.coords.now)

pub loop-end-init : goal.loop-end-init
unfolding outward_corners
loop-end-init c =
    stretch_start c.requires.sound.ordered c.requires.ends_value (rw c.vertex_centroid-reference.ensures)

pub slice_bounds-face_outward-end : goal.slice_bounds-face_outward-end
slice_bounds-face_outward-end c =
    let step = stretch_step c.loop-end.invariant (omega arith) refl in
    omega (arith, c.loop-end.invariant.long)

pub face_outward-requires-clause-face_nonzero : goal.face_outward-requires-clause-face_nonzero
face_outward-requires-clause-face_nonzero c = stretch_some c.loop-end.invariant (omega arith) refl

pub face_outward-requires-clause-inside : goal.face_outward-requires-clause-inside
face_outward-requires-clause-inside c =
    rw (stretch_part c.loop-end.invariant (omega arith) refl) (each_slice _ _ _ c.requires.sound.inside)

pub loop-end-preserved : goal.loop-end-preserved
loop-end-preserved c =
    stretch_next c.loop-end.invariant (omega arith) refl (length_outward _ _) c.face_outward.ensures

pub returns : goal.returns
returns c = stretch_end c.loop-end.invariant (omega arith)
