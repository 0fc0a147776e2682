-- `facing::reverse_faces` meets its contract: what is done before face f, and the rest turned by its codes, make the whole turned list.
use mathlib.Core.Path.{refl}
use native.Mathlib.Omega.{arith}
use Rattle.facing.proofs.Reversing.{reverse_start, reverse_step, reverse_next, reverse_end}
use Rattle.facing.proofs.reverse_faces.Goals as goal

pub loop-f-init : goal.loop-f-init
loop-f-init c =
    reverse_start c.requires.t.0

pub slice_bounds-reverse_by_code-end : goal.slice_bounds-reverse_by_code-end
slice_bounds-reverse_by_code-end c =
    let step = reverse_step c.loop-f.invariant (omega arith) refl in
    omega (arith, step.from, step.upto, c.loop-f.invariant.long)

pub loop-f-preserved : goal.loop-f-preserved
loop-f-preserved c =
    reverse_next c.loop-f.invariant (omega arith) refl c.requires.code_len.0 refl c.reverse_by_code-count.ensures.turned
    (omega (arith, c.reverse_by_code-count.ensures.count))

pub returns : goal.returns
returns c =
    let done = reverse_end c.loop-f.invariant (omega arith) in
    record { list = done.0; count = done.1 }
