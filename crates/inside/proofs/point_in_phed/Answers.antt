-- `inside::point_in_phed` meets its contract: each pass takes in the corners up to the next mark or the end, and the faces after it make,
-- with the answer so far, the whole (`Splitting`).
use native.Mathlib.Omega.{arith}
use borrow.Author.Rules.{rules}
use Rattle.std.proofs.lemmas.Fn.{always_returns_same}
use Rattle.inside.proofs.Marks.{split_start, split_inside, split_next}
use Rattle.inside.proofs.point_in_phed.Goals as goal

pub loop-face-init : goal.loop-face-init
loop-face-init c = split_start (rw c.into_iter-face-iterator.ensures.into_iter_gives c.split-face-items.ensures.rest)
    (rw c.into_iter-face-iterator.ensures.into_iter_gives c.split-face-items.ensures.done) c.requires.marked_inside

pub cross_marked-inside-requires : goal.cross_marked-inside-requires
cross_marked-inside-requires c =
    split_inside c.next.new.self c.in-Some.face c.loop-face.invariant c.in-Some.ensures.steps
    (always_returns_same _ _ _ (λ a r f' called. search rules))

pub loop-face-preserved : goal.loop-face-preserved
loop-face-preserved c =
    split_next c.next.new.self c.in-Some.face c.loop-face.invariant c.in-Some.ensures.steps
    (always_returns_same _ _ _ (λ a r f' called. grind arith)) c.cross_marked-inside.ensures

pub returns : goal.returns
returns c = c.loop-face.invariant.done c.in-None.ensures.steps.0
