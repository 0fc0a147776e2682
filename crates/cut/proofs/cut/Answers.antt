-- `cut::cut` meets its contract: the lists of the size that is chosen have room for the face, and each of the three functions answers the
-- same; under 3 corners nothing is cut.
use Rattle.cut.proofs.Going.{small_shown}
use Rattle.cut.proofs.cut.Goals as goal

pub returns-then-n-lt3 : goal.returns-then-n-lt3
returns-then-n-lt3 c =
    rw c.counted.ensures (small_shown _ _ _ c.if-n-lt3.true)
