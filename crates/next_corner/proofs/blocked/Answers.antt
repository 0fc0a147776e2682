-- `next_corner::blocked` meets its contract: `any` asks of each point in turn whether it blocks, as `blocked_of` does.
use mathlib.Core.Path.{◌∙◌}
use borrow.Author.Rules.{rules}
use Rattle.std.proofs.Common.{tests}
use Rattle.std.proofs.lemmas.Iterator.{YieldsList-from_slice}
use Rattle.std.proofs.lemmas.Iterator.Search.{any_from_yields_List}
use Rattle.places.proofs.Loops.{any_is}
use Rattle.next_corner.specs.NextCorner.{blocks_of, blocked_of}
use Rattle.next_corner.proofs.blocked.Goals as goal

pub returns : goal.returns
unfolding blocked_of
returns c =
    let test = blocks_of c.args.a c.args.b c.args.c c.args.dir in
    let ps = c.args.ps.now in
    any_from_yields_List test _ _ _ c.any.ensures.ran (YieldsList-from_slice ps cc) (λ x b q k. search (rules, tests)) ∙ any_is test ps
