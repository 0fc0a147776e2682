-- `outward::has_corner` meets its contract: the corners are asked in order whether one is v, as `any_of` does (`any_is`).
use mathlib.Core.Path.{◌∙◌}
use mathlib.Core.Bool.{Bool}
use Prim.Native.Nat.{ℕ}
use lib.Dec.{eqb}
use borrow.Author.Rules.{rules}
use borrow.Author.Tests.{tests}
use Rattle.std.proofs.lemmas.Iterator.{YieldsList-from_slice}
use Rattle.std.proofs.lemmas.Iterator.Search.{any_from_yields_List}
use Rattle.places.proofs.Loops.{any_is}
use Rattle.outward.specs.Convexity.{has_corner}
use Rattle.outward.proofs.has_corner.Goals as goal

pub returns : goal.returns
unfolding has_corner
returns c =
    let test : ℕ → Bool = eqb c.args.v in
    any_from_yields_List test _ _ _ c.any.ensures.ran (YieldsList-from_slice c.args.face.now cc) (λ x b q k. search (rules, tests))
    ∙ any_is test c.args.face.now
