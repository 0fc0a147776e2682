-- `facing::seed` meets its contract: where all have asked no reached face has a neighbour left, so the lowest other face begins a group.
use mathlib.Core.Path.{refl}
use native.Mathlib.Omega.{arith}
use Prim.Native.Nat.{◌<◌}
use lib.ListN.{length}
use Rattle.facing.proofs.Spread.{low_within, first_below, spread_some, spread_seed}
use Rattle.facing.proofs.seed.Goals as goal
use Rattle.facing.proofs.seed.Goals.{After-next_unreached-low}

pub next_unreached-low-requires : goal.next_unreached-low-requires
next_unreached-low-requires c =
    (c.requires.spread.below, low_within c.args.code.now c.args.at.low c.requires.spread.below)

-- some face is not reached, so the first that is not is one of the faces
first : (c : After-next_unreached-low) → c.next_unreached-low.result < length c.args.code.now
first c =
    first_below c.args.code.now c.next_unreached-low.result c.next_unreached-low.ensures.0
    c.next_unreached-low.ensures.2 (spread_some c.requires.spread c.requires.some (omega arith))

pub bounds-code-low : goal.bounds-code-low
bounds-code-low c = first (goal.at.bounds-code-low c).After-next_unreached-low

pub overflow_cast-list : goal.overflow_cast-list
overflow_cast-list c =
    omega (arith, first (goal.at.overflow_cast-list c).After-next_unreached-low, c.requires.spread.codes, c.requires.few)

pub returns : goal.returns
returns c =
    let h = first (goal.at.returns c).After-next_unreached-low in
    record {
      spread = λ fs s g. spread_seed s c.next_unreached-low.result h (c.next_unreached-low.ensures.1 h) (omega arith)
          c.next_unreached-low.ensures.0;
      same = refl;
      waits = omega arith;
    }
