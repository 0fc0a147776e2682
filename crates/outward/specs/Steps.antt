-- What functions below the gatehouse ask of and promise each other; no contract of a public entry speaks of these.
use Rattle.std.specs.Prelude.{true, cond, Float}
use Rattle.flat.specs.Points.{Point}
use Rattle.outward.specs.Convexity.{above, below}
use Rattle.outward.specs.declared.Seen.{Seen}

-- what is seen when p is looked at besides
unfoldable pub see_of : Point → Float → Float → Point → Seen → Seen
see_of n d eps p seen =
    record {
      above = cond (above n d eps p) true seen.above;
      below = cond (below n d eps p) true seen.below;
    }
