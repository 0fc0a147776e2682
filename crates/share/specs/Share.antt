-- What part of a convex cell's volume lies in another, over the named answers of `geometry`.
use Rattle.std.specs.Prelude.{ℕ, List, Float, Ok, Err}
use Rattle.floats.specs.F64.{◌/f◌}
use Rattle.geometry.specs.declared.Shared.{Shared}
use Rattle.geometry.specs.Answers.{Answer}
use Rattle.geometry.specs.Cells.{volume_answer}
use Rattle.geometry.specs.Clipping.{Measure, overlap_answer}

-- an overlap's volume over a number, or the first refusal
abbrev pub quotient_of : Answer Shared → Answer Float → Answer Float
quotient_of (Err why) whole = Err why
quotient_of (Ok o) (Err why) = Err why
quotient_of (Ok o) (Ok y) = Ok (o.volume /f y)

-- share: the volume that two cells share over that of the first, and both work lists as the overlap leaves them
unfoldable pub share_answer : List Float → List ℕ → List ℕ → List Float → List ℕ → List ℕ → List Float → List Float → Measure
share_answer coords corners ends coords2 corners2 ends2 first second =
    let shared = overlap_answer coords corners ends coords2 corners2 ends2 first second in
    (quotient_of shared.0 (volume_answer coords corners ends), shared.1, shared.2)
