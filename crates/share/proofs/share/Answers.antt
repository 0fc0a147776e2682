-- `share::share` meets its contract: both answers are those that `geometry` promises, a refusal is handed on, and the
-- work lists are as the overlap leaves them.
use mathlib.Core.Path.{◌≡◌, refl}
use mathlib.Core.List.{List}
use lib.Ieee.{Float}
use Rattle.places.proofs.Refusals.{handed_on}
use Rattle.geometry.specs.declared.Shared.{Shared}
use Rattle.geometry.specs.Answers.{Answer}
use Rattle.geometry.specs.Clipping.{Measure, Overlapping}
use Rattle.share.specs.Share.{quotient_of, share_answer}
use Rattle.share.proofs.share.Goals as goal

-- an overlap, the volume and their quotient
made_of : {a : Answer Shared} {v whole r : Answer Float} {first second : List Float} {shared : Overlapping} → (a, first, second) ≡ shared
    → v ≡ whole → r ≡ quotient_of a v
    → ◌≡◌ {A = Measure} (r, first, second) (quotient_of shared.0 whole, shared.1, shared.2)
made_of e h q = rw (← e, ← h, q)

pub returns-in_err-part : goal.returns-in_err-part
unfolding share_answer
returns-in_err-part c =
    made_of c.in_err-part.ensures refl (handed_on c.from_residual.ensures.1)

pub returns-in_err-whole : goal.returns-in_err-whole
unfolding share_answer
returns-in_err-whole c =
    made_of c.in_ok-part.ensures c.in_err-whole.ensures (handed_on c.from_residual-in_err-whole.ensures.1)

pub returns : goal.returns
unfolding share_answer
returns c =
    made_of c.in_ok-part.ensures c.in_ok-whole.ensures refl
