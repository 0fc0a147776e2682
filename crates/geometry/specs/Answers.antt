-- How an entry answers: the value where nothing is refused, else the refusal and no value.
-- A call that a check refuses leaves every lent list as it was.
use Rattle.std.specs.Prelude.{◌≡◌, length, get_or, drop, List, [], ◌++◌, Result, Ok, Err}
use Rattle.places.specs.Refusals.{Check}
use Rattle.places.specs.declared.refusal.Refusal.{Refusal}
use Rattle.flat.specs.Points.{Point, Box, at}
use Rattle.geometry.specs.declared.Point3.{Point3}
use Rattle.geometry.specs.declared.Point2.{Point2}
use Rattle.geometry.specs.declared.Bounds3.{Bounds3}
use Rattle.geometry.specs.declared.Bounds2.{Bounds2}

-- what an entry answers: a value, or why the call is refused
abbrev pub Answer : Type 0 → Type 0
Answer A = Result A Refusal

-- the value where the check passes, else why not
abbrev pub answered : {A : Type 0} → Check → A → Answer A
answered (Ok _) value = Ok value
answered (Err why) value = Err why

-- an answer and a lent list after it where the check passes, else why not, and the list as it was
abbrev pub beside : {A L : Type 0} → Check → Answer A × L → L → Answer A × L
beside (Ok _) outcome list = outcome
beside (Err why) outcome list = (Err why, list)

-- the same with two lists
abbrev pub beside_two : {A L : Type 0} → Check → Answer A × L × L → L → L → Answer A × L × L
beside_two (Ok _) outcome first second = outcome
beside_two (Err why) outcome first second = (Err why, first, second)

-- a promise that is one equation with one named answer allows one outcome: two that it allows are equal
abbrev pub OneAnswer : Type 1
OneAnswer = (A : Type 0) (answer one other : A) → one ≡ answer → other ≡ answer → one ≡ other

-- a list with values at its front, the places behind them as they were
abbrev pub front : {A : Type 0} → List A → List A → List A
front vs list = vs ++ drop (length vs) list

-- the coordinates of a point and of a box by their names, in space and in the plane
abbrev pub named3 : Point → Point3
named3 p = record { x = at p 0; y = at p 1; z = at p 2 }

abbrev pub named2 : Point → Point2
named2 p = record { x = at p 0; y = at p 1 }

abbrev pub bounds3 : Box → Bounds3
bounds3 b = record { low = named3 (get_or b 0 []); high = named3 (get_or b 1 []) }

abbrev pub bounds2 : Box → Bounds2
bounds2 b = record { low = named2 (get_or b 0 []); high = named2 (get_or b 1 []) }
