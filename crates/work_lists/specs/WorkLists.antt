-- Work lists: clipping goes from one to the other and back, and shows what is left in the one where it ended.
use Rattle.std.specs.Prelude.{ℕ, ◌-◌, Bool, true, false, not, cond, List, [], ◌∷◌, ◌++◌, length, replicate, ltb, Float}
use Rattle.std.specs.Prelude.{Option, Some, None, Result, Ok, Err}
use Rattle.std.specs.Bool.{beq}
use Rattle.places.specs.Stored.{joined}
use Rattle.floats.specs.F64.{zero64}
use Rattle.flat.specs.Points.{Point}
use Rattle.work_lists.specs.declared.NoRoom.{NoRoom}
use Rattle.work_lists.specs.declared.Outline.{Outline}

-- what one plane or edge makes of an outline: it leaves it whole, leaves nothing, has no room for what it leaves, or makes another of it
pub data Change : Type 0 where
  whole gone full : Change
  made : List Point → Change

-- what all of them make of it: nothing is left, there is no room, or an outline is left, in the first work list (false)
-- or in the second (true)
pub data Outcome : Type 0 where
  nothing no_room : Outcome
  outline : Bool → List Point → Outcome

-- what a change leaves of the outline ps in one of the lists: another that was made of it stands in the other list
abbrev pub left_by : Change → Bool → List Point → Outcome
left_by whole second ps = outline second ps
left_by gone second ps = nothing
left_by full second ps = no_room
left_by (made qs) second ps = outline (not second) qs

-- the planes or edges one after the other: each works on the outline that is left, and where none is left nothing more is done
unfoldable pub run_of : {E : Type 0} → (E → List Point → Change) → List E → Outcome → Outcome
run_of change [] left = left
run_of change (e ∷ es) nothing = nothing
run_of change (e ∷ es) no_room = no_room
run_of change (e ∷ es) (outline second ps) = run_of change es (left_by (change e ps) second ps)

-- clipping starts in the first list, where what is to be clipped must have room
unfoldable pub clipped_of : {E : Type 0} → ℕ → (E → List Point → Change) → List E → List Point → Outcome
clipped_of room change es ps =
    let left = run_of change es (outline false ps) in
    cond (ltb room (length ps)) no_room left

-- the smaller of two numbers: how many points the shorter list holds
unfoldable pub shorter_of : ℕ → ℕ → ℕ
shorter_of a b = cond (ltb b a) b a

-- the points of the outcome, none where nothing is left
abbrev pub outline_of : Outcome → List Point
outline_of nothing = []
outline_of no_room = []
outline_of (outline second ps) = ps

-- ---- the answer of SCOPE 11: an outline of 0 points reads as nothing left
abbrev pub answer_of : Outcome → Result (Option Outline) NoRoom
answer_of nothing = Ok None
answer_of no_room = Err (record {})
answer_of (outline second []) = Ok None
answer_of (outline second (p ∷ ps)) = Ok (Some (record { points = length (p ∷ ps); in_second = second }))

-- a list of n numbers that shows points, or shows none: +0 in every other number
abbrev pub showing : Bool → List Point → ℕ → List Float
showing true ps n = joined ps ++ replicate (n - length (joined ps)) zero64
showing false ps n = replicate n zero64

-- what then stands in a work list of n numbers: `which` is false for the first, true for the second
abbrev pub list_after : Outcome → Bool → ℕ → List Float
list_after nothing which n = replicate n zero64
list_after no_room which n = replicate n zero64
list_after (outline second ps) which n = showing (beq second which) ps n
