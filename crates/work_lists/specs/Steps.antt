-- What functions below the gatehouse ask of and promise each other; no contract of a public entry speaks of these.
use Rattle.std.specs.Prelude.{◌≡◌, Bool, true, false, cond, List, [], ◌∷◌, ℕ, ◌≤◌, ◌+◌, ◌*◌, length, take, set, Float}
use Rattle.std.specs.Prelude.{Option, Some, None, Result, Ok, Err}
use Rattle.std.specs.Bool.{beq}
use Rattle.flat.specs.Points.{Point}
use Rattle.work_lists.specs.declared.Step.{Step}
use Rattle.work_lists.specs.declared.Step.TheVariants.{Kept, Gone, Made}
use Rattle.work_lists.specs.WorkLists.{Change, whole, gone, full, made, Outcome, nothing, no_room, outline, outline_of, answer_of}
use Rattle.work_lists.specs.WorkLists.{list_after}
use Rattle.work_lists.specs.declared.NoRoom.{NoRoom}
use Rattle.work_lists.specs.declared.Outline.{Outline}

-- ---- one step of a clipping: what a plane or an edge makes of the outline in one work list,
-- as the code answers it and the other list shows it
-- an answer, and the list that was written to, show a change; what was made has room and stands at the front
pub data Shows (room : ℕ) : Change → Result Step NoRoom → List Point → Type 0 where
  shows_whole : {list : List Point} → Shows room whole (Ok Kept) list
  shows_gone : {list : List Point} → Shows room gone (Ok Gone) list
  shows_full : {list : List Point} → Shows room full (Err (record {})) list
  shows_made : {ps : List Point} {n : ℕ} {list : List Point} → n ≤ room → take n list ≡ ps → Shows room (made ps) (Ok (Made n)) list

-- e was applied to the outline of n points in the first list or in the second: r and the other list show what it makes of it,
-- and its own list stays
pub record Moved {E : Type 0} (room : ℕ) (change : E → List Point → Change) (e : E) (n : ℕ) (second : Bool)
    (a b : List Point) (r : Result Step NoRoom) (a' b' : List Point) : Type 0 where
  pub shows : Shows room (change e (take n (cond second b a))) r (cond second a' b')
  pub same : cond second b' a' ≡ cond second b a
  pub long : length (cond second a' b') ≡ length (cond second a b)

-- ---- how a list is filled
-- elements laid down from place k on, as far as there are places
unfoldable pub laid_from : {A : Type 0} → ℕ → List A → List A → List A
laid_from k [] l = l
laid_from k (x ∷ xs) l = laid_from (k + 1) xs (set l k x)

-- the elements xs were laid down from place m on: r is the count after them, and where the list ends they were left out
pub record Filled {A : Type 0} (xs : List A) (m : ℕ) (before : List A) (r : ℕ) (after : List A) : Type 0 where
  pub count : r ≡ m + length xs
  pub list : after ≡ laid_from m xs before

-- ---- where an outcome stands before the lists are cleared
abbrev pub is_in_second : Outcome → Bool
is_in_second nothing = false
is_in_second no_room = false
is_in_second (outline second ps) = second

-- r answers an outcome, and its points stand at the front of their list
pub record Ended (o : Outcome) (r : Result (Option Outline) NoRoom) (first second : List Point) : Type 0 where
  pub answer : r ≡ answer_of o
  pub stands : take (length (outline_of o)) (cond (is_in_second o) second first) ≡ outline_of o

-- ---- the lists cleared
-- how many numbers of a list an answer shows, at `size` numbers a point: `which` is false for the first list, true for the second
abbrev pub shown_numbers : Result (Option Outline) NoRoom → ℕ → Bool → ℕ
shown_numbers (Ok None) size which = 0
shown_numbers (Ok (Some left)) size which = cond (beq left.in_second which) (left.points * size) 0
shown_numbers (Err e) size which = 0

-- r answers an outcome, and both lists show it, +0 in every other number
pub record Settled (o : Outcome) (r : Result (Option Outline) NoRoom) (before_first before_second first second : List Float) : Type 0 where
  pub answer : r ≡ answer_of o
  pub in_first : first ≡ list_after o false (length before_first)
  pub in_second : second ≡ list_after o true (length before_second)
