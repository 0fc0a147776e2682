-- Why a call is refused: a row of the table of SCOPE 3, and its number; and what a check finds.
use Rattle.std.specs.Prelude.{◌≡◌, ℕ, ⊤, Result, Ok}
use Rattle.places.specs.declared.refusal.Refusal.{Refusal}
use Rattle.places.specs.declared.refusal.Refusal.TheVariants.{Size, Number, Ends, Index, EmptyFace, Room, Record, Tail, Sides, Choice}
use Rattle.places.specs.declared.refusal.Refusal.TheVariants.{Inexact}

-- the number of a row
abbrev pub number_of : Refusal → ℕ
number_of Size = 1
number_of Number = 2
number_of Ends = 3
number_of Index = 4
number_of EmptyFace = 5
number_of Room = 6
number_of Record = 7
number_of Tail = 8
number_of Sides = 11
number_of Choice = 12
number_of Inexact = 15

-- n is the number of the row
abbrev pub NumberOf : Refusal → ℕ → Type 0
NumberOf why n = n ≡ number_of why

-- what a check finds: nothing against the call, or why it is refused
abbrev pub Check : Type 0
Check = Result ⊤ Refusal

abbrev pub no_refusal : Check
no_refusal = Ok tt

-- the numbers that C and the report's lines have, row by row: whoever gives a row another number loses the proof of this
pub record Numbered : Type 0 where
  pub size : number_of Size ≡ 1
  pub number : number_of Number ≡ 2
  pub ends : number_of Ends ≡ 3
  pub index : number_of Index ≡ 4
  pub empty : number_of EmptyFace ≡ 5
  pub room : number_of Room ≡ 6
  pub bad_record : number_of Record ≡ 7
  pub tail : number_of Tail ≡ 8
  pub sides : number_of Sides ≡ 11
  pub choice : number_of Choice ≡ 12
  pub inexact : number_of Inexact ≡ 15
