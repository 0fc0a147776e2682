-- A refusal that is passed up: there is one, so that of any two the one is the other.
use mathlib.Core.Path.{◌≡◌, refl}
use Rattle.std.specs.Prelude.{Result, Ok, Err, IsErr}
use Rattle.work_lists.specs.declared.NoRoom.{NoRoom}

pub refused_alike : {A : Type 0} {r : Result A NoRoom} → IsErr r → r ≡ Err (record {})
refused_alike {r = Ok x} h = cc
refused_alike {r = Err e} h = refl
