-- A refusal that `?` hands on is the one that was found; and each row's number is that of the table.
use mathlib.Core.Path.{◌≡◌, refl, ap}
use Rattle.std.specs.Prelude.{Result, Ok, Err}
use Rattle.std.specs.Result.{IsErrAnd}
use Rattle.places.specs.declared.refusal.Refusal.{Refusal}
use Rattle.places.specs.Refusals.{Numbered}

pub handed_on : {A : Type 0} {r : Result A Refusal} {why : Refusal} → IsErrAnd r (λ y. y ≡ why) → r ≡ Err why
handed_on {r = Ok x} h = absurd h
handed_on {r = Err y} h = ap (λ z. Err z) h

pub numbered : Numbered
numbered = record {
  size = refl;
  number = refl;
  ends = refl;
  index = refl;
  empty = refl;
  room = refl;
  bad_record = refl;
  tail = refl;
  sides = refl;
  choice = refl;
  inexact = refl;
}
