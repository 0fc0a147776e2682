-- A clipping, or a measure of what it leaves, that is carried out.
use mathlib.Core.Path.{◌≡◌}
use mathlib.Core.List.{List}
use lib.Ieee.{Float}
use lib.ListN.{length, replicate}
use Rattle.std.specs.Prelude.{Option, Result}
use Rattle.places.specs.Refusals.{Check, no_refusal}
use Rattle.floats.specs.F64.{zero64}
use Rattle.work_lists.specs.declared.NoRoom.{NoRoom}
use Rattle.work_lists.specs.declared.Outline as rooms
use Rattle.work_lists.specs.WorkLists.{Outcome}
use Rattle.work_lists.specs.Steps.{Settled}
use Rattle.geometry.specs.declared.Outline.{Outline}
use Rattle.geometry.specs.Answers.{Answer}
use Rattle.geometry.specs.Clipping.{clipped_answer, clipping_of, measure_of}
use Rattle.geometry.proofs.Answers.{passed_beside_two}

module _ (o : Outcome) (first second : List Float) {check : Check} (through : no_refusal ≡ check) where
  pub clip_passed : {l : Result (Option rooms.Outline) NoRoom} {r : Answer (Option Outline)} {first' second' : List Float}
      → r ≡ clipped_answer l → Settled o l first second first' second' → (r, first', second') ≡ clipping_of check o first second
  clip_passed e s = passed_beside_two _ _ through (rw (e, s.answer, s.in_first, s.in_second))

module _ {A : Type 0} (answer : Answer A) (first second : List Float) {check : Check} (through : no_refusal ≡ check) where
  pub measure_passed : {r : Answer A} {first' second' : List Float} → r ≡ answer
      → first' ≡ replicate (length first) zero64 → second' ≡ replicate (length second) zero64
      → (r, first', second') ≡ measure_of check answer first second
  measure_passed e f g = passed_beside_two _ _ through (rw (e, f, g))
