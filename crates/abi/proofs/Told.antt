-- What a caller across the boundary is told, from what an entry answers and what is put into the lent lists.
use mathlib.Core.Path.{◌≡◌, refl, sym, ◌∙◌, ap}
use mathlib.Core.Logic.{◌≢◌}
use mathlib.Core.Bool.{true, false}
use mathlib.Core.List.{List, []}
use Prim.Native.Nat.{ℕ, ◌≤◌, ◌<◌}
use native.Mathlib.Omega.{arith}
use lib.ListN.{length}
use lib.Ieee.{Float}
use borrow.Author.Tests.{eq-eqb, ne_eqb, lt-ltb, le-ltb}
use Rattle.std.specs.Prelude.{Option, Ok, Err}
use Rattle.places.specs.Refusals.{Check, number_of}
use Rattle.places.specs.declared.refusal.Refusal.{Refusal}
use Rattle.geometry.specs.Answers.{Answer}
use Rattle.geometry.specs.declared.CutCounts.{CutCounts}
use Rattle.geometry.specs.declared.Point3.{Point3}
use Rattle.geometry.specs.declared.Shared.{Shared}
use Rattle.geometry.specs.declared.Outline.{Outline}
use Rattle.geometry.specs.Points.{to_local_answer, local_origin_answer}
use Rattle.geometry.proofs.Answers.{origin_alike}
use Rattle.geometry.specs.TurnFaces.{can_turn_answer, TurnFacesGives}
use Rattle.geometry.specs.Listed.{Listed, Reply, told, written, of_number, of_count, of_face_cut, of_done, done_told, of_shape}
use Rattle.geometry.specs.Listed.{clipping_told}
use Rattle.geometry.specs.Listed.{measure_told, of_overlapped, overlap_told, of_place, count_told, to_local_told, code_without_room}
use Rattle.geometry.specs.Listed.{TurnFacesTold}

-- ---- beside the work lists
pub shown_by : {c d : Answer (Option Outline) × List Float × List Float} → c ≡ d → (shown : List ℕ)
    {t : ℕ × List ℕ × List Float × List Float} → t ≡ clipping_told c shown → t ≡ clipping_told d shown
shown_by e shown p = p ∙ ap (λ x. clipping_told x shown) e

pub measured_by : {a : Answer Float} {first second : List Float} {answer : Answer Float × List Float × List Float}
    → (a, first, second) ≡ answer → (out : List Float) {r : ℕ} {out' : List Float} → told r out' [] ≡ written (of_number a) out [] →
    (r, out', first, second) ≡ measure_told answer out
measured_by e out p = rw (← e, ap (λ (t : Reply). t.0) p, ap (λ (t : Reply). t.1) p)

pub overlapped_by : {a : Answer Shared} {first second : List Float} {answer : Answer Shared × List Float × List Float}
    → (a, first, second) ≡ answer → (out : List Float) (arealess : List ℕ) {r : ℕ} {out' : List Float} {arealess' : List ℕ}
    → told r out' arealess' ≡ written (of_overlapped a) out arealess
    → (r, out', arealess', first, second) ≡ overlap_told answer out arealess
overlapped_by e out arealess p = rw (← e, ap (λ (t : Reply). t.0) p, ap (λ (t : Reply). t.1) p, ap (λ (t : Reply). t.2) p)

-- ---- beside a list that is turned
pub done_by : {L : Type 0} {a : Check} {list : L} {answer : Check × L} {r : ℕ} → (a, list) ≡ answer
    → told r [] [] ≡ written (of_done a) [] [] → ◌≡◌ {A = ℕ × L} (r, list) (done_told answer)
done_by e p = rw (← e, ap (λ (t : Reply). t.0) p)

-- ---- a fixed shape in one list
module _ (n : ℕ) (p : List Float) (answer : Listed) (xs : List Float) (ns : List ℕ) where
  pub shape_refused : length p ≢ n → told 1 xs ns ≡ written (of_shape n p answer) xs ns
  shape_refused h = rw (ne_eqb (length p) n h)

  pub shape_passed : {t : Reply} → length p ≡ n → t ≡ written answer xs ns → t ≡ written (of_shape n p answer) xs ns
  shape_passed h e = rw (eq-eqb (length p) n h) e

-- ---- triangles
pub uncounted_is : {L : Type 0} {a : Answer CutCounts} {list : L} {answer : Answer CutCounts × L} {c : CutCounts} → (a, list) ≡ answer
    → a ≡ Ok c
    → told 6 [] [] ≡ written (of_face_cut answer.0) [] []
uncounted_is e q = rw (← e, q)

pub uncounted_refused : {L : Type 0} {a : Answer CutCounts} {list : L} {answer : Answer CutCounts × L} {why : Refusal} → (a, list) ≡ answer
    → a ≡ Err why → told (number_of why) [] [] ≡ written (of_face_cut answer.0) [] []
uncounted_refused e q = rw (← e, q)

-- a list that is too short for two counts is answered as an empty one, and stays as it was
short_alike : (a : Answer CutCounts) (count : List ℕ) → length count < 2
    → written (of_face_cut a) [] count ≡ told (written (of_face_cut a) [] []).0 [] count
short_alike (Ok c) count h = rw (lt-ltb (length count) 2 h)
short_alike (Err why) count h = refl

module _ (answer : List (List ℕ) → Answer CutCounts × List (List ℕ)) (out : List (List ℕ)) where
  pub count_short : (count : List ℕ) {r : ℕ} → length count < 2 → told r [] [] ≡ written (of_face_cut (answer []).0) [] []
      → (r, out, count) ≡ count_told answer out count
  count_short count h e = rw (lt-ltb (length count) 2 h, short_alike (answer []).0 count h, ap (λ (t : Reply). t.0) e)

  pub count_long : (count : List ℕ) {a : Answer CutCounts} {r : ℕ} {out' : List (List ℕ)} {count' : List ℕ} → 2 ≤ length count
      → (a, out') ≡ answer out → told r [] count' ≡ written (of_face_cut a) [] count → (r, out', count') ≡ count_told answer out count
  count_long count h e p = rw (le-ltb (length count) 2 h, ← e, ap (λ (t : Reply). t.0) p, ap (λ (t : Reply). t.2) p)

-- ---- vertices moved to a local origin: where there is no room for the vector the entry that only asks answers alike
module _ (coords out : List Float) where
  pub local_short : {a : Answer Point3} {r : ℕ} {out' : List Float} → length out < 3 → a ≡ local_origin_answer coords
      → told r out' [] ≡ written (of_place a) out [] → (r, coords, out') ≡ to_local_told coords out
  local_short h e p =
      rw (lt-ltb (length out) 3 h, ← origin_alike coords, ← e, ap (λ (t : Reply). t.0) p, ap (λ (t : Reply). t.1) p)

  pub local_long : {a : Answer Point3} {r : ℕ} {coords' out' : List Float} → 3 ≤ length out → (a, coords') ≡ to_local_answer coords
      → told r out' [] ≡ written (of_place a) out [] → (r, coords', out') ≡ to_local_told coords out
  local_long h e p = rw (le-ltb (length out) 3 h, ← e, ap (λ (t : Reply). t.0) p, ap (λ (t : Reply). t.1) p)

-- ---- backward faces
module _ (coords : List Float) (corners ends out : List ℕ) where
  pub turn_short : {code : ℕ} {a : Check} → length out < 1 → a ≡ can_turn_answer coords corners ends → code ≡ code_without_room a
      → TurnFacesTold coords corners ends out code corners out
  turn_short h e q = record {
    count = Ok 0;
    turns = λ f. absurd (let b : true ≡ false = sym (lt-ltb (length out) 1 h) ∙ f in let z : ◌≡◌ {A = ℕ} 0 1 = cc in omega arith);
    untold = λ _. (q ∙ ap code_without_room e, refl, refl);
  }

  pub turn_long : {r : Answer ℕ} {after : List ℕ} {code : ℕ} {out' : List ℕ} → 1 ≤ length out → TurnFacesGives coords corners ends r after
      → told code [] out' ≡ written (of_count r) [] out → TurnFacesTold coords corners ends out code after out'
  turn_long {r} h t p = record {
    count = r;
    turns = λ _. (t, p);
    untold = λ f. absurd (let b : true ≡ false = sym f ∙ le-ltb (length out) 1 h in let z : ◌≡◌ {A = ℕ} 0 1 = cc in omega arith);
  }
