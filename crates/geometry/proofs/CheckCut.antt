-- What `check_cut` answers is yes exactly for a cut, since the test of one is; and `triangle_places` answers the counts of
-- `triangles`, since the cut by place is the one cut.
use mathlib.Core.Path.{◌≡◌, refl, sym, ◌∙◌}
use mathlib.Core.Bool.{Bool, true}
use mathlib.Core.List.{List}
use Prim.Native.Nat.{ℕ}
use lib.ListN.{length}
use lib.Ieee.{Float}
use Rattle.std.specs.Prelude.{Ok, Err}
use Rattle.places.specs.Refusals.{Check, no_refusal}
use Rattle.places.specs.Stored.{in_threes}
use Rattle.flat.specs.Points.{vertices_of}
use Rattle.cut.proofs.ByPlace.{by_place_long, by_place_tests}
use Rattle.cut_check.specs.CutCheck.{IsCut, is_cut_of}
use Rattle.cut_check.proofs.Test.{cut_test}
use Rattle.refusals.specs.Refusals.{triangles_refusal, check_refusal}
use Rattle.geometry.specs.Answers.{Answer, answered}
use Rattle.geometry.specs.Cells.{face_numbered, triangles_answer, triangle_places_answer}
use Rattle.geometry.specs.CheckCut.{check_cut_answer, YesForCuts}
use Rattle.geometry.proofs.Answers.{first_beside, passed}

-- where nothing is refused the answer is that of the test
pub tested : (n : ℕ) (places : List ℕ) {b : Bool} → no_refusal ≡ check_refusal n places → b ≡ is_cut_of n (in_threes places)
    → Ok b ≡ check_cut_answer n places
unfolding check_cut_answer
tested n places through e = passed through e

pub yes_for_cuts : (n : ℕ) (places : List ℕ) {r : Answer Bool} → r ≡ check_cut_answer n places → YesForCuts n places r
unfolding check_cut_answer
yes_for_cuts n places {r} e = (λ t. go (check_refusal n places) refl (sym e ∙ t), back)
  where
    go : (check : Check) → check_refusal n places ≡ check → answered check (is_cut_of n (in_threes places)) ≡ Ok true
        → (check_refusal n places ≡ no_refusal) × IsCut n (in_threes places)
    go (Ok _) p q =
        let yes : is_cut_of n (in_threes places) ≡ true = cc in
        (p, (cut_test n (in_threes places)).0 yes)
    go (Err why) p q = absurd (cc)

    back : (check_refusal n places ≡ no_refusal) × IsCut n (in_threes places) → r ≡ Ok true
    back p = e ∙ rw (p.0, (cut_test n (in_threes places)).1 p.1)

-- ---- the triangles by place are as many as those by vertex number, and took as many tests
pub same_counts : (coords : List Float) (corners ends : List ℕ) (k : ℕ) (out : List (List ℕ))
    → (triangle_places_answer coords corners ends k out).0 ≡ (triangles_answer coords corners ends k out).0
unfolding triangle_places_answer triangles_answer
same_counts coords corners ends k out =
    let check = triangles_refusal coords corners ends k (length out) in
    let vs = vertices_of coords in
    let face = face_numbered corners ends k in
    first_beside check _ _ out ∙ rw (← by_place_long vs face, ← by_place_tests vs face) (sym (first_beside check _ _ out))
