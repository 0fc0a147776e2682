-- What `check_cut` answers: whether triangles that a client sends are a cut of a face of n corners. `places` are the corners of the
-- triangles, three a triangle, each by its place in the face.
use Rattle.std.specs.Prelude.{ℕ, ◌≡◌, ◌↔◌, Bool, true, List, Ok}
use Rattle.places.specs.Refusals.{no_refusal}
use Rattle.places.specs.Stored.{in_threes}
use Rattle.cut_check.specs.CutCheck.{IsCut, is_cut_of}
use Rattle.refusals.specs.Refusals.{check_refusal}
use Rattle.geometry.specs.Answers.{Answer, answered}

-- check_cut: whether the triangles are a cut, as a test, or the refusal
unfoldable pub check_cut_answer : ℕ → List ℕ → Answer Bool
check_cut_answer n places = answered (check_refusal n places) (is_cut_of n (in_threes places))

-- an answer is yes exactly where nothing is refused and the triangles are a cut
abbrev pub YesForCuts : ℕ → List ℕ → Answer Bool → Type 0
YesForCuts n places r = (r ≡ Ok true) ↔ ((check_refusal n places ≡ no_refusal) × IsCut n (in_threes places))
