-- A cut of a face keeps every sum over sides of a weight that changes its sign with the direction, and so the doubled area vector: beside
-- the face backward each side of its triangles is run back as often as it runs, so that all together add up to nothing.
use mathlib.Core.Path.{◌≡◌, sym, ◌∙◌, ap}
use mathlib.Core.List.{List, [], ◌∷◌, ◌++◌, reverse, append-nil}
use Prim.Native.Nat.{ℕ, ◌+◌}
use lib.IntN.{ℤ, ◌+ℤ◌}
use Rattle.places.specs.Ring.{sides, places_below}
use Rattle.exact.specs.Sides.{all_sides, count, runs}
use Rattle.exact.specs.Space.{V3, area, areas}
use Rattle.exact.proofs.Ring.{no_difference}
use Rattle.exact.proofs.Balance.{sum, Anti, sum_append, sum_opposed, anti_zero}
use Rattle.exact.proofs.Reversed.{count_append, sides_back}
use Rattle.exact.proofs.Alike.{Alike}
use Rattle.exact.proofs.Area.{areas_one, alike_areas}
use Rattle.cut_check.specs.CutCheck.{IsCut}
use Rattle.cut_check.specs.Steps.{runs_beside}
use Rattle.cut_check.proofs.FaceSides.{count_face}
use Rattle.cut_check.proofs.Pairs.{cut_even}

-- the sides of the triangles, and then those of the face backward
together : ℕ → List (List ℕ) → List (ℕ × ℕ)
together n ts = all_sides ts ++ sides (reverse (places_below n))

count_together : (n : ℕ) (ts : List (List ℕ)) (i j : ℕ) → count i j (together n ts) ≡ runs_beside n ts i j
unfolding together runs_beside runs
count_together n ts i j =
    count_append i j (all_sides ts) (sides (reverse (places_below n)))
    ∙ ap (λ x. count i j (all_sides ts) + x) (sides_back i j (places_below n) ∙ count_face n j i)

module _ (n : ℕ) (ts : List (List ℕ)) (c : IsCut n ts) where
  balanced : (i j : ℕ) → count i j (together n ts) ≡ count j i (together n ts)
  balanced i j = count_together n ts i j ∙ (cut_even n ts c).back i j ∙ sym (count_together n ts j i)

  same_sums : (w : ℕ → ℕ → ℤ) → Anti w → sum w (all_sides ts) ≡ sum w (sides (places_below n))
  unfolding together
  same_sums w anti =
      let face = places_below n in
      let backward = sum_opposed w anti (sides (reverse face)) (sides face) (λ i j. sides_back i j face) in
      no_difference (sum w (all_sides ts)) (sum w (sides face))
      (ap (λ x. sum w (all_sides ts) +ℤ x) (sym backward) ∙ sym (sum_append w (all_sides ts) (sides (reverse face)))
      ∙ anti_zero w anti (together n ts) (λ i j _. balanced i j))

  accepted_alike : Alike ts (places_below n ∷ [])
  accepted_alike = record { sums = λ w anti. rw (append-nil (sides (places_below n))) (same_sums w anti) }

  pub accepted_area : (at : ℕ → V3) → areas at ts ≡ area at (places_below n)
  accepted_area at = alike_areas at ts (places_below n ∷ []) accepted_alike ∙ areas_one at (places_below n)
