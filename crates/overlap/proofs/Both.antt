-- Two lists of points measured one after the other: the centroid of both, and their radial length, for which the code compares squares
-- and takes one root at the end.
use mathlib.Core.Path.{◌≡◌, refl, sym, ap, ◌∙◌}
use mathlib.Core.List.{List, [], ◌∷◌, ◌++◌}
use Prim.Native.Nat.{ℕ, ◌+◌}
use lib.ListN.{length, length-append}
use lib.IntN.{pos}
use lib.Dec.{T}
use lib.Ieee.{Float, binary64, of_bits, of_int, fits}
use lib.Ieee.Bits.{of_bits-fits}
use Rattle.places.specs.Loops.{fold_list}
use Rattle.places.proofs.Loops.{fold_append}
use Rattle.floats.specs.F64.{zero64}
use Rattle.floats.specs.Pick.{largest_of}
use Rattle.floats.specs.Root.{root_of}
use Rattle.floats.proofs.Monotone.{unsigned, largest_root, largest_keeps}
use Rattle.flat.specs.Points.{Point, point_by, plus_of, over_of, centroid_of}
use Rattle.clip_step.specs.Doubled.{square_of, dist3_of}
use Rattle.clip_step.proofs.Surely.{square_fits, square_clear}
use Rattle.overlap.specs.Tolerances.{farther, radial_of}
use Rattle.overlap.specs.Steps.{farther_square}

-- ---- the largest distance is the root of the largest square
zero_root : root_of binary64 zero64 ≡ zero64
unfolding root_of of_bits
zero_root = refl

zero_clear : T (unsigned zero64)
unfolding of_bits
zero_clear = tt

farther_root : (c : Point) (ps : List Point) (m : Float) → T (fits binary64 m) → T (unsigned m)
    → fold_list (farther c) ps (root_of binary64 m) ≡ root_of binary64 (fold_list (farther_square c) ps m)
unfolding fold_list farther farther_square dist3_of
farther_root c [] m f u = refl
farther_root c (p ∷ ps) m f u =
    let s = square_of p c in
    ap (fold_list (farther c) ps) (largest_root binary64 m s f (square_fits p c) u (square_clear p c))
    ∙ farther_root c ps (largest_of m s) (largest_keeps (λ x. T (fits binary64 x)) m s f (square_fits p c))
    (largest_keeps (λ x. T (unsigned x)) m s u (square_clear p c))

module _ (vs ws : List Point) where
  -- the centroid: the second list's sum goes on from the first's
  centroid_both : centroid_of 3 (vs ++ ws)
      ≡ over_of 3 (fold_list (plus_of 3) ws (fold_list (plus_of 3) vs (point_by 3 (λ k. zero64))))
      (of_int binary64 (pos (length vs + length ws)))
  unfolding centroid_of
  centroid_both = rw (fold_append (plus_of 3) vs ws, length-append vs ws)

  -- a mean of n points, s their sum: of the first list's, and of both lists'
  pub first_mean : {s r : Point} {n : ℕ} → s ≡ fold_list (plus_of 3) vs (point_by 3 (λ k. zero64)) → n ≡ length vs
      → r ≡ over_of 3 s (of_int binary64 (pos n)) → r ≡ centroid_of 3 vs
  unfolding centroid_of
  first_mean e f g = rw (← e, ← f) g

  pub both_mean : {s r : Point} {n : ℕ} → s ≡ fold_list (plus_of 3) ws (fold_list (plus_of 3) vs (point_by 3 (λ k. zero64)))
      → n ≡ length vs + length ws → r ≡ over_of 3 s (of_int binary64 (pos n)) → r ≡ centroid_of 3 (vs ++ ws)
  both_mean e f g = rw (centroid_both, ← e, ← f) g

  -- the larger distances, one list after the other, are the root of the larger squares
  pub radial_both : radial_of (vs ++ ws)
      ≡ root_of binary64
      (fold_list (farther_square (centroid_of 3 (vs ++ ws))) ws (fold_list (farther_square (centroid_of 3 (vs ++ ws))) vs zero64))
  unfolding radial_of
  radial_both =
      let c = centroid_of 3 (vs ++ ws) in
      ap (fold_list (farther c) (vs ++ ws)) (sym zero_root)
      ∙ farther_root c (vs ++ ws) zero64 (of_bits-fits binary64 0) zero_clear
      ∙ ap (root_of binary64) (fold_append (farther_square c) vs ws zero64)
