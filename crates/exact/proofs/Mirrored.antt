-- For faces that are triangles, a choice of reversals and its opposite have exact sums of triple products that differ in their sign alone:
-- reversing a triangle changes the sign of its triple product, and the two choices differ at every face.
use mathlib.Core.Path.{◌≡◌, refl, sym}
use mathlib.Core.Bool.{Bool, true, false, not}
use mathlib.Core.List.{List, [], ◌∷◌, reverse}
use Prim.Native.Nat.{ℕ, suc}
use native.Mathlib.Omega.{arith}
use lib.ListN.{get_or}
use lib.IntN.{ℤ, neg_ℤ, neg_ℤ-neg_ℤ, neg_ℤ-+ℤ}
use Rattle.places.specs.Lists.{Each}
use Rattle.places.proofs.Lists.{each_head, each_tail}
use Rattle.exact.specs.Space.{V3, det, less, triples}
use Rattle.exact.specs.Facing.{face_by, reversed_by}
use Rattle.exact.proofs.Volume.{Three, det_back}

module _ (at : ℕ → V3) (p : V3) where
  -- the triple product of a triangle
  abbrev pub triple : List ℕ → ℤ
  triple t = det (less (at (get_or t 0 0)) p) (less (at (get_or t 1 0)) p) (less (at (get_or t 2 0)) p)

  pub triple_back : (t : List ℕ) → Three t → triple (reverse t) ≡ neg_ℤ (triple t)
  triple_back [] h = absurd (omega arith)
  triple_back (a ∷ []) h = absurd (omega arith)
  triple_back (a ∷ b ∷ []) h = absurd (omega arith)
  triple_back (a ∷ b ∷ c ∷ []) h = det_back (less (at a) p) (less (at b) p) (less (at c) p)
  triple_back (a ∷ b ∷ c ∷ d ∷ t) h = absurd (omega arith)

  triple_not : (b : Bool) (t : List ℕ) → Three t → triple (face_by (not b) t) ≡ neg_ℤ (triple (face_by b t))
  triple_not true t h = sym (rw (triple_back t h) (neg_ℤ-neg_ℤ (triple t)))
  triple_not false t h = triple_back t h

  pub mirrored : (c : ℕ → Bool) (fs : List (List ℕ)) → Each [] Three fs
      → triples at p (reversed_by (λ k. not (c k)) fs) ≡ neg_ℤ (triples at p (reversed_by c fs))
  mirrored c [] e = refl
  mirrored c (f ∷ fs) e =
      rw (triple_not (c 0) f (each_head e), mirrored (λ k. c (suc k)) fs (each_tail e))
      (sym (neg_ℤ-+ℤ (triple (face_by (c 0) f)) (triples at p (reversed_by (λ k. c (suc k)) fs))))
