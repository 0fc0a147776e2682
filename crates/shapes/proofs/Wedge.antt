-- The two counts of a wedge: exactly one of them is odd where an odd number of all five faces is crossed.
use mathlib.Core.Path.{◌≡◌, refl, sym, ◌∙◌}
use mathlib.Core.Bool.{Bool, true, false, not, beq, cond}
use mathlib.Core.List.{List, [], ◌∷◌, ◌++◌}
use Prim.Native.Nat.{ℕ}
use Rattle.places.specs.Loops.{fold_list}
use Rattle.places.proofs.Loops.{fold_append}
use Rattle.flat.specs.Points.{Point}
use Rattle.inside.specs.Ray.{differ, ray_crosses}
use Rattle.inside.specs.Inside.{cross_face, contains_of}
use Rattle.shapes.specs.Tables.{wedge6_tri_faces, wedge6_quad_faces}
use Rattle.shapes.specs.Shapes.{wedge_contains_of}

differ_is : (a b : Bool) → not (beq a b) ≡ differ a b
differ_is true true = refl
differ_is true false = refl
differ_is false true = refl
differ_is false false = refl

-- two answers that are not the same
pub differs : {a b c d : Bool} → a ≡ c → b ≡ d → not (beq a b) ≡ differ c d
differs {a} {b} {c} {d} e f = rw (e, f) (differ_is c d)

-- a face that is crossed turns the answer round, before the others or after them
cross_first : (crossed b rest : Bool) → differ (cond crossed (not b) b) rest ≡ differ b (differ (cond crossed true false) rest)
cross_first true true true = refl
cross_first true true false = refl
cross_first true false rest = refl
cross_first false b rest = refl

module _ (vs : List Point) (p : Point) where
  cross_rest : (fs : List (List ℕ)) (b : Bool) → fold_list (cross_face vs p) fs b ≡ differ b (fold_list (cross_face vs p) fs false)
  unfolding fold_list cross_face
  cross_rest [] true = refl
  cross_rest [] false = refl
  cross_rest (f ∷ fs) b =
      let crossed = ray_crosses vs p f in
      rw (cross_rest fs (cond crossed (not b) b), cross_rest fs (cond crossed true false))
      (cross_first crossed b (fold_list (cross_face vs p) fs false))

  pub both_counts : (fs gs : List (List ℕ)) → contains_of vs p (fs ++ gs) ≡ differ (contains_of vs p fs) (contains_of vs p gs)
  unfolding contains_of
  both_counts fs gs = fold_append (cross_face vs p) fs gs false ∙ cross_rest gs (fold_list (cross_face vs p) fs false)

  -- a wedge contains a point when the crossings of its five faces are odd, as any cell does
  pub wedge_as_cell : wedge_contains_of p vs ≡ contains_of vs p (wedge6_quad_faces ++ wedge6_tri_faces)
  unfolding wedge_contains_of
  wedge_as_cell = sym (both_counts wedge6_quad_faces wedge6_tri_faces)
