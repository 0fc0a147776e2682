-- The doubled area vector of a ring, a coordinate at a time, is a sum over its sides of a weight that changes its sign with the direction.
-- So whatever keeps all such sums keeps the vector: other rings that are alike, another corner at which the ring starts.
use mathlib.Core.Path.{◌≡◌, refl, sym, ◌∙◌}
use mathlib.Core.List.{List, [], ◌∷◌, ◌++◌, reverse, map}
use Prim.Native.Nat.{ℕ}
use lib.IntN.{ℤ, pos, neg_ℤ, ◌+ℤ◌, ◌*ℤ◌, ◌-ℤ◌, +ℤ_idr}
use Rattle.places.specs.Ring.{sides}
use Rattle.exact.specs.Sides.{all_sides}
use Rattle.exact.specs.Space.{V3, less, plus, zero_vector, vector_sum, opposite, cross, area, areas}
use Rattle.exact.proofs.Poly.{var, con, ◌⊕◌, ◌⊗◌, ⊖, ring}
use Rattle.exact.proofs.Balance.{sum, Anti, sum_append, sum_opposed}
use Rattle.exact.proofs.Ears.{sum_rotated}
use Rattle.exact.proofs.Reversed.{sides_back}
use Rattle.exact.proofs.Alike.{Alike, sum_faces}

-- ---- one coordinate of a × b, as a weight of the side from the vertex u to the vertex v
abbrev pub cross_x : (ℕ → V3) → ℕ → ℕ → ℤ
cross_x at u v = (cross (at u) (at v)).x

abbrev pub cross_y : (ℕ → V3) → ℕ → ℕ → ℤ
cross_y at u v = (cross (at u) (at v)).y

abbrev pub cross_z : (ℕ → V3) → ℕ → ℕ → ℤ
cross_z at u v = (cross (at u) (at v)).z

-- the vector whose coordinates are what f makes of the three weights cross_x, cross_y and cross_z
abbrev pub vector_by : (ℕ → V3) → ((ℕ → ℕ → ℤ) → ℤ) → V3
vector_by at f = record { x = f (cross_x at); y = f (cross_y at); z = f (cross_z at) }

minor : (a b c d : ℤ) → a *ℤ b -ℤ c *ℤ d ≡ neg_ℤ (d *ℤ c -ℤ b *ℤ a)
minor a b c d = ring (a ∷ b ∷ c ∷ d ∷ []) (var 0 ⊗ var 1 ⊕ ⊖ (var 2 ⊗ var 3)) (⊖ (var 3 ⊗ var 2 ⊕ ⊖ (var 1 ⊗ var 0))) tt

-- what is the same for every weight that changes its sign with the direction makes the same vector
same_vector : (at : ℕ → V3) (f g : (ℕ → ℕ → ℤ) → ℤ) → ((w : ℕ → ℕ → ℤ) → Anti w → f w ≡ g w) → vector_by at f ≡ vector_by at g
unfolding cross
same_vector at f g h = λ i. record {
  x = h (cross_x at) (λ u v. minor (at u).y (at v).z (at u).z (at v).y) i;
  y = h (cross_y at) (λ u v. minor (at u).z (at v).x (at u).x (at v).z) i;
  z = h (cross_z at) (λ u v. minor (at u).x (at v).y (at u).y (at v).x) i;
}

-- ---- the vectors as sums over sides
crosses_are : (at : ℕ → V3) (l : List (ℕ × ℕ)) → vector_sum (map (λ e. cross (at e.0) (at e.1)) l) ≡ vector_by at (λ w. sum w l)
unfolding plus
crosses_are at [] = refl
crosses_are at (e ∷ l) = rw (crosses_are at l)

pub area_is : (at : ℕ → V3) (r : List ℕ) → area at r ≡ vector_by at (λ w. sum w (sides r))
unfolding area
area_is at r = crosses_are at (sides r)

areas_are : (at : ℕ → V3) (rs : List (List ℕ)) → areas at rs ≡ vector_by at (λ w. sum w (all_sides rs))
unfolding areas plus
areas_are at [] = refl
areas_are at (r ∷ rs) =
    rw (area_is at r, areas_are at rs)
    (sym (same_vector at (λ w. sum w (sides r ++ all_sides rs)) (λ w. sum w (sides r) +ℤ sum w (all_sides rs))
    (λ w anti. sum_append w (sides r) (all_sides rs))))

-- ---- the laws
plus_zero : (a : V3) → plus a zero_vector ≡ a
unfolding plus
plus_zero a = λ i. record { x = +ℤ_idr a.x i; y = +ℤ_idr a.y i; z = +ℤ_idr a.z i }

-- one coordinate of the vector of the triangle a, b, c: (a, a'), (b, b') and (c, c') are the other two coordinates of its corners
minor_three : (a a' b b' c c' : ℤ)
    → (a *ℤ b' -ℤ a' *ℤ b) +ℤ ((b *ℤ c' -ℤ b' *ℤ c) +ℤ ((c *ℤ a' -ℤ c' *ℤ a) +ℤ pos 0))
    ≡ (b -ℤ a) *ℤ (c' -ℤ a') -ℤ (b' -ℤ a') *ℤ (c -ℤ a)
minor_three a a' b b' c c' =
    ring (a ∷ a' ∷ b ∷ b' ∷ c ∷ c' ∷ [])
    ((var 0 ⊗ var 3 ⊕ ⊖ (var 1 ⊗ var 2)) ⊕ ((var 2 ⊗ var 5 ⊕ ⊖ (var 3 ⊗ var 4)) ⊕ ((var 4 ⊗ var 1 ⊕ ⊖ (var 5 ⊗ var 0)) ⊕ con (pos 0))))
    ((var 2 ⊕ ⊖ (var 0)) ⊗ (var 5 ⊕ ⊖ (var 1)) ⊕ ⊖ ((var 3 ⊕ ⊖ (var 1)) ⊗ (var 4 ⊕ ⊖ (var 0)))) tt

module _ (at : ℕ → V3) where
  pub areas_one : (r : List ℕ) → areas at (r ∷ []) ≡ area at r
  unfolding areas
  areas_one r = plus_zero (area at r)

  pub areas_append : (rs ss : List (List ℕ)) → areas at (rs ++ ss) ≡ plus (areas at rs) (areas at ss)
  unfolding plus
  areas_append rs ss =
      rw (areas_are at (rs ++ ss), areas_are at rs, areas_are at ss)
      (same_vector at (λ w. sum w (all_sides (rs ++ ss))) (λ w. sum w (all_sides rs) +ℤ sum w (all_sides ss)) (λ w anti. sum_faces w rs ss))

  -- rings that are alike have the same sum
  pub alike_areas : (rs ss : List (List ℕ)) → Alike rs ss → areas at rs ≡ areas at ss
  alike_areas rs ss alike =
      rw (areas_are at rs, areas_are at ss)
      (same_vector at (λ w. sum w (all_sides rs)) (λ w. sum w (all_sides ss)) alike.sums)

  -- a ring may start at any of its corners
  pub area_rotated : (l m : List ℕ) → area at (l ++ m) ≡ area at (m ++ l)
  area_rotated l m =
      rw (area_is at (l ++ m), area_is at (m ++ l))
      (same_vector at (λ w. sum w (sides (l ++ m))) (λ w. sum w (sides (m ++ l))) (λ w anti. sum_rotated w l m))

  -- traced backward it has each side the other way round, and so the opposite vector
  pub area_reversed : (r : List ℕ) → area at (reverse r) ≡ opposite (area at r)
  unfolding opposite
  area_reversed r =
      rw (area_is at (reverse r), area_is at r)
      (same_vector at (λ w. sum w (sides (reverse r))) (λ w. neg_ℤ (sum w (sides r)))
      (λ w anti. sum_opposed w anti (sides (reverse r)) (sides r) (λ i j. sides_back i j r)))

  -- a triangle has the cross product of the two sides from its first corner
  pub area_three : (a b c : ℕ) → area at (a ∷ b ∷ c ∷ []) ≡ cross (less (at b) (at a)) (less (at c) (at a))
  unfolding cross less
  area_three a b c =
      area_is at (a ∷ b ∷ c ∷ []) ∙ (λ i. record {
        x = minor_three (at a).y (at a).z (at b).y (at b).z (at c).y (at c).z i;
        y = minor_three (at a).z (at a).x (at b).z (at b).x (at c).z (at c).x i;
        z = minor_three (at a).x (at a).y (at b).x (at b).y (at c).x (at c).y i;
      })
