-- Vertices that all move by one vector keep their exact sums: taking the vector off and then p is taking off both at once, and what the
-- move takes from the cross product of a side is told by the side's two ends, so round a ring it adds up to 0.
use mathlib.Core.Path.{◌≡◌, refl, ap, ◌∙◌}
use mathlib.Core.List.{List, [], ◌∷◌}
use Prim.Native.Nat.{ℕ}
use lib.ListN.{get_or}
use lib.IntN.{ℤ, pos, ◌+ℤ◌, ◌*ℤ◌, ◌-ℤ◌}
use Rattle.places.specs.Lists.{Each}
use Rattle.places.specs.Ring.{walk, sides}
use Rattle.places.proofs.Lists.{each_head, each_tail}
use Rattle.exact.specs.Space.{V3, less, plus, triples, cross, area}
use Rattle.exact.proofs.Poly.{var, con, ◌⊕◌, ◌⊗◌, ⊖, ring}
use Rattle.exact.proofs.Balance.{sum}
use Rattle.exact.proofs.Area.{cross_x, cross_y, cross_z, area_is}

-- the vertex v moves by o: `at` says where it is before, and `at'` where it is afterwards
abbrev pub MovesBy : (ℕ → V3) → (ℕ → V3) → V3 → ℕ → Type 0
MovesBy at at' o v = at' v ≡ less (at v) o

-- the three corners of a triangle do
pub record TriangleMoves (at at' : ℕ → V3) (o : V3) (t : List ℕ) : Type 0 where
  pub first : MovesBy at at' o (get_or t 0 0)
  pub second : MovesBy at at' o (get_or t 1 0)
  pub third : MovesBy at at' o (get_or t 2 0)

-- ---- triple products
twice : (a o p : ℤ) → (a -ℤ o) -ℤ p ≡ a -ℤ (p +ℤ o)
twice a o p = ring (a ∷ o ∷ p ∷ []) ((var 0 ⊕ ⊖ (var 1)) ⊕ ⊖ (var 2)) (var 0 ⊕ ⊖ (var 2 ⊕ var 1)) tt

less_twice : (a o p : V3) → less (less a o) p ≡ less a (plus p o)
unfolding less plus
less_twice a o p = λ i. record {
  x = twice a.x o.x p.x i;
  y = twice a.y o.y p.y i;
  z = twice a.z o.z p.z i;
}

module _ (at at' : ℕ → V3) (o : V3) where
  moved_corner : (p : V3) (v : ℕ) → MovesBy at at' o v → less (at' v) p ≡ less (at v) (plus p o)
  moved_corner p v m = ap (λ a. less a p) m ∙ less_twice (at v) o p

  -- about p they are what those of the unmoved triangles are about p moved back
  pub moved_triples : (p : V3) (ts : List (List ℕ)) → Each [] (TriangleMoves at at' o) ts → triples at' p ts ≡ triples at (plus p o) ts
  moved_triples p [] e = refl
  moved_triples p (t ∷ ts) e =
      let m = each_head e in
      rw (
        moved_corner p (get_or t 0 0) m.first,
        moved_corner p (get_or t 1 0) m.second,
        moved_corner p (get_or t 2 0) m.third,
        moved_triples p ts (each_tail e),
      )

-- ---- sums over the sides of a ring
chained : (w a b c s : ℤ) → (w -ℤ (b -ℤ a)) +ℤ (s -ℤ (c -ℤ b)) ≡ (w +ℤ s) -ℤ (c -ℤ a)
chained w a b c s =
    ring (w ∷ a ∷ b ∷ c ∷ s ∷ [])
    ((var 0 ⊕ ⊖ (var 2 ⊕ ⊖ (var 1))) ⊕ (var 4 ⊕ ⊖ (var 3 ⊕ ⊖ (var 2)))) ((var 0 ⊕ var 4) ⊕ ⊖ (var 3 ⊕ ⊖ (var 1))) tt

last_side : (w a z : ℤ) → (w -ℤ (z -ℤ a)) +ℤ pos 0 ≡ (w +ℤ pos 0) -ℤ (z -ℤ a)
last_side w a z =
    ring (w ∷ a ∷ z ∷ []) ((var 0 ⊕ ⊖ (var 2 ⊕ ⊖ (var 1))) ⊕ con (pos 0)) ((var 0 ⊕ con (pos 0)) ⊕ ⊖ (var 2 ⊕ ⊖ (var 1))) tt

back_again : (s a : ℤ) → s -ℤ (a -ℤ a) ≡ s
back_again s a = ring (s ∷ a ∷ []) (var 0 ⊕ ⊖ (var 1 ⊕ ⊖ (var 1))) (var 0) tt

-- two weights of sides that differ by what a number at the side's end has more than that at its start
module _ (w w' : ℕ → ℕ → ℤ) (g : ℕ → ℤ) {P : ℕ → Type 0} (by-ends : (u v : ℕ) → P u → P v → w' u v ≡ w u v -ℤ (g v -ℤ g u)) where
  -- from a through l to z their sums differ by what stands at the two ends alone
  walk_by_ends : (a : ℕ) (l : List ℕ) (z : ℕ) → P a → Each 0 P l → P z → sum w' (walk a l z) ≡ sum w (walk a l z) -ℤ (g z -ℤ g a)
  walk_by_ends a [] z pa e pz = rw (by-ends a z pa pz) (last_side (w a z) (g a) (g z))
  walk_by_ends a (b ∷ l) z pa e pz =
      rw (by-ends a b pa (each_head e), walk_by_ends b l z (each_head e) (each_tail e) pz)
      (chained (w a b) (g a) (g b) (g z) (sum w (walk b l z)))

  -- and round a ring not at all
  ring_by_ends : (r : List ℕ) → Each 0 P r → sum w' (sides r) ≡ sum w (sides r)
  ring_by_ends [] e = refl
  ring_by_ends (a ∷ l) e = walk_by_ends a l a (each_head e) (each_tail e) (each_head e) ∙ back_again (sum w (walk a l a)) (g a)

-- ---- doubled area vectors
-- one coordinate of the cross product of two places that move by (p, q), less what their ends tell
minor_moved : (p q a b c d : ℤ) → (a -ℤ p) *ℤ (d -ℤ q) -ℤ (b -ℤ q) *ℤ (c -ℤ p) ≡ (a *ℤ d -ℤ b *ℤ c)
    -ℤ ((p *ℤ d -ℤ q *ℤ c) -ℤ (p *ℤ b -ℤ q *ℤ a))
minor_moved p q a b c d =
    ring (p ∷ q ∷ a ∷ b ∷ c ∷ d ∷ [])
    ((var 2 ⊕ ⊖ (var 0)) ⊗ (var 5 ⊕ ⊖ (var 1)) ⊕ ⊖ ((var 3 ⊕ ⊖ (var 1)) ⊗ (var 4 ⊕ ⊖ (var 0))))
    ((var 2 ⊗ var 5 ⊕ ⊖ (var 3 ⊗ var 4)) ⊕ ⊖ ((var 0 ⊗ var 5 ⊕ ⊖ (var 1 ⊗ var 4)) ⊕ ⊖ (var 0 ⊗ var 3 ⊕ ⊖ (var 1 ⊗ var 2)))) tt

-- what a move by o takes from the cross product of two places is told by each of them alone
cross_moved : (a b o : V3) → cross (less a o) (less b o) ≡ less (cross a b) (less (cross o b) (cross o a))
unfolding cross less
cross_moved a b o = λ i. record {
  x = minor_moved o.y o.z a.y a.z b.y b.z i;
  y = minor_moved o.z o.x a.z a.x b.z b.x i;
  z = minor_moved o.x o.y a.x a.y b.x b.y i;
}

module _ (at at' : ℕ → V3) (o : V3) where
  side_moved : (u v : ℕ) → MovesBy at at' o u → MovesBy at at' o v
      → cross (at' u) (at' v) ≡ less (cross (at u) (at v)) (less (cross o (at v)) (cross o (at u)))
  side_moved u v m n = rw (m, n) (cross_moved (at u) (at v) o)

  -- a ring all of whose corners move has the doubled area vector that it had
  pub moved_area : (r : List ℕ) → Each 0 (MovesBy at at' o) r → area at' r ≡ area at r
  unfolding less
  moved_area r e =
      rw (area_is at' r, area_is at r) (λ i. record {
        x = ring_by_ends (cross_x at) (cross_x at') (λ v. (cross o (at v)).x) (λ u v m n. ap (λ (c : V3). c.x) (side_moved u v m n)) r e i;
        y = ring_by_ends (cross_y at) (cross_y at') (λ v. (cross o (at v)).y) (λ u v m n. ap (λ (c : V3). c.y) (side_moved u v m n)) r e i;
        z = ring_by_ends (cross_z at) (cross_z at') (λ v. (cross o (at v)).z) (λ u v m n. ap (λ (c : V3). c.z) (side_moved u v m n)) r e i;
      })

-- about every reference point a ring has the doubled area vector that it has about (0, 0, 0)
pub area_about : (at : ℕ → V3) (p : V3) (r : List ℕ) → area (λ v. less (at v) p) r ≡ area at r
area_about at p r = moved_area at (λ v. less (at v) p) p r (record { holds = λ k h. refl })
