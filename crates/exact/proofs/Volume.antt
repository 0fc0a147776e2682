-- The exact sum of the triple products of closed triangles is the same about every reference point.
use mathlib.Core.Path.{◌≡◌, refl, sym, ◌∙◌}
use mathlib.Core.List.{List, [], ◌∷◌}
use Prim.Native.Nat.{ℕ}
use native.Mathlib.Omega.{arith}
use lib.ListN.{length, get_or}
use lib.IntN.{ℤ, pos, neg_ℤ, ◌+ℤ◌, ◌-ℤ◌, +ℤ_idr}
use Rattle.places.specs.Lists.{Each}
use Rattle.places.proofs.Lists.{each_head, each_tail}
use Rattle.places.specs.Ring.{sides}
use Rattle.exact.specs.Sides.{all_sides, runs, Closed}
use Rattle.exact.specs.Space.{V3, det, less, triples}
use Rattle.exact.proofs.Poly.{E, var, con, ◌⊕◌, ◌⊗◌, ⊖, ring}
use Rattle.exact.proofs.Balance.{sum, sum_append, anti_zero}

-- ---- what a shift of the reference point adds is a sum over the triangle's sides
-- the same over expressions
record VE : Type 0 where
  x : E
  y : E
  z : E

abbrev det_e : VE → VE → VE → E
det_e a b c = a.x ⊗ (b.y ⊗ c.z ⊕ ⊖ (b.z ⊗ c.y)) ⊕ a.y ⊗ (b.z ⊗ c.x ⊕ ⊖ (b.x ⊗ c.z)) ⊕ a.z ⊗ (b.x ⊗ c.y ⊕ ⊖ (b.y ⊗ c.x))

abbrev less_e : VE → VE → VE
less_e a p = record { x = a.x ⊕ ⊖ p.x; y = a.y ⊕ ⊖ p.y; z = a.z ⊕ ⊖ p.z }

abbrev va : VE
va = record { x = var 0; y = var 1; z = var 2 }

abbrev vb : VE
vb = record { x = var 3; y = var 4; z = var 5 }

abbrev vc : VE
vc = record { x = var 6; y = var 7; z = var 8 }

abbrev vp : VE
vp = record { x = var 9; y = var 10; z = var 11 }

shift : (a b c p : V3) → det (less a p) (less b p) (less c p) ≡ det a b c -ℤ (det p a b +ℤ det p b c +ℤ det p c a)
unfolding det less
shift a b c p = ring (a.x ∷ a.y ∷ a.z ∷ b.x ∷ b.y ∷ b.z ∷ c.x ∷ c.y ∷ c.z ∷ p.x ∷ p.y ∷ p.z ∷ [])
    (det_e (less_e va vp) (less_e vb vp) (less_e vc vp)) (det_e va vb vc ⊕ ⊖ (det_e vp va vb ⊕ det_e vp vb vc ⊕ det_e vp vc va)) tt

det_anti : (p a b : V3) → det p a b ≡ neg_ℤ (det p b a)
unfolding det
det_anti p a b = ring (a.x ∷ a.y ∷ a.z ∷ b.x ∷ b.y ∷ b.z ∷ p.x ∷ p.y ∷ p.z ∷ []) (det_e vc va vb) (⊖ (det_e vc vb va)) tt

-- the other way round, the opposite
pub det_back : (a b c : V3) → det c b a ≡ neg_ℤ (det a b c)
unfolding det
det_back a b c = ring (a.x ∷ a.y ∷ a.z ∷ b.x ∷ b.y ∷ b.z ∷ c.x ∷ c.y ∷ c.z ∷ []) (det_e vc vb va) (⊖ (det_e va vb vc)) tt

-- ---- over triangles
-- each has three corners
abbrev pub Three : List ℕ → Type 0
Three t = length t ≡ 3

three_sides : (w : ℕ → ℕ → ℤ) (t : List ℕ) → Three t
    → sum w (sides t) ≡ w (get_or t 0 0) (get_or t 1 0) +ℤ (w (get_or t 1 0) (get_or t 2 0) +ℤ (w (get_or t 2 0) (get_or t 0 0) +ℤ pos 0))
three_sides w [] h = absurd (omega arith)
three_sides w (a ∷ []) h = absurd (omega arith)
three_sides w (a ∷ b ∷ []) h = absurd (omega arith)
three_sides w (a ∷ b ∷ c ∷ []) h = refl
three_sides w (a ∷ b ∷ c ∷ d ∷ r) h = absurd (omega arith)

-- the triple products about the origin, nothing taken away
abbrev plain : (ℕ → V3) → List (List ℕ) → ℤ
plain at [] = pos 0
plain at (t ∷ ts) = det (at (get_or t 0 0)) (at (get_or t 1 0)) (at (get_or t 2 0)) +ℤ plain at ts

-- what the side from u to v adds where the reference point is p
abbrev swept : (ℕ → V3) → V3 → ℕ → ℕ → ℤ
swept at p u v = det p (at u) (at v)

regroup : (d x y z b s : ℤ) → (d -ℤ (x +ℤ y +ℤ z)) +ℤ (b -ℤ s) ≡ (d +ℤ b) -ℤ ((x +ℤ (y +ℤ (z +ℤ pos 0))) +ℤ s)
regroup d x y z b s =
    ring (d ∷ x ∷ y ∷ z ∷ b ∷ s ∷ [])
    ((var 0 ⊕ ⊖ (var 1 ⊕ var 2 ⊕ var 3)) ⊕ (var 4 ⊕ ⊖ (var 5))) ((var 0 ⊕ var 4) ⊕ ⊖ ((var 1 ⊕ (var 2 ⊕ (var 3 ⊕ con (pos 0)))) ⊕ var 5)) tt

module _ (at : ℕ → V3) where
  moved : (p : V3) (ts : List (List ℕ)) → Each [] Three ts → triples at p ts ≡ plain at ts -ℤ sum (swept at p) (all_sides ts)
  moved p [] e = refl
  moved p (t ∷ ts) e =
      rw (
        shift (at (get_or t 0 0)) (at (get_or t 1 0)) (at (get_or t 2 0)) p,
        moved p ts (each_tail e),
        sum_append (swept at p) (sides t) (all_sides ts),
        three_sides (swept at p) t (each_head e),
        regroup,
      )

  settled : (p : V3) (ts : List (List ℕ)) → Each [] Three ts → Closed ts → triples at p ts ≡ plain at ts
  unfolding runs
  settled p ts e h = moved p ts e ∙ rw (anti_zero (swept at p) (λ u v. det_anti p (at u) (at v)) (all_sides ts) h, +ℤ_idr (plain at ts))

  pub same_about : (ts : List (List ℕ)) → Each [] Three ts → Closed ts → (p q : V3) → triples at p ts ≡ triples at q ts
  same_about ts e h p q = settled p ts e h ∙ sym (settled q ts e h)
