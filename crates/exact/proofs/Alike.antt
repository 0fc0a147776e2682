-- Faces that are alike: every weight that changes its sign with the direction has the same sum over their sides.
-- Then they are closed together, and run each side as often, the runs back taken off; proofs/Area.antt has their doubled area vectors.
use mathlib.Core.Path.{◌≡◌, refl, sym, ◌∙◌, ap}
use mathlib.Core.List.{List, [], ◌∷◌, ◌++◌}
use Prim.Native.Nat.{ℕ, ◌+◌}
use lib.Dec.{eqb}
use lib.IntN.{ℤ, pos, nat_abs, ◌+ℤ◌, ◌-ℤ◌, +ℤ_assoc, +ℤ_idl, +ℤ_invr}
use Rattle.places.specs.Ring.{sides}
use Rattle.places.specs.Loops.{one_if}
use Rattle.exact.specs.Sides.{all_sides, from_to, count, runs, Closed}
use Rattle.exact.proofs.Ring.{minus_turned, no_difference}
use Rattle.exact.proofs.Poly.{var, ◌⊕◌, ⊖, ring}
use Rattle.exact.proofs.Balance.{sum, Anti, sum_append, anti_zero, and_comm}

pub record Alike (gs fs : List (List ℕ)) : Type 1 where
  pub sums : (w : ℕ → ℕ → ℤ) → Anti w → sum w (all_sides gs) ≡ sum w (all_sides fs)

pub sum_faces : (w : ℕ → ℕ → ℤ) (fs gs : List (List ℕ)) → sum w (all_sides (fs ++ gs)) ≡ sum w (all_sides fs) +ℤ sum w (all_sides gs)
sum_faces w [] gs = sym (+ℤ_idl (sum w (all_sides gs)))
sum_faces w (f ∷ fs) gs =
    rw (sum_append w (sides f) (all_sides (fs ++ gs)), sum_append w (sides f) (all_sides fs), sum_faces w fs gs, +ℤ_assoc (sum w (sides f)))

-- ---- the sides i to j less those j to i, as such a weight
abbrev net : ℕ → ℕ → ℕ → ℕ → ℤ
net i j u x = pos (one_if (from_to i j (u, x))) -ℤ pos (one_if (from_to j i (u, x)))

net_anti : (i j : ℕ) → Anti (net i j)
net_anti i j u x =
    rw (and_comm (eqb x i) (eqb u j), and_comm (eqb x j) (eqb u i))
    (minus_turned (pos (one_if (from_to i j (u, x)))) (pos (one_if (from_to j i (u, x)))))

apart : (a b c d : ℤ) → (a -ℤ b) +ℤ (c -ℤ d) ≡ (a +ℤ c) -ℤ (b +ℤ d)
apart a b c d = ring (a ∷ b ∷ c ∷ d ∷ []) ((var 0 ⊕ ⊖ (var 1)) ⊕ (var 2 ⊕ ⊖ (var 3))) ((var 0 ⊕ var 2) ⊕ ⊖ (var 1 ⊕ var 3)) tt

net_sum : (i j : ℕ) (l : List (ℕ × ℕ)) → sum (net i j) l ≡ pos (count i j l) -ℤ pos (count j i l)
net_sum i j [] = refl
net_sum i j (e ∷ l) =
    rw (net_sum i j l) (apart (pos (one_if (from_to i j e))) (pos (one_if (from_to j i e))) (pos (count i j l)) (pos (count j i l)))

level : (a b : ℕ) → pos a -ℤ pos b ≡ pos 0 → a ≡ b
level a b h = ap nat_abs (no_difference (pos a) (pos b) h)

fourfold : (a b e f : ℤ) → (a +ℤ f) -ℤ (b +ℤ e) ≡ (a -ℤ b) -ℤ (e -ℤ f)
fourfold a b e f = ring (a ∷ b ∷ e ∷ f ∷ []) ((var 0 ⊕ var 3) ⊕ ⊖ (var 1 ⊕ var 2)) ((var 0 ⊕ ⊖ (var 1)) ⊕ ⊖ (var 2 ⊕ ⊖ (var 3))) tt

crosswise : (a b e f : ℕ) → pos a -ℤ pos b ≡ pos e -ℤ pos f → a + f ≡ b + e
crosswise a b e f h = level (a + f) (b + e) (fourfold (pos a) (pos b) (pos e) (pos f) ∙ rw h (+ℤ_invr (pos e -ℤ pos f)))

module _ (gs fs : List (List ℕ)) (alike : Alike gs fs) where
  pub alike_closed : Closed fs → Closed gs
  unfolding runs
  alike_closed h i j n =
      level (count i j (all_sides gs)) (count j i (all_sides gs))
      (sym (net_sum i j (all_sides gs)) ∙ alike.sums (net i j) (net_anti i j) ∙ anti_zero (net i j) (net_anti i j) (all_sides fs) h)

  pub alike_runs : (i j : ℕ) → runs i j gs + runs j i fs ≡ runs j i gs + runs i j fs
  unfolding runs
  alike_runs i j = crosswise _ _ _ _ (simp net_sum at (alike.sums (net i j) (net_anti i j)))
