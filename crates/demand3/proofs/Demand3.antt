-- Demand 3 holds of every cell, with what specs/Demand3.antt states beside it.
use mathlib.Core.Path.{◌≡◌, refl, sym, ◌∙◌, ap}
use mathlib.Core.Logic.{◌↔◌}
use mathlib.Core.List.{List, [], ◌∷◌, ◌++◌}
use Prim.Native.Nat.{ℕ, ◌+◌, ◌<◌, ◌≤◌}
use native.Mathlib.Omega.{arith}
use lib.ListN.{length}
use lib.Ieee.{Float}
use lib.IntN.{ℤ, ◌+ℤ◌, +ℤ_idr}
use Rattle.places.specs.Lists.{Each}
use Rattle.places.specs.Ring.{sides}
use Rattle.std.specs.Prelude.{None}
use Rattle.places.proofs.Lists.{each_nil, each_append, each_head, each_tail}
use Rattle.exact.specs.Sides.{all_sides}
use Rattle.exact.proofs.Poly.{var, ◌⊕◌, ring}
use Rattle.exact.proofs.Balance.{sum, Anti, sum_append}
use Rattle.exact.proofs.Alike.{Alike, sum_faces, alike_closed}
use Rattle.exact.proofs.Volume.{Three, same_about}
use Rattle.flat.specs.Points.{Point, vertices_of}
use Rattle.cut.specs.Cut.{cut_of}
use Rattle.cut.proofs.Facts.{Ends, few, full, short, choice, cut_ends, cut_threes, cut_keeps, stuck_turns}
use Rattle.cell.specs.Faces.{faces_of}
use Rattle.volume.specs.Triangles.{triangles_of, lefts_of}
use Rattle.demand3.specs.Demand3.{place_of, Stuck, Full, Gives, Premises, StaysBalanced, SameSum, Sums, Demand3, ClosedWithRings}

-- ---- of one face
none_of : (ts : List (List ℕ)) → length ts ≤ 0 → ts ≡ []
none_of [] h = refl
none_of (t ∷ ts) h = absurd (omega arith)

module _ (vs : List Point) (face : List ℕ) where
  abbrev Ending : Type 0
  Ending = Ends (choice vs face) face (cut_of vs face)

  stuck : 4 ≤ length (cut_of vs face).left → (choice vs face (cut_of vs face).left).corner ≡ None → Stuck vs face (cut_of vs face).left
  stuck a b = record { four = a; none = stuck_turns vs face (cut_of vs face).left b }

  end_full : Ending → 3 ≤ length face → (length (cut_of vs face).triangles + 2 ≡ length face) ↔ (¬ Stuck vs face (cut_of vs face).left)
  end_full (few l a b) h = absurd (omega arith)
  end_full (full a b) h = (λ _ s. omega (arith, ap length a, s.four), λ _. b)
  end_full (short a b d) h = (λ e. absurd (omega arith), λ n. absurd (n (stuck a b)))

  end_fewer : Ending → 3 ≤ length face → (length (cut_of vs face).triangles + 2 < length face) ↔ Stuck vs face (cut_of vs face).left
  end_fewer (few l a b) h = absurd (omega arith)
  end_fewer (full a b) h = (λ e. absurd (omega arith), λ s. absurd (omega (arith, ap length a, s.four)))
  end_fewer (short a b d) h = (λ _. stuck a b, λ _. omega arith)

  end_nothing : Ending → length face < 3 → (cut_of vs face).triangles ≡ []
  end_nothing (few l a b) h = a
  end_nothing (full a b) h = none_of (cut_of vs face).triangles (omega arith)
  end_nothing (short a b d) h = absurd (omega arith)

  pub gives : Gives vs face
  gives = record { full = end_full (cut_ends vs face); fewer = end_fewer (cut_ends vs face); nothing = end_nothing (cut_ends vs face) }

  -- where it gives its full n − 2 nothing remains
  pub full_left : Full vs face → (cut_of vs face).left ≡ []
  full_left f = go (cut_ends vs face)
    where
      go : Ending → (cut_of vs face).left ≡ []
      go (few l a b) = b
      go (full a b) = a
      go (short a b d) = absurd (omega (arith, f (omega arith)))

-- ---- of a cell
mix : (a b c d : ℤ) → (a +ℤ b) +ℤ (c +ℤ d) ≡ (a +ℤ c) +ℤ (b +ℤ d)
mix a b c d = ring (a ∷ b ∷ c ∷ d ∷ []) ((var 0 ⊕ var 1) ⊕ (var 2 ⊕ var 3)) ((var 0 ⊕ var 2) ⊕ (var 1 ⊕ var 3)) tt

module _ (vs : List Point) where
  cell_keeps : (w : ℕ → ℕ → ℤ) → Anti w → (fs : List (List ℕ))
      → sum w (all_sides (triangles_of vs fs)) +ℤ sum w (all_sides (lefts_of vs fs)) ≡ sum w (all_sides fs)
  unfolding triangles_of lefts_of
  cell_keeps w anti [] = refl
  cell_keeps w anti (f ∷ fs) =
      let t = (cut_of vs f).triangles in
      let l = (cut_of vs f).left in
      rw (
        sum_faces w t (triangles_of vs fs),
        sum_append w (sides l) (all_sides (lefts_of vs fs)),
        sum_append w (sides f) (all_sides fs),
        mix (sum w (all_sides t)) (sum w (all_sides (triangles_of vs fs))) (sum w (sides l)) (sum w (all_sides (lefts_of vs fs))),
        cut_keeps w anti vs f,
        cell_keeps w anti fs,
      )

  cell_alike : (fs : List (List ℕ)) → Alike (triangles_of vs fs ++ lefts_of vs fs) fs
  cell_alike fs = record { sums = λ w anti. sum_faces w (triangles_of vs fs) (lefts_of vs fs) ∙ cell_keeps w anti fs }

  no_lefts : (fs : List (List ℕ)) → Each [] (Full vs) fs → all_sides (lefts_of vs fs) ≡ []
  unfolding lefts_of
  no_lefts [] e = refl
  no_lefts (f ∷ fs) e = rw (full_left vs f (each_head e)) (no_lefts fs (each_tail e))

  pub full_alike : (fs : List (List ℕ)) → Each [] (Full vs) fs → Alike (triangles_of vs fs) fs
  full_alike fs e =
      record { sums = λ w anti. sym (+ℤ_idr (sum w (all_sides (triangles_of vs fs)))) ∙ (rw (no_lefts fs e) at (cell_keeps w anti fs)) }

  threes : (fs : List (List ℕ)) → Each [] Three (triangles_of vs fs)
  unfolding triangles_of
  threes [] = each_nil
  threes (f ∷ fs) = each_append (cut_of vs f).triangles (triangles_of vs fs) (cut_threes vs f) (threes fs)

  pub stays_balanced : (fs : List (List ℕ)) → Premises vs fs → StaysBalanced vs fs
  stays_balanced fs h = alike_closed (triangles_of vs fs) fs (full_alike fs h.full) h.balanced

  pub same_sum : (fs : List (List ℕ)) → Premises vs fs → SameSum vs fs
  same_sum fs h = same_about (place_of vs) (triangles_of vs fs) (threes fs) (stays_balanced fs h)

  pub sums : (fs : List (List ℕ)) → Premises vs fs → Sums vs fs
  sums fs h = record { balanced = stays_balanced fs h; sum = same_sum fs h; sum_f64 = λ p q. same_sum fs h _ _ }

  pub closed_with_rings : (fs : List (List ℕ)) → ClosedWithRings vs fs
  closed_with_rings fs = alike_closed (triangles_of vs fs ++ lefts_of vs fs) fs (cell_alike fs)

pub demand3 : (coords : List Float) (corners ends : List ℕ) → Demand3 coords corners ends
demand3 coords corners ends = record {
  sentence1 = gives (vertices_of coords);
  sentence2 = sums (vertices_of coords) (faces_of corners ends);
}
