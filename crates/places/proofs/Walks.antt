-- A loop that goes once round a ring and keeps the corner that it came from, so that each corner is read once: its start, its next corner
-- and its end.
use mathlib.Core.Path.{◌≡◌, sym, ◌∙◌}
use mathlib.Core.List.{List, [], ◌∷◌}
use Prim.Native.Nat.{ℕ, ◌+◌, ◌<◌, ◌≤◌}
use native.Mathlib.Omega.{arith}
use lib.ListN.{length, get_or, drop, drop_of_length-le}
use Rattle.places.specs.Ring.{walk, sides, fold_pairs}
use Rattle.places.specs.Loops.{fold_list}
use Rattle.places.proofs.Loops.{drop_more}

-- ---- from the corner a, with the corners from place i on to come and z at the end, the state s comes to `whole`
pub record Walking {A S : Type 0} (f : A → A → S → S) (l : List A) (whole : S) (z : A) (i : ℕ) (a : A) (s : S) : Type 0 where
  pub within : i ≤ length l
  pub so : fold_pairs f (walk a (drop i l) z) s ≡ whole

module _ {A S : Type 0} {f : A → A → S → S} {l : List A} {whole : S} where
  pub walk_start : {a : A} {s : S} (d : A) → 0 < length l → a ≡ get_or l 0 d → fold_pairs f (sides l) s ≡ whole → Walking f l whole a 1 a s
  walk_start {a} {s} d h q e = record { within = h; so = rw q (go l h e) }
    where
      go : (l : List A) → 0 < length l → fold_pairs f (sides l) s ≡ whole
          → fold_pairs f (walk (get_or l 0 d) (drop 1 l) (get_or l 0 d)) s ≡ whole
      go [] h e = absurd (omega arith)
      go (x ∷ xs) h e = e

  pub walk_next : {z a b : A} {i : ℕ} {s s' : S} (d : A) → Walking f l whole z i a s → i < length l → b ≡ get_or l i d → s' ≡ f a b s
      → Walking f l whole z (i + 1) b s'
  unfolding fold_list
  walk_next {z} {a} {b} {i} {s} {s'} d w h q e = record { within = omega arith; so = rw (e, q) (sym (rw (drop_more l i d h)) ∙ w.so) }

  pub walk_end : {z a : A} {i : ℕ} {s s' : S} → Walking f l whole z i a s → length l ≤ i → s' ≡ f a z s → s' ≡ whole
  unfolding fold_list
  walk_end {z} {a} {i} {s} w h e = e ∙ sym (rw (drop_of_length-le l h)) ∙ w.so
