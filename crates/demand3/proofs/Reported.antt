-- What the report's `short 0` and `closed yes` say, and what follows from them by demand 3.
use mathlib.Core.Path.{◌≡◌, refl}
use mathlib.Core.Bool.{Bool, true, false, ◌&&◌}
use mathlib.Core.List.{List, [], ◌∷◌}
use Prim.Native.Nat.{ℕ, ◌+◌}
use native.Mathlib.Omega.{arith}
use borrow.Author.Tests.{ltb-false, leb-true, le-ltb, le-leb}
use lib.Dec.{leb, ltb}
use lib.ListN.{length}
use Rattle.places.specs.Loops.{count_of}
use Rattle.places.specs.Lists.{Each}
use Rattle.places.proofs.Lists.{each_nil, each_cons, each_head, each_tail}
use Rattle.exact.specs.Sides.{closed_of}
use Rattle.exact.proofs.Test.{closed_test}
use Rattle.flat.specs.Points.{Point}
use Rattle.cut.specs.Cut.{cut_of}
use Rattle.cut.proofs.Facts.{cut_room}
use Rattle.volume.specs.Triangles.{is_short, short_of}
use Rattle.demand3.specs.Demand3.{Full, Premises, Reported}
use Rattle.demand3.proofs.Demand3.{stays_balanced, same_sum}

module _ (vs : List Point) where
  -- ---- a face is not short where it gives its full n − 2, and only there
  not_short : (f : List ℕ) → is_short vs f ≡ false → Full vs f
  unfolding is_short
  not_short f e h =
      omega (arith, ltb-false (length (cut_of vs f).triangles + 2) (length f) (rw (le-leb 3 (length f) h) at e), cut_room vs f)

  full_not : (f : List ℕ) → Full vs f → is_short vs f ≡ false
  unfolding is_short
  full_not f g = go (leb 3 (length f)) refl
    where
      go : (b : Bool) → leb 3 (length f) ≡ b → b && ltb (length (cut_of vs f).triangles + 2) (length f) ≡ false
      go true e = le-ltb (length (cut_of vs f).triangles + 2) (length f) (omega (arith, g (leb-true 3 (length f) e)))
      go false e = refl

  -- ---- none of the faces is short
  none_short : (fs : List (List ℕ)) → short_of vs fs ≡ 0 → Each [] (Full vs) fs
  unfolding short_of count_of
  none_short [] h = each_nil
  none_short (f ∷ fs) h = go (is_short vs f) refl (none_short fs)
    where
      go : (b : Bool) → is_short vs f ≡ b → (short_of vs fs ≡ 0 → Each [] (Full vs) fs) → Each [] (Full vs) (f ∷ fs)
      go true e ih = absurd (omega (arith, rw e at h))
      go false e ih = each_cons (not_short f e) (ih (omega (arith, rw e at h)))

  all_full : (fs : List (List ℕ)) → Each [] (Full vs) fs → short_of vs fs ≡ 0
  unfolding short_of count_of
  all_full [] e = refl
  all_full (f ∷ fs) e = rw (full_not f (each_head e)) (omega (arith, all_full fs (each_tail e)))

  premises : (fs : List (List ℕ)) → closed_of fs ≡ true → short_of vs fs ≡ 0 → Premises vs fs
  premises fs c s = record { full = none_short fs s; balanced = (closed_test fs).0 c }

  pub reported : (fs : List (List ℕ)) → Reported vs fs
  reported fs = record {
    short = (none_short fs, all_full fs);
    closed = closed_test fs;
    triangles = λ c s. stays_balanced vs fs (premises fs c s);
    sum = λ c s. same_sum vs fs (premises fs c s);
  }
