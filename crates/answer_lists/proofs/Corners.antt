-- What is known of a shape has one number; and values that are written one by one to a list of as many places are the list.
use mathlib.Core.Path.{◌≡◌, refl, ◌∙◌, ap}
use mathlib.Core.List.{List, ◌++◌, append_assoc, append-nil}
use Prim.Native.Nat.{ℕ, suc, ◌+◌, ◌≤◌, ◌<◌}
use native.Mathlib.Omega.{arith}
use lib.ListN.{length, get_or, set, take, drop, length-append, length-drop}
use lib.Seq.{take-suc, drop-cons, set_at, take_all, length-take-le}
use Rattle.std.proofs.lemmas.List.{drop_all}
use Rattle.geometry.specs.declared.Convexity.{Convexity}
use Rattle.geometry.specs.declared.Convexity.TheVariants.{Convex, Concave, Unknown}
use Rattle.geometry.specs.Listed.{shape_number, shape_known}

-- the number that a description shows says the same shape when it is passed in again
pub shape_again : (shape : Convexity) → shape_known (shape_number shape) ≡ shape
unfolding shape_known
shape_again Convex = refl
shape_again Concave = refl
shape_again Unknown = refl

-- ---- values written one by one
-- the first i values stand at the front of the list, and behind them what stood there before
pub record Copied {A : Type 0} (vs before : List A) (i : ℕ) (list : List A) : Type 0 where
  pub within : i ≤ length vs
  pub room : length vs ≤ length before
  pub so : list ≡ take i vs ++ drop i before

module _ {A : Type 0} {vs before : List A} where
  pub copy_start : length vs ≤ length before → Copied vs before 0 before
  copy_start h = record { within = omega arith; room = h; so = refl }

  pub copy_long : {i : ℕ} {list : List A} → Copied vs before i list → length list ≡ length before
  copy_long {i} {list} c =
      ap length c.so ∙ length-append (take i vs) (drop i before)
      ∙ omega (arith, length-take-le i vs c.within, length-drop i before, c.within, c.room)

  pub copy_step : {i : ℕ} {list : List A} (d : A) → Copied vs before i list → i < length vs
      → Copied vs before (i + 1) (set list i (get_or vs i d))
  copy_step {i} {list} d c h = record {
    within = omega arith;
    room = c.room;
    so =
        let room = c.room in
        let e : i + 1 ≡ suc i = omega arith in
        let seam = set_at (take i vs) (get_or before i d) (drop (suc i) before) (get_or vs i d) i (length-take-le i vs c.within) in
        rw (c.so, drop-cons before i d (omega arith)) (seam ∙ rw (e, take-suc vs i d h, append_assoc));
  }

  -- where there are no other places, the list is the values
  pub copy_all : {i : ℕ} {list : List A} → Copied vs before i list → length vs ≤ i → length before ≡ length vs → list ≡ vs
  copy_all {i} {list} c h n =
      let e : i ≡ length vs = omega (arith, c.within) in
      c.so ∙ rw (e, take_all (length vs) vs (omega arith), drop_all (length vs) before (omega (arith, n)), append-nil)
