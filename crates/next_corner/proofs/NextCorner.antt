-- The corner that is chosen is on the ring, since a pass tries places below its length; so at most two tests a corner are made for a
-- choice, and where none is chosen none turns.
use mathlib.Core.Path.{◌≡◌, refl, ◌∙◌}
use mathlib.Core.Bool.{false}
use mathlib.Core.List.{List}
use Prim.Native.Nat.{ℕ, ◌+◌, ◌<◌, ◌≤◌}
use native.Mathlib.Omega.{arith}
use lib.ListN.{length}
use lib.Ieee.{Float}
use Rattle.flat.specs.Points.{Point}
use Rattle.std.specs.Prelude.{Option, Some, None}
use Rattle.places.proofs.Loops.{first_below, first_none}
use Rattle.next_corner.specs.NextCorner.{find_corner, find_ear, find_turn, ear_at, turns_at, or_else, tried_of, tests_of}

module _ (ps : List Point) (dir : Float) where
  -- what a pass takes is on the ring
  ear_below : (k : ℕ) → find_ear ps dir ≡ Some k → k < length ps
  unfolding find_ear
  ear_below k e = omega (arith, first_below (ear_at ps dir) (length ps) 0 k e)

  turn_below : (k : ℕ) → find_turn ps dir ≡ Some k → k < length ps
  unfolding find_turn
  turn_below k e = omega (arith, first_below (turns_at ps dir) (length ps) 0 k e)

  pub choose_below : (k : ℕ) → (find_corner ps dir).corner ≡ Some k → k < length ps
  unfolding find_corner
  choose_below k e = go (find_ear ps dir) refl e
    where
      go : (f : Option ℕ) → find_ear ps dir ≡ f → or_else f (find_turn ps dir) ≡ Some k → k < length ps
      go (Some j) g e = ear_below k (g ∙ e)
      go None g e = turn_below k e

  pub choose_none : (find_corner ps dir).corner ≡ None → (k : ℕ) → k < length ps → turns_at ps dir k ≡ false
  unfolding find_corner find_turn
  choose_none e k h = go (find_ear ps dir) e
    where
      go : (f : Option ℕ) → or_else f (find_turn ps dir) ≡ None → turns_at ps dir k ≡ false
      go (Some j) e = cc
      go None e = first_none (turns_at ps dir) (length ps) 0 e k (omega arith) (omega arith)

  -- ---- the choice by what the passes take
  module _ {ear : Option ℕ} {first : ℕ} (e : ear ≡ find_ear ps dir) (f : first ≡ tried_of (length ps) ear) where
    pub first_takes : (k : ℕ) → ear ≡ Some k → record { corner = Some k; tests = first } ≡ find_corner ps dir
    unfolding find_corner
    first_takes k a = rw (← e, f, a)

    pub second_takes : {turn : Option ℕ} {second : ℕ} → ear ≡ None → turn ≡ find_turn ps dir → second ≡ tried_of (length ps) turn
        → record { corner = turn; tests = first + second } ≡ find_corner ps dir
    unfolding find_corner
    second_takes a t s = rw (← e, f, a, s, t)

  -- ---- a pass tries each corner at most once, and there are two passes
  tried_few : (f : Option ℕ) → ((k : ℕ) → f ≡ Some k → k < length ps) → tried_of (length ps) f ≤ length ps
  tried_few (Some k) h = omega (arith, h k refl)
  tried_few None h = omega arith

  pub ear_tried : tried_of (length ps) (find_ear ps dir) ≤ length ps
  ear_tried = tried_few (find_ear ps dir) ear_below

  pub turn_tried : tried_of (length ps) (find_turn ps dir) ≤ length ps
  turn_tried = tried_few (find_turn ps dir) turn_below

  pub choose_tests : (find_corner ps dir).tests ≤ length ps + length ps
  unfolding find_corner
  choose_tests = go (find_ear ps dir) ear_below
    where
      go : (f : Option ℕ) → ((k : ℕ) → f ≡ Some k → k < length ps) → tests_of (length ps) f (find_turn ps dir) ≤ length ps + length ps
      go (Some j) h = omega (arith, h j refl)
      go None h = omega (arith, turn_tried)
