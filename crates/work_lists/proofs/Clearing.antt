-- From an outline that stands at the front of a work list to lists that show it, +0 in every other number;
-- for points of any number of coordinates.
use mathlib.Core.Path.{◌≡◌, refl, sym, ap, ◌∙◌}
use mathlib.Core.Logic.{◌⊎◌, inl, inr}
use mathlib.Core.Bool.{Bool, true, false, beq, cond}
use mathlib.Core.List.{List, [], ◌∷◌, ◌++◌}
use Prim.Native.Nat.{ℕ, ◌-◌, ◌*◌, ◌≤◌}
use native.Mathlib.Nat.{sub-zero}
use native.Mathlib.Omega.{arith}
use lib.ListN.{length, take, replicate, length-take}
use lib.Seq.{length-take-le}
use lib.Ieee.{Float}
use Rattle.std.specs.Prelude.{Option, Result}
use Rattle.places.specs.Stored.{joined}
use Rattle.floats.specs.F64.{zero64}
use Rattle.flat.specs.Points.{Point}
use Rattle.work_lists.specs.declared.NoRoom.{NoRoom}
use Rattle.work_lists.specs.declared.Outline.{Outline}
use Rattle.work_lists.proofs.Wiping.{wiped}
use Rattle.work_lists.proofs.Endings.{Reads}
use Rattle.work_lists.specs.WorkLists.{Outcome, nothing, no_room, outline, answer_of, showing, list_after}
use Rattle.work_lists.specs.Steps.{shown_numbers, Ended, Settled}

-- ---- the list that shows m numbers, and the other, which shows none
pub of_first : (s : Bool) (m : ℕ) → cond (beq s false) m 0 ≡ cond s 0 m
of_first true m = refl
of_first false m = refl

pub of_second : (s : Bool) (m : ℕ) → cond (beq s true) m 0 ≡ cond s m 0
of_second true m = refl
of_second false m = refl

pub shows_in : (s : Bool) (m : ℕ) (a b : List Float) → (cond (beq s false) m 0 ≤ length a) × (cond (beq s true) m 0 ≤ length b)
    → m ≤ length (cond s b a)
shows_in true m a b h = h.1
shows_in false m a b h = h.0

pub shows_least : (s : Bool) (m : ℕ) (a b : List Float) → (cond (beq s false) m 0 ≤ length a) × (cond (beq s true) m 0 ≤ length b)
    → (m ≤ length a) ⊎ (m ≤ length b)
shows_least true m a b h = inr h.1
shows_least false m a b h = inl h.0

-- ---- the points that an outcome shows in the list `which`
abbrev shown_in : Outcome → Bool → List Point
shown_in nothing which = []
shown_in no_room which = []
shown_in (outline second ps) which = cond (beq second which) ps []

-- a list after an outcome: those points, then +0
after_is : (o : Outcome) (which : Bool) (n : ℕ)
    → list_after o which n ≡ joined (shown_in o which) ++ replicate (n - length (joined (shown_in o which))) zero64
unfolding joined
after_is nothing which n = rw sub-zero
after_is no_room which n = rw sub-zero
after_is (outline second ps) which n = go (beq second which)
  where
    go : (t : Bool) → showing t ps n ≡ joined (cond t ps []) ++ replicate (n - length (joined (cond t ps []))) zero64
    go true = refl
    go false = rw sub-zero

-- the answer shows their numbers
numbers_are : (o : Outcome) (size : ℕ) (which : Bool) → shown_numbers (answer_of o) size which ≡ length (shown_in o which) * size
numbers_are nothing size which = omega arith
numbers_are no_room size which = omega arith
numbers_are (outline second []) size which = go (beq second which)
  where
    go : (t : Bool) → 0 ≡ length (cond {A = List Point} t [] []) * size
    go true = omega arith
    go false = omega arith
numbers_are (outline second (p ∷ ps)) size which = go (beq second which)
  where
    go : (t : Bool) → cond t (length (p ∷ ps) * size) 0 ≡ length (cond t (p ∷ ps) []) * size
    go true = refl
    go false = omega arith

-- and they stand at its front
stand_there : {o : Outcome} {r : Result (Option Outline) NoRoom} {a b : List Point} (which : Bool) → Ended o r a b
    → take (length (shown_in o which)) (cond which b a) ≡ shown_in o which
stand_there {o = nothing} which q = refl
stand_there {o = no_room} which q = refl
stand_there {o = outline true ps} true q = q.stands
stand_there {o = outline true ps} false q = refl
stand_there {o = outline false ps} true q = refl
stand_there {o = outline false ps} false q = q.stands

-- ---- from lists that were cleared after what the answer shows
module _ {size : ℕ} {read : List Float → List Point} (s : Reads size read) where
  module _ (ps : List Point) (l : List Float) (e : take (length ps) (read l) ≡ ps) where
    -- points at the front of a list are not more than it holds
    held : length ps ≤ length (read l)
    held = omega (arith, length-take (length ps) (read l), ap length e)

    -- a list cleared after them shows them
    shows_points : wiped (length ps * size) l ≡ joined ps ++ replicate (length l - length (joined ps)) zero64
    shows_points =
        let f : joined ps ≡ take (length ps * size) l = sym (ap joined e) ∙ s.front (length ps) l held in
        let g : length (joined ps) ≡ length ps * size = ap length f ∙ length-take-le (length ps * size) l (s.fits (length ps) l held) in
        rw (g, f)

  module _ {o : Outcome} {r : Result (Option Outline) NoRoom} {a b : List Float} (q : Ended o r (read a) (read b)) where
    -- how many numbers the answer shows of a list
    numbers : (which : Bool) → shown_numbers r size which ≡ length (shown_in o which) * size
    numbers which = rw q.answer (numbers_are o size which)

    -- there is room for them
    pub shown_fits : (shown_numbers r size false ≤ length a) × (shown_numbers r size true ≤ length b)
    shown_fits = (
      rw (numbers false) (s.fits (length (shown_in o false)) a (held (shown_in o false) a (stand_there false q))),
      rw (numbers true) (s.fits (length (shown_in o true)) b (held (shown_in o true) b (stand_there true q))),
    )

    pub settled : {a₀ b₀ a' b' : List Float} → length a ≡ length a₀ → length b ≡ length b₀
        → a' ≡ wiped (shown_numbers r size false) a → b' ≡ wiped (shown_numbers r size true) b → Settled o r a₀ b₀ a' b'
    settled f g e h =
        record {
          answer = q.answer;
          in_first = rw (e, numbers false, ← f, after_is o false (length a)) (shows_points (shown_in o false) a (stand_there false q));
          in_second = rw (h, numbers true, ← g, after_is o true (length b)) (shows_points (shown_in o true) b (stand_there true q));
        }
