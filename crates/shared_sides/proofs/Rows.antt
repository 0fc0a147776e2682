-- The lower and the higher of two vertices, by which the marks at the side between them are read: the first mark stands in the lower one's
-- row.
use mathlib.Core.Path.{◌≡◌}
use mathlib.Core.Bool.{cond}
use mathlib.Core.List.{List}
use Prim.Native.Nat.{ℕ, ◌<◌, ◌≤◌, min, max}
use native.Mathlib.Nat.{min-eq_left, min-eq_right, max-eq_left, max-eq_right}
use native.Mathlib.Decide.{dec_lt}
use native.Mathlib.Omega.{arith}
use lib.Dec.{ltb}
use lib.ListN.{get_or}
use borrow.Author.Tests.{lt-ltb, le-ltb}
use Rattle.side_table.specs.Numbers.{Known}
use Rattle.shared_sides.specs.Steps.{first_at, second_at}

module _ {number : List ℕ} {k : ℕ} (a b : ℕ) (ha : Known number k a) (hb : Known number k b) where
  pub lower_known : Known number k (min a b)
  lower_known = go (dec_lt a b)
    where
      go : Dec (a < b) → Known number k (min a b)
      go (yes h) = let o : a ≤ b = omega arith in rw (min-eq_left o) ha
      go (no n) = let o : b ≤ a = omega arith in rw (min-eq_right o) hb

  pub higher_known : Known number k (max a b)
  higher_known = go (dec_lt a b)
    where
      go : Dec (a < b) → Known number k (max a b)
      go (yes h) = let o : a ≤ b = omega arith in rw (max-eq_right o) hb
      go (no n) = let o : b ≤ a = omega arith in rw (max-eq_left o) ha

module _ (at : ℕ → ℕ → ℕ) (t : List ℕ) (a b : ℕ) where
  pub first_row : first_at at t a b ≡ get_or t (at (min a b) (max a b)) 0
  unfolding first_at
  first_row = go (dec_lt a b)
    where
      go : Dec (a < b) → cond (ltb a b) (get_or t (at a b) 0) (get_or t (at b a) 0) ≡ get_or t (at (min a b) (max a b)) 0
      go (yes h) = let o : a ≤ b = omega arith in rw (lt-ltb a b h, min-eq_left o, max-eq_right o)
      go (no n) = let o : b ≤ a = omega arith in rw (le-ltb a b o, min-eq_right o, max-eq_left o)

  pub second_row : second_at at t a b ≡ get_or t (at (max a b) (min a b)) 0
  unfolding second_at
  second_row = go (dec_lt a b)
    where
      go : Dec (a < b) → cond (ltb a b) (get_or t (at b a) 0) (get_or t (at a b) 0) ≡ get_or t (at (max a b) (min a b)) 0
      go (yes h) = let o : a ≤ b = omega arith in rw (lt-ltb a b h, min-eq_left o, max-eq_right o)
      go (no n) = let o : b ≤ a = omega arith in rw (le-ltb a b o, min-eq_right o, max-eq_left o)
