-- The smaller of two numbers, by the test of `shorter_of`, which says what std's `min` says.
use mathlib.Core.Path.{◌≡◌, refl}
use mathlib.Core.Bool.{Bool, true, false, cond}
use Prim.Native.Nat.{ℕ, ◌<◌, ◌≤◌, min}
use native.Mathlib.Omega.{arith}
use lib.Dec.{ltb}
use borrow.Author.Tests.{ltb-true, ltb-false}
use Rattle.work_lists.specs.WorkLists.{shorter_of}

pub min_is : (a b : ℕ) → min a b ≡ shorter_of a b
unfolding shorter_of
min_is a b = go (ltb b a) refl
  where
    go : (t : Bool) → ltb b a ≡ t → min a b ≡ cond t b a
    go true e = let h : b < a = ltb-true b a e in omega arith
    go false e = let h : a ≤ b = ltb-false b a e in omega arith
