-- `hypot::squares::square` meets its contract: the product by halves with its carries is the product (proofs/Limbs.antt), and each half is
-- so small that every part of it fits a word.
use Prim.Native.Nat.{ℕ, ◌/◌, ◌%◌, ◌^◌}
use native.Mathlib.Omega.{arith}
use Rattle.hypot.proofs.Limbs.{square_is, high_lt}
use Rattle.hypot.proofs.squares.square.Goals as goal
use Rattle.hypot.proofs.squares.square.Goals.{Start}

abbrev h : Start → ℕ
h c = c.args.c / 2 ^ 27

abbrev l : Start → ℕ
l c = c.args.c % 2 ^ 27

pub returns : goal.returns
returns c =
    let e = square_is c.args.c (h (goal.at.returns c).Start) (l (goal.at.returns c).Start) (omega arith) in
    record { low_value = e; low_bound = omega arith; high_bound = high_lt c.args.c _ _ c.requires e }
