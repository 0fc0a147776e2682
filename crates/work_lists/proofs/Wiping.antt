-- A list with +0 from a place on, and the stretch from that place filled with +0: the same list.
use mathlib.Core.Path.{◌≡◌}
use mathlib.Core.List.{List, ◌++◌, append-nil}
use Prim.Native.Nat.{ℕ, ◌-◌, ◌≤◌}
use native.Mathlib.Omega.{arith}
use lib.ListN.{length, take, drop, replicate, length-take, length-drop, drop_of_length-le}
use lib.Ieee.{Float}
use borrow.Rule.Slice.PartMut.{mid_of, put_mid}
use Rattle.floats.specs.F64.{zero64}

-- the list with +0 from a place on
abbrev pub wiped : ℕ → List Float → List Float
wiped start l = take start l ++ replicate (length l - start) zero64

pub wiped_is : (start : ℕ) (l filled : List Float) → start ≤ length l
    → filled ≡ replicate (length (mid_of start (length l - start) l)) zero64 → put_mid start (length l - start) l filled ≡ wiped start l
wiped_is start l filled h e =
    let many : length (take (length l - start) (drop start l)) ≡ length l - start = simp (length-take, length-drop) (omega arith) in
    let f : filled ≡ replicate (length l - start) zero64 = rw many at e in
    let over : length (drop start l) ≤ length l - start = rw length-drop (omega arith) in
    rw (f, drop_of_length-le (drop start l) over, append-nil)
