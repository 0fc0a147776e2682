-- `floats::schoolbook::extract` meets its contract: the two facts of the schoolbook hold of what has been brought down, pair after pair
-- (proofs/Pairs.antt), and after 27 pairs that is all.
use Prim.Native.Nat.{◌+◌, ◌*◌, ◌^◌}
use Rattle.floats.proofs.Pairs.{Brought}
use Rattle.floats.proofs.schoolbook.extract.Given as goal

abbrev pub invariant-loop : goal.invariant-loop
invariant-loop l = Brought ((l.root * l.root + l.rest) * 2 ^ 54 + l.n) l.counter l.r.root l.r.rest l.left
