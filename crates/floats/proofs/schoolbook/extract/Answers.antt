-- `floats::schoolbook::extract` meets its contract: the two facts of the schoolbook hold of what has been brought down, pair after pair
-- (proofs/Pairs.antt), and after 27 pairs that is all.
use Prim.Native.Nat.{ℕ, ◌+◌, ◌*◌, ◌^◌, ◌<◌}
use native.Mathlib.Omega.{arith}
use Rattle.floats.proofs.Pairs.{one_pair, in_words, all_small}
use Rattle.floats.proofs.schoolbook.extract.Goals as goal
use Rattle.floats.proofs.schoolbook.extract.Goals.{In-loop, Start}

-- all that is to be brought down
abbrev all : Start → ℕ
all c = (c.args.root * c.args.root + c.args.rest) * 2 ^ 54 + c.args.n

fine : (c : In-loop) → (c.loop.r.root < 2 ^ 53) × (c.loop.left < 2 ^ 54)
fine c =
    let small = all_small c.args.root c.args.rest c.args.n c.requires.root_bound c.requires.rest_bound c.requires.n_bound in
    in_words (all c.before.before) c.loop.counter c.loop.r.root c.loop.r.rest c.loop.left small c.loop-test.true c.loop.invariant

pub step-r-requires : goal.step-r-requires
step-r-requires c =
    record {
      root_bound = (fine (goal.at.step-r-requires c).In-loop).0;
      rest_bound = omega arith;
      pair_bound = omega (arith, (fine (goal.at.step-r-requires c).In-loop).1);
    }

pub loop-preserved : goal.loop-preserved
loop-preserved c =
    let down = one_pair (all (goal.at.loop-preserved c).Start) c.loop.counter c.loop.r.root c.loop.r.rest c.loop.left
    c.step-r.result.root c.step-r.result.rest in
    down c.loop.invariant c.step-r.ensures
