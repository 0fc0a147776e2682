-- `hypot::patterns::pattern_of` meets its contract: below the infinity's pattern the sum is the pattern, and from there on the value is out
-- of range (proofs/Packing.antt).
use Rattle.hypot.proofs.Packing.{pattern_in, pattern_out}
use Rattle.hypot.proofs.patterns.pattern_of.Goals as goal

pub returns-then-b-lt9218868437227405312 : goal.returns-then-b-lt9218868437227405312
returns-then-b-lt9218868437227405312 c =
    let is = pattern_in c.args.q c.args.k c.requires.q_bound c.requires.bound c.if-b-lt9218868437227405312.true in
    record { result_value = is.0; result_value_2 = is.1 }

pub returns-else-b-lt9218868437227405312 : goal.returns-else-b-lt9218868437227405312
returns-else-b-lt9218868437227405312 c =
    let is = pattern_out c.args.q c.args.k c.requires.q_bound c.requires.bound c.if-b-lt9218868437227405312.false in
    record { result_value = is.0; result_value_2 = is.1 }
