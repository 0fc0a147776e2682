-- `closedness::Chains::link_side` meets its contract: the side's place comes before the first of the chain of its lower end, with the
-- side's code; a side from a vertex to itself is in no chain.
use native.Mathlib.Omega.{arith}
use Rattle.closedness.proofs.Linked.{lower_min, lists_one}
use Rattle.closedness.proofs.Chains.link_side.Goals as goal

pub returns-clause-gains : goal.returns-clause-gains
returns-clause-gains g c l t =
    let self = c.args.self.now in
    lists_one self.first self.back (omega arith) (omega arith) (omega arith) c.args.a c.args.b l c.if-a-b.false
    (lower_min c.args.a c.args.b c.min-m.ensures) c.code.ensures.0 t
