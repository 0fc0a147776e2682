-- `floats::schoolbook::round_off` meets its contract: its three answers are the three cases of the third law (proofs/ThreeLaws.antt).
use mathlib.Core.Path.{sym}
use native.Mathlib.Omega.{arith}
use Rattle.floats.proofs.ThreeLaws.{at_hand, last_digit}
use Rattle.floats.proofs.schoolbook.round_off.Goals as goal

pub returns-then-root-eq0 : goal.returns-then-root-eq0
returns-then-root-eq0 c =
    sym ((last_digit _ c.args.root c.args.rest (at_hand c.args.root c.args.rest c.requires)).0 c.if-root-eq0.true)

pub returns-then-rest-eq0 : goal.returns-then-rest-eq0
returns-then-rest-eq0 c =
    sym ((last_digit _ c.args.root c.args.rest (at_hand c.args.root c.args.rest c.requires)).2 c.if-root-eq0.false c.if-rest-eq0.true)

pub returns : goal.returns
returns c =
    sym ((last_digit _ c.args.root c.args.rest (at_hand c.args.root c.args.rest c.requires)).1 c.if-root-eq0.false (omega arith))
