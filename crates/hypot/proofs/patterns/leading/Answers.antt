-- `hypot::patterns::leading` meets its contract: the root is that of the limbs as they are, or of the limbs with two digits fewer
-- (proofs/Leading.antt).
use mathlib.Core.Path.{sym, subst}
use Prim.Native.Nat.{ℕ, ◌+◌, ◌*◌, ◌%◌, ◌^◌, ◌≤◌}
use native.Mathlib.Nat.{mul-le-mul_right}
use native.Mathlib.Omega.{arith}
use Rattle.hypot.specs.Steps.{Leading}
use Rattle.hypot.proofs.Limbs.{power_le}
use Rattle.hypot.proofs.Leading.{as_they_are, two_digits_fewer}
use Rattle.hypot.proofs.patterns.leading.Goals as goal
use Rattle.hypot.proofs.patterns.leading.Goals.{After-power_of_four}

pub returns-then-high-lt18014398509481984 : goal.returns-then-high-lt18014398509481984
returns-then-high-lt18014398509481984 c =
    let sum = c.sum_of_squares-high.result in
    let root = c.root_of-r in
    as_they_are c.args.a c.args.b c.args.s sum.high sum.low sum.lost root.result.root root.result.rest
    c.sum_of_squares-high.ensures c.if-high-lt18014398509481984.true root.ensures

-- what is lost, with two digits more, fits a word
small : (c : After-power_of_four)
    → let z = c.power_of_four.result in
    (z ≤ 2 ^ 52) × (c.sum_of_squares-high.result.low % 4 * z ≤ 3 * z)
small c =
    let z = c.power_of_four.result in
    let three : c.sum_of_squares-high.result.low % 4 ≤ 3 = omega arith in
    (power_le c.args.s z c.requires.s_bound c.power_of_four.ensures, mul-le-mul_right z three)

pub returns : goal.returns
returns c =
    let sum = c.sum_of_squares-high.result in
    let root = c.root_of-r-2.result in
    let fewer =
    two_digits_fewer c.args.a c.args.b c.args.s sum.high sum.low sum.lost root.root root.rest
    c.sum_of_squares-high.ensures c.if-high-lt18014398509481984.false c.root_of-r-2.ensures in
    subst (λ (z : ℕ). Leading c.args.a c.args.b c.args.s root.root root.rest (sum.low % 4 * z + sum.lost) 1)
    (sym c.power_of_four.ensures) fewer

pub overflow_mul-result : goal.overflow_mul-result
overflow_mul-result c = omega (arith, small (goal.at.overflow_mul-result c).After-power_of_four)

pub overflow_add-result : goal.overflow_add-result
overflow_add-result c = omega (arith, small (goal.at.overflow_add-result c).After-power_of_four)
