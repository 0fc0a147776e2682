-- `hypot::squares::sum_of_squares` meets its contract: the limbs of b's square are divided by 4 ^ s and added to those of a's, with every
-- carry (proofs/Limbs.antt), and each part fits a word.
use Prim.Native.Nat.{ℕ, ◌*◌, ◌/◌, ◌%◌, ◌^◌, ◌≤◌, ◌<◌}
use mathlib.Core.Path.{◌≡◌}
use native.Mathlib.Nat.{mod-lt, div-le_self}
use native.Mathlib.Omega.{arith}
use Rattle.hypot.proofs.Limbs.{power_pos, power_divides, sum_is, part_le, doubled}
use Rattle.hypot.proofs.squares.sum_of_squares.Goals as goal
use Rattle.hypot.proofs.squares.sum_of_squares.Goals.{After-power_of_four-z, After-square-q}

-- 4 ^ s, as it was computed
abbrev z : After-square-q → ℕ
z c = c.power_of_four-z.result

some : (c : After-power_of_four-z) → 0 < c.power_of_four-z.result
some c = power_pos c.args.s c.power_of_four-z.result c.requires.s_bound c.power_of_four-z.ensures

whole : (c : After-power_of_four-z) → c.power_of_four-z.result * (2 ^ 54 / c.power_of_four-z.result) ≡ 2 ^ 54
whole c = power_divides c.args.s c.power_of_four-z.result c.requires.s_bound c.power_of_four-z.ensures

-- how large the parts of b's square are
sizes : (c : After-square-q)
    → let p = c.square-p.result in
    let q = c.square-q.result in
    (q.high % z c * (2 ^ 54 / z c) ≤ 2 ^ 54) × (q.high / z c ≤ q.high) × (q.low / z c ≤ q.low)
sizes c =
    let p = c.square-p.result in
    let q = c.square-q.result in (
      part_le p.high p.low q.high q.low (z c) (2 ^ 54 / z c) (whole c.before.before) (some c.before.before),
      div-le_self q.high (z c),
      div-le_self q.low (z c),
    )

pub returns : goal.returns
returns c =
    let at = goal.at.returns c in
    let s = at.After-square-q in
    let power = at.After-power_of_four-z in
    let p = c.square-p.result in
    let q = c.square-q.result in
    let is = sum_is p.high p.low q.high q.low (z s) (2 ^ 54 / z s) (whole power) in
    let sum =
    doubled c.args.a c.args.b (z s) p.high p.low q.high q.low _ c.square-p.ensures.low_value c.square-q.ensures.low_value is in
    record {
      parts = rw (← c.power_of_four-z.ensures) sum;
      lost_below = rw (← c.power_of_four-z.ensures) (mod-lt q.low (some power));
      low_below = omega arith;
      high_below = omega (arith, sizes s);
    }
