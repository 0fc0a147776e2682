-- Taking +0 off a number of a format leaves it as it is, −0 too, since the number is rounded to itself.
use Rattle.std.proofs.Common.{◌≡◌, ◌+◌, ◌-◌, ◌*◌, ◌<◌, Bool, true, false, cond, T, ltb, pos, mul-pos, arith, ltb→lt}
use lib.Ieee.{Float, nan, inf, fin, Format, up, down, round, neg, sum, add, sub, fits}
use lib.Ieee.Fits.{down_pos}
use lib.Ieee.Scale.{finite}
use Rattle.floats.proofs.Itself.{rounds_to_itself, less_nothing}

module _ (f : Format) where
  pub less_zero_is : (x : Float) → T (fits f x) → T (finite x) → sub f x (fin false 0 (pos 0)) ≡ x
  unfolding sub add neg sum
  less_zero_is nan t g = absurd g
  less_zero_is (inf s) t g = absurd g
  less_zero_is (fin true m e) t g =
      rounds_to_itself f true m e (m * up e * 1 + 0 * 1 * down e) (down e * 1) t (mul-pos (down_pos e) (omega arith)) (omega arith)
  less_zero_is (fin false m e) t g = go (ltb (m * up e * 1) (0 * 1 * down e)) (ltb→lt (m * up e * 1) (0 * 1 * down e))
    where
      go : (less : Bool) → (T less → m * up e * 1 < 0 * 1 * down e)
          → cond less (round f true (0 * 1 * down e - m * up e * 1) (down e * 1))
          (round f false (m * up e * 1 - 0 * 1 * down e) (down e * 1))
          ≡ fin false m e
      go true h = absurd (let l = h tt in omega arith)
      go false h =
          rounds_to_itself f false m e (m * up e * 1 - 0 * 1 * down e) (down e * 1) t (mul-pos (down_pos e) (omega arith))
          (less_nothing (m * up e) (down e))
