-- Magnitude, min and max of floats, as SCOPE 5 has them.
use Rattle.std.specs.Prelude.{false, cond, Float}
use Rattle.std.specs.Float.{nan, inf, fin}
use Rattle.std.specs.Float.Ieee.{is_nan, lt}

-- x with its sign cleared
unfoldable pub magnitude_of : Float → Float
magnitude_of nan = nan
magnitude_of (inf s) = inf false
magnitude_of (fin s m e) = fin false m e

-- min: the other operand where one is a NaN; else b where it is below a; else, on a tie too, the earlier one, a
unfoldable pub least_of : Float → Float → Float
unfolding is_nan
least_of a b = cond (is_nan a) b (cond (is_nan b) a (cond (lt b a) b a))

-- max: the other operand where one is a NaN; else b where it is above a; else, on a tie too, the earlier one, a
unfoldable pub largest_of : Float → Float → Float
unfolding is_nan
largest_of a b = cond (is_nan a) b (cond (is_nan b) a (cond (lt a b) b a))
