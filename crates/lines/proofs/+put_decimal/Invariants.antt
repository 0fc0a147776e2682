-- `lines::put_decimal` meets its contract: the digits of n are those of its tenth and then the last one, and a number of 64 bits has
-- at most 20.
use Rattle.lines.proofs.+put_decimal.Given as goal

-- the number falls from call to call
abbrev pub decreases-put_decimal : goal.decreases-put_decimal
decreases-put_decimal l = l.n
