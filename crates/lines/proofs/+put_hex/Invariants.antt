-- `lines::put_hex` meets its contract: the last k digits of n are the last k - 1 of its sixteenth, and then one more.
use Rattle.lines.proofs.+put_hex.Given as goal

-- the count of digits falls from call to call
abbrev pub decreases-put_hex : goal.decreases-put_hex
decreases-put_hex l = l.k
