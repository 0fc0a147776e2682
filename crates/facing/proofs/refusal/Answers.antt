-- `facing::refusal` meets its contract: the codes that it lends are zeros, one for each face, and what `choose` says of them is handed on.
use lib.ListN.{length}
use mathlib.Core.Path.{sym}
use Rattle.places.proofs.Lists.{first_of}
use Rattle.places.proofs.Stamps.{blank_part}
use Rattle.facing.proofs.refusal.Goals as goal

pub choose-requires-clause-blank : goal.choose-requires-clause-blank
choose-requires-clause-blank c =
    (blank_part (length c.args.ends.now) 256, sym (first_of _ 256 0 c.requires.corners_len_bound.2))
