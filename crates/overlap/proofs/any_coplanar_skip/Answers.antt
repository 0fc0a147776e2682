-- `overlap::any_coplanar_skip` meets its contract: while no plane before place i says yes, the answer for all planes is that for the planes
-- from i on.
use Rattle.places.proofs.Loops.{ask_yes, ask_no, ask_end}
use Rattle.planes.specs.Steps.{no_plane}
use Rattle.planes.proofs.Stored.{length_fours}
use borrow.Author.Rules.{rules}
use Rattle.overlap.proofs.any_coplanar_skip.Goals as goal

pub returns-then-coplanar_skip : goal.returns-then-coplanar_skip
returns-then-coplanar_skip c =
    ask_yes no_plane c.loop-i.invariant (search (rules, length_fours)) (cc)

pub loop-i-preserved : goal.loop-i-preserved
loop-i-preserved c =
    ask_no no_plane c.loop-i.invariant (search (rules, length_fours)) (cc)

pub returns : goal.returns
returns c = ask_end c.loop-i.invariant (search (rules, length_fours))

pub plane_at-requires : goal.plane_at-requires
plane_at-requires c = search (rules, length_fours)
