-- `cut::cut_at` meets its contract: the triangle is read before the corner at k goes from either list, so it is the one at place k of the
-- ring as it was.
use mathlib.Core.Path.{◌∙◌}
use Rattle.places.specs.Ring.{ear_of}
use Rattle.cut.proofs.Going.{ring_long}
use Rattle.cut.proofs.Storing.{moved}
use Rattle.cut.proofs.cut_at.Goals as goal

pub returns-clause-places : goal.returns-clause-places
returns-clause-places c = c.copy_within.ensures.after ∙ moved c.args.k c.args.ks.now c.requires.k_in_bounds.0

pub returns-clause-points : goal.returns-clause-points
returns-clause-points c = c.copy_within-2.ensures.after ∙ moved c.args.k c.args.ps.now c.requires.k_in_bounds.1

pub returns-clause-written : goal.returns-clause-written
unfolding ear_of
returns-clause-written c = cc (ring_long c.args.face.now c.args.ks.now)
