-- `closedness::closed_within` meets its contract: the chains hold the sides of all faces, and even chains are closed faces.
use native.Mathlib.Omega.{arith}
use Rattle.places.proofs.Stamps.{zeros}
use Rattle.closedness.proofs.Linked.{lists_start}
use Rattle.closedness.proofs.Evened.{even_closed}
use Rattle.closedness.proofs.closed_within.Goals as goal

pub invariant_of-chains : goal.invariant_of-chains
invariant_of-chains g c =
    record {
      few = omega arith;
      first = (zeros 256).zero;
      back = λ p. omega (arith, (zeros g.row.N).zero p);
      codes = λ p. omega (arith, (zeros g.row.N).zero p);
    }

pub returns : goal.returns
returns g c =
    even_closed _ _ c.requires.each.0 c.requires.each.1 c.is_even.result
    (c.is_even.ensures _ (c.link_faces.ensures _ lists_start))
