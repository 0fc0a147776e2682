use lib.ListN.{get_or}
use mathlib.Core.List.{[]}
use Rattle.flat.specs.Points.{vertices_of}
use Rattle.overlap.proofs.Fans.{Fanning, fan_of}
use Rattle.overlap.proofs.contribution.Given as goal

abbrev pub invariant-loop-i : goal.invariant-loop-i
invariant-loop-i l =
    Fanning l.reference (get_or (vertices_of l.s) 0 []) (vertices_of l.s) (fan_of l.reference (vertices_of l.s)) l.i l.a l.v
