use Rattle.places.specs.Loops.{count_of}
use Rattle.places.proofs.Loops.{Counting}
use Rattle.clip.specs.Clip.{beyond}
use Rattle.clip.proofs.count_out.Given as goal

abbrev pub invariant-loop-p : goal.invariant-loop-p
invariant-loop-p l =
    Counting (beyond l.plane l.eps) l.points (count_of (beyond l.plane l.eps) l.points) l.p-index l.out
