-- `facing::choose_over` meets its contract: with both conditions all faces are reached, and a clash then says that no choice closes.
use mathlib.Core.Path.{◌≡◌}
use mathlib.Core.Bool.{false}
use native.Mathlib.Omega.{arith}
use Rattle.exact.specs.Facing.{unfit}
use Rattle.cell.specs.Faces.{faces_of}
use Rattle.facing.specs.Steps.{Ground}
use Rattle.facing.proofs.Chosen.{failed, passed, chosen_unfit, grounded, chosen_none, chosen_made}
use Rattle.facing.proofs.choose_over.Goals as goal
use Rattle.facing.proofs.choose_over.Goals.{Else-not-pair_up}

-- both conditions hold
fit : (c : Else-not-pair_up) → unfit (faces_of c.args.corners.now c.args.ends.now) ≡ false
fit c = passed _ _ c.pair_up.ensures.value c.if-not-pair_up.false

ground : (c : Else-not-pair_up) → Ground c.args.number.now c.args.k c.pair_up.new.table c.args.corners.now c.args.ends.now
ground c =
    let cell = c.requires.numbered in
    grounded cell.0 (omega arith) cell.1 (fit c) (c.pair_up.ensures.mates c.if-not-pair_up.false)

pub returns-then-not-pair_up : goal.returns-then-not-pair_up
returns-then-not-pair_up c =
    chosen_unfit (faces_of c.args.corners.now c.args.ends.now) _ (failed _ _ c.pair_up.ensures.value c.if-not-pair_up.true)

pub invariant_of-cell : goal.invariant_of-cell
invariant_of-cell c = record { ground = ground (goal.at.invariant_of-cell c).Else-not-pair_up }

pub returns-then-clash_faces : goal.returns-then-clash_faces
returns-then-clash_faces c =
    let place = (goal.at.returns-then-clash_faces c).Else-not-pair_up in
    chosen_none (ground place) c.reach.ensures (fit place) c.clash_faces.ensures c.if-clash_faces.true

pub returns : goal.returns
returns c =
    let place = (goal.at.returns c).Else-not-pair_up in
    chosen_made (ground place) c.reach.ensures (fit place) c.clash_faces.ensures c.if-clash_faces.false
