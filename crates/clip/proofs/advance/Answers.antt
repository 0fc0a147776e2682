-- `clip::advance` meets its contract: its four returns are the four cases of `plane_change`, told apart by how many points of the outline
-- were counted beyond the plane; only the last, the cut, writes to a list.
use mathlib.Core.Bool.{cond}
use Rattle.clip.proofs.Cuts.{stretch_fits, shown_is, none_few, none_out, all_out, some_out}
use mathlib.Core.Path.{◌≡◌}
use native.Mathlib.Omega.{arith}
use lib.ListN.{take}
use Rattle.places.specs.Loops.{count_of}
use Rattle.flat.specs.Points.{vertices_of}
use Rattle.clip.specs.Clip.{beyond}
use Rattle.places.proofs.Stored.{length_threes}
use borrow.Author.Rules.{rules}
use Rattle.clip.proofs.advance.Goals as goal
use Rattle.clip.proofs.advance.Goals.{After-count_out-out}

pub returns-then-n-lt3 : goal.returns-then-n-lt3
returns-then-n-lt3 c =
    none_few c.args.eps (search rules) (search rules) c.if-n-lt3.true

pub overflow_mul-n : goal.overflow_mul-n
overflow_mul-n c =
    omega (arith, length_threes c.args.first.now)

pub shown-requires : goal.shown-requires
shown-requires c =
    stretch_fits c.args.in_second c.args.n c.args.first.now c.args.second.now (search rules) (search rules)

-- what is shown of the list is the outline, so the points were counted in it
counted : (c : After-count_out-out) → c.count_out-out.result ≡ count_of (beyond c.args.plane c.args.eps)
    (take c.args.n (cond c.args.in_second (vertices_of c.args.second.now) (vertices_of c.args.first.now)))
counted c =
    rw (← shown_is c.args.in_second c.args.n c.args.first.now c.args.second.now, ← c.shown.ensures)
    c.count_out-out.ensures

pub returns-then-out-eq0 : goal.returns-then-out-eq0
returns-then-out-eq0 c =
    none_out c.args.eps (search rules) (search rules) c.if-n-lt3.false
    (counted (goal.at.returns-then-out-eq0 c).After-count_out-out) c.if-out-eq0.true

pub returns-then-out-n : goal.returns-then-out-n
returns-then-out-n c =
    all_out c.args.eps (search rules) (search rules) c.if-n-lt3.false
    (counted (goal.at.returns-then-out-n c).After-count_out-out) c.if-out-eq0.false c.if-out-n.true

pub returns : goal.returns
returns c =
    some_out c.args.eps (search rules) (search rules) c.if-n-lt3.false
    (counted (goal.at.returns c).After-count_out-out) c.if-out-eq0.false c.if-out-n.false c.cut_from.ensures
