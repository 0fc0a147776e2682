-- `local::move_refused` meets its contract: the vertices are asked in order about the one origin, and the first that stays behind decides.
use Rattle.std.proofs.Common.{◌≡◌, ◌<◌, [], length, get_or, sym, refl, ◌∙◌, arith}
use Rattle.places.proofs.Loops.{ask_start, ask_yes, ask_no, ask_end}
use Rattle.places.proofs.Stored.{length_threes}
use Rattle.flat.specs.Points.{vertices_of}
use Rattle.local.specs.Local.{origin_of, stays_behind, move_refused}
use Rattle.local.proofs.Moving.{vertex_in_range}
use Rattle.local.proofs.move_refused.Goals as goal
use Rattle.local.proofs.move_refused.Goals.{After-stays_behind}

pub loop-i-init : goal.loop-i-init
unfolding move_refused
loop-i-init c = ask_start refl

pub vertex-requires : goal.vertex-requires
vertex-requires c =
    omega (arith, length_threes c.args.coords.now)

pub stays_behind-requires : goal.stays_behind-requires
stays_behind-requires c =
    let near = vertex_in_range c.args.coords.now c.requires.coords_value c.loop-i.i (omega (arith, length_threes c.args.coords.now)) in
    record { in_range = rw c.vertex.ensures near; whole_point = c.origin-origin.ensures.is }

-- what was asked of the vertex at the loop's place, about the list's own origin
asked : (c : After-stays_behind)
    → let vs = vertices_of c.args.coords.now in c.stays_behind.result ≡ stays_behind (origin_of vs) (get_or vs c.loop-i.i [])
asked c =
    rw (← c.origin-origin.ensures.value, ← c.vertex.ensures) c.stays_behind.ensures

pub returns-then-stays_behind : goal.returns-then-stays_behind
returns-then-stays_behind c =
    let below : c.loop-i.i < length (vertices_of c.args.coords.now) = omega (arith, length_threes c.args.coords.now) in
    ask_yes [] c.loop-i.invariant below (sym (asked (goal.at.returns-then-stays_behind c).After-stays_behind) ∙ c.if-stays_behind.true)

pub loop-i-preserved : goal.loop-i-preserved
loop-i-preserved c =
    let below : c.loop-i.i < length (vertices_of c.args.coords.now) = omega (arith, length_threes c.args.coords.now) in
    ask_no [] c.loop-i.invariant below (sym (asked (goal.at.loop-i-preserved c).After-stays_behind) ∙ c.if-stays_behind.false)

pub returns : goal.returns
returns c =
    ask_end c.loop-i.invariant (omega (arith, length_threes c.args.coords.now))
