-- `planar::run` meets its contract: the edges that are left, run from the outline that stands, make the whole outcome; each answer of
-- `advance_from` keeps that or ends the run, by the laws of the alternation.
use mathlib.Core.Path.{◌≡◌, sym}
use mathlib.Core.List.{[]}
use lib.ListN.{get_or}
use Rattle.places.specs.Stored.{in_pairs}
use Rattle.places.specs.Ring.{sides}
use Rattle.places.proofs.Stored.{length_pairs}
use Rattle.places.proofs.Rings.{length_sides}
use Rattle.work_lists.proofs.Alternation.{alternate_gone, alternate_full, alternate_kept, alternate_made}
use Rattle.work_lists.proofs.Alternation.{alternate_none, alternate_end}
use Rattle.planar.proofs.Edges.{edge_at}
use Rattle.work_lists.proofs.PassedUp.{refused_alike}
use borrow.Author.Rules.{rules}
use Rattle.planar.proofs.run.Goals as goal
use Rattle.planar.proofs.run.Goals.{After-pair-b, in-Kept, in-Made}

-- the two points that were read are the ends of the edge that the loop has come to
edge : (c : After-pair-b) →
    (c.pair-a.result, c.pair-b.result) ≡ get_or (sides (in_pairs c.args.clip.now)) c.loop-i.i ([], [])
edge c =
    edge_at (in_pairs c.args.clip.now) (sym (length_pairs c.args.clip.now)) (search (rules, length_pairs)) c.pair-a.ensures
    c.next.ensures.0 c.pair-b.ensures

pub loop-i-preserved : goal.loop-i-preserved
loop-i-preserved c =
    let here = edge (goal.at.loop-i-preserved c).After-pair-b in
    elim c.match-branch-2.branch [
      | in-Kept w ↦ rw (w.n-is, w.in_second-is)
          (alternate_kept c.loop-i.invariant ([], []) (rw length_sides (search (rules, length_pairs))) here
          c.advance_from.auto.first c.advance_from.auto.second (rw w.in-Kept.is at c.in_ok-advance_from.ensures))
      | in-Made w ↦ rw (w.n-is, w.in_second-is)
          (alternate_made c.loop-i.invariant ([], []) (rw length_sides (search (rules, length_pairs))) here
          c.advance_from.auto.first c.advance_from.auto.second (rw w.in-Made.is at c.in_ok-advance_from.ensures))
    ]

pub returns-in-Gone : goal.returns-in-Gone
returns-in-Gone c =
    alternate_gone c.loop-i.invariant ([], []) (rw length_sides (search (rules, length_pairs)))
    (edge (goal.at.returns-in-Gone c).After-pair-b)
    (rw c.in-Gone.is at c.in_ok-advance_from.ensures)

pub returns-in_err-advance_from : goal.returns-in_err-advance_from
returns-in_err-advance_from c =
    rw (refused_alike c.from_residual.ensures.0)
    (alternate_full c.loop-i.invariant ([], []) (rw length_sides (search (rules, length_pairs)))
    (edge (goal.at.returns-in_err-advance_from c).After-pair-b)
    c.in_err-advance_from.ensures)

pub returns-then-n-eq0 : goal.returns-then-n-eq0
returns-then-n-eq0 c =
    alternate_none c.loop-i.invariant (rw length_sides (search (rules, length_pairs))) c.if-n-eq0.true

pub returns : goal.returns
returns c =
    alternate_end c.loop-i.invariant (rw length_sides (search (rules, length_pairs))) c.if-n-eq0.false

pub pair-a-requires : goal.pair-a-requires
pair-a-requires c = search (rules, length_pairs)

pub pair-b-requires : goal.pair-b-requires
pair-b-requires c = search (rules, length_pairs)
