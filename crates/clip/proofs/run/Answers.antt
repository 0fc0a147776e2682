-- `clip::run` meets its contract: the planes that are left, run from the outline that stands, make the whole outcome; each answer of
-- `advance` keeps that or ends the run, by the laws of the alternation.
use Rattle.planes.specs.Steps.{no_plane}
use Rattle.planes.proofs.Stored.{length_fours}
use Rattle.work_lists.proofs.Alternation.{alternate_gone, alternate_full, alternate_kept, alternate_made}
use Rattle.work_lists.proofs.Alternation.{alternate_none, alternate_end}
use Rattle.work_lists.proofs.PassedUp.{refused_alike}
use borrow.Author.Rules.{rules}
use Rattle.clip.proofs.run.Goals as goal
use Rattle.clip.proofs.run.Goals.{in-Kept, in-Made}

pub plane_at-plane-requires : goal.plane_at-plane-requires
plane_at-plane-requires c = search (rules, length_fours)

pub loop-i-preserved : goal.loop-i-preserved
loop-i-preserved c =
    elim c.match-branch-2.branch [
      | in-Kept w ↦ rw (w.n-is, w.in_second-is)
          (alternate_kept c.loop-i.invariant no_plane (search (rules, length_fours)) c.plane_at-plane.ensures c.advance.auto.first
          c.advance.auto.second (rw w.in-Kept.is at c.in_ok-advance.ensures))
      | in-Made w ↦ rw (w.n-is, w.in_second-is)
          (alternate_made c.loop-i.invariant no_plane (search (rules, length_fours)) c.plane_at-plane.ensures c.advance.auto.first
          c.advance.auto.second (rw w.in-Made.is at c.in_ok-advance.ensures))
    ]

pub returns-in-Gone : goal.returns-in-Gone
returns-in-Gone c =
    alternate_gone c.loop-i.invariant no_plane (search (rules, length_fours)) c.plane_at-plane.ensures
    (rw c.in-Gone.is at c.in_ok-advance.ensures)

pub returns-in_err-advance : goal.returns-in_err-advance
returns-in_err-advance c =
    rw (refused_alike c.from_residual.ensures.0)
    (alternate_full c.loop-i.invariant no_plane (search (rules, length_fours)) c.plane_at-plane.ensures c.in_err-advance.ensures)

pub returns-then-n-eq0 : goal.returns-then-n-eq0
returns-then-n-eq0 c =
    alternate_none c.loop-i.invariant (search (rules, length_fours)) c.if-n-eq0.true

pub returns : goal.returns
returns c =
    alternate_end c.loop-i.invariant (search (rules, length_fours)) c.if-n-eq0.false
