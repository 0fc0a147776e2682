-- `inside::ray_crosses_face` meets its contract: its returns are the cases of the definition in their order; a face of no corners is missed
-- since its normal is three zeros.
use Rattle.inside.specs.Ray.{ray_crosses}
use Rattle.inside.proofs.Outlines.{none_crossed}
use borrow.Author.Rules.{rules}
use Rattle.inside.proofs.ray_crosses_face.Goals as goal

pub returns-then-face-eq0 : goal.returns-then-face-eq0
returns-then-face-eq0 c = none_crossed _ _ _ (search rules)

pub returns-then-along : goal.returns-then-along
unfolding ray_crosses
returns-then-along c =
    rw (← c.face_normal-n.ensures, ← c.along.ensures, c.if-along.true)

pub returns-then-t : goal.returns-then-t
unfolding ray_crosses
returns-then-t c =
    rw (
      ← c.face_normal-n.ensures,
      ← c.along.ensures,
      c.if-along.false,
      ← c.vertex_at-v.ensures,
      ← c.distance_ahead-t.ensures,
      c.if-t.true,
    )

pub returns : goal.returns
unfolding ray_crosses
returns c =
    rw (
      ← c.face_normal-n.ensures,
      ← c.along.ensures,
      c.if-along.false,
      ← c.vertex_at-v.ensures,
      ← c.distance_ahead-t.ensures,
      c.if-t.false,
      ← c.dominant_axis-axis.ensures,
      ← c.project2-q.ensures,
    ) c.in_outline.ensures
