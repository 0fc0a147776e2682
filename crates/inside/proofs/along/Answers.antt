-- `inside::along` meets its contract: where the first part's magnitude is 0 the definition's comparison holds whatever the other parts are
-- (`parallel`), and else the code makes it.
use Rattle.inside.specs.Ray.{along_of}
use Rattle.inside.proofs.Parallel.{parallel}
use Rattle.inside.proofs.along.Goals as goal

pub returns-then-x : goal.returns-then-x
returns-then-x c =
    parallel c.args.n (rw (← c.magnitude-x.ensures) c.if-x.true)

pub returns : goal.returns
unfolding along_of
returns c =
    rw (
      ← c.magnitude-x.ensures,
      ← c.magnitude-y.ensures,
      ← c.magnitude-z.ensures,
      ← c.largest.ensures,
      ← c.largest-2.ensures,
    )
