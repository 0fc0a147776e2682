-- `cut_check::any_same` meets its contract: whether two places are the same is asked of each triangle.
use Rattle.std.proofs.Common.{rules}
use Rattle.cut_check.proofs.Same.{any_chunks}
use Rattle.cut_check.proofs.any_same.Goals as goal

pub returns : goal.returns
returns c =
    let run = c.any.ensures.runs in
    any_chunks run.0 c.args.corners.now (search rules) (λ a r f k. search rules) (λ x k. search rules) (λ x k. search rules) run.2
