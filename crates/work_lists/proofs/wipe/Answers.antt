-- `work_lists::wipe` meets its contract: +0 fills the stretch from `from` on, and the numbers before it stay.
use Rattle.work_lists.proofs.Wiping.{wiped_is}
use Rattle.work_lists.proofs.wipe.Goals as goal

pub returns : goal.returns
returns c = wiped_is c.args.from c.args.s.now c.fill.new.self c.requires (c.fill.ensures.after (λ y e. e))
