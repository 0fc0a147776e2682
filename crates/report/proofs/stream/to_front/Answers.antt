-- `report::stream::to_front` meets its contract: what the library copies is the bytes from `from` on, and behind them the list is as it
-- was.
use mathlib.Core.Path.{ap, ◌∙◌}
use mathlib.Core.List.{◌++◌}
use Prim.Native.Nat.{ℕ, ◌-◌}
use native.Mathlib.Nat.{zero-add}
use lib.ListN.{take, drop}
use Rattle.report.proofs.stream.to_front.Goals as goal

pub returns : goal.returns
returns c =
    let b = c.args.b.now in
    let n = c.args.to - c.args.from in
    c.copy_within.ensures.after ∙ ap (λ (k : ℕ). take n (drop c.args.from b) ++ drop k b) (zero-add n)
