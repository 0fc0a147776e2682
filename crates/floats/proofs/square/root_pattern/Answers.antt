-- `floats::square::root_pattern` meets its contract: the digits of the scaled number, and as many zeros behind them, give 54 digits of
-- the root, and with the last one rounded off they are those of the nearest f64 (proofs/Steps.antt).
use Prim.Native.Nat.{◌*◌, ◌^◌}
use native.Mathlib.Omega.{arith}
use Rattle.floats.specs.Schoolbook.{Extracted}
use Rattle.floats.proofs.Steps.{both, zeros_behind, rounded_sized, pattern_is}
use Rattle.floats.proofs.square.root_pattern.Goals as goal
use Rattle.floats.proofs.square.root_pattern.Goals.{After-extract-all}

-- all 54 digits, of the root of a * 4 ^ 27
extracted : (c : After-extract-all)
    → Extracted (c.scale-s.result.a * 2 ^ 54) c.extract-all.result.root c.extract-all.result.rest
extracted c =
    zeros_behind c.scale-s.result.a c.extract-all.result.root c.extract-all.result.rest
    (both c.scale-s.result.a 0 c.extract-first.result.root c.extract-first.result.rest c.extract-all.result.root
    c.extract-all.result.rest c.extract-first.ensures c.extract-all.ensures)

pub overflow_add-result : goal.overflow_add-result
overflow_add-result c =
    let digits = extracted (goal.at.overflow_add-result c).After-extract-all in
    omega (arith, rounded_sized c.scale-s.ensures digits c.round_off.result c.round_off.ensures)

pub returns : goal.returns
returns c =
    let digits = extracted (goal.at.returns c).After-extract-all in
    pattern_is c.scale-s.ensures digits c.round_off.result c.round_off.ensures
