-- `floats::root` meets its contract: the special values by proofs/Special.antt, the others by `root_pattern`.
use mathlib.Core.Path.{ap, ◌∙◌}
use Prim.Native.Nat.{◌^◌, ◌<◌, ◌≤◌}
use native.Mathlib.Omega.{arith}
use lib.Dec.{T}
use lib.Ieee.{binary64, fits, to_bits}
use lib.Ieee.Bits.{of_bits-to_bits, to_bits-lt}
use Rattle.floats.specs.Root.{root_of}
use Rattle.floats.proofs.Nans.{holds, no_nan}
use Rattle.floats.proofs.Special.{root_of_nan, plus_zero, minus_zero_lem, plus_infinity, own_root, root_below, at_most_infinity}
use Rattle.floats.proofs.root.Goals as goal
use Rattle.floats.proofs.root.Goals.{Start, then-b-eq0-via-then-b-eq0, then-b-eq0-via-else-b-eq0+then-b}

held : (c : Start) → T (fits binary64 c.args.x)
held c = holds c.well_formed.0.1

pub returns-then-is_nan : goal.returns-then-is_nan
returns-then-is_nan c = root_of_nan c.args.x (cc)

pub float_to_bits-b : goal.float_to_bits-b
float_to_bits-b c = no_nan c.args.x (cc)

pub returns-then-b-eq0 : goal.returns-then-b-eq0
returns-then-b-eq0 c =
    let h = held (goal.at.returns-then-b-eq0 c).Start in
    elim c.then-b-eq0.branch [
      | then-b-eq0-via-then-b-eq0 w ↦ own_root c.args.x 0 h w.if-b-eq0.true plus_zero
      | then-b-eq0-via-else-b-eq0+then-b w ↦ own_root c.args.x 0x8000_0000_0000_0000 h w.if-b.true minus_zero_lem
    ]

pub returns-then-b-gt9223372036854775808 : goal.returns-then-b-gt9223372036854775808
returns-then-b-gt9223372036854775808 c =
    root_below c.args.x (held (goal.at.returns-then-b-gt9223372036854775808 c).Start) c.if-b-gt9223372036854775808.true
    (to_bits-lt binary64 c.args.x (held (goal.at.returns-then-b-gt9223372036854775808 c).Start))

pub returns-then-b-eq9218868437227405312 : goal.returns-then-b-eq9218868437227405312
returns-then-b-eq9218868437227405312 c =
    own_root c.args.x 0x7ff0_0000_0000_0000
    (held (goal.at.returns-then-b-eq9218868437227405312 c).Start) c.if-b-eq9218868437227405312.true plus_infinity

pub root_pattern-requires : goal.root_pattern-requires
root_pattern-requires c =
    let b = to_bits binary64 c.args.x in
    let below-sign : b < 2 ^ 63 = omega (arith, c.if-b-gt9223372036854775808.false, c.if-b.false) in
    let finite : b ≤ 0x7ff0_0000_0000_0000 = at_most_infinity c.args.x (held (goal.at.root_pattern-requires c).Start)
    (no_nan c.args.x (cc)) below-sign in
    omega (arith, c.if-b-eq9218868437227405312.false, c.if-b-eq0.false)

pub returns : goal.returns
returns c =
    c.root_pattern.ensures.root ∙ ap (root_of binary64) (of_bits-to_bits binary64 c.args.x (held (goal.at.returns c).Start))
