-- `hypot::hypot` meets its contract: a NaN and an infinity by proofs/Unsigned.antt, all others by their patterns without the sign's bit, in
-- either order.
use mathlib.Core.Path.{sym, ap, ◌∙◌}
use native.Mathlib.Omega.{arith}
use lib.Dec.{T}
use lib.Ieee.{Float, nan, binary64, fits}
use Rattle.floats.proofs.Nans.{holds, is_nan_lem, no_nan}
use Rattle.hypot.specs.Hypot.{hypot_of}
use Rattle.hypot.proofs.Signless.{either_order}
use Rattle.floats.proofs.Special.{bare_at_most_infinity}
use Rattle.hypot.proofs.Unsigned.{longer_infinite, longer_first}
use Rattle.hypot.proofs.hypot.Goals as goal
use Rattle.hypot.proofs.hypot.Goals.{Start}

x_fits : (c : Start) → T (fits binary64 c.args.x)
x_fits c = holds c.well_formed.0.1

y_fits : (c : Start) → T (fits binary64 c.args.y)
y_fits c = holds c.well_formed.1.0.1

pub returns-then-is_nan : goal.returns-then-is_nan
returns-then-is_nan c =
    c.beside_nan.ensures ∙ either_order binary64 c.args.y nan
    ∙ ap (λ (v : Float). hypot_of binary64 v c.args.y) (sym (is_nan_lem c.args.x (cc)))

pub returns-then-is_nan-2 : goal.returns-then-is_nan-2
returns-then-is_nan-2 c =
    c.beside_nan-then-is_nan-2.ensures ∙ ap (hypot_of binary64 c.args.x) (sym (is_nan_lem c.args.y (cc)))

pub returns-then-longer-eq9218868437227405312 : goal.returns-then-longer-eq9218868437227405312
returns-then-longer-eq9218868437227405312 c =
    let at = (goal.at.returns-then-longer-eq9218868437227405312 c).Start in
    longer_infinite c.args.x c.args.y (x_fits at) (y_fits at) (cc)

pub length_pattern-requires : goal.length_pattern-requires
length_pattern-requires c =
    let at = (goal.at.length_pattern-requires c).Start in
    let x = bare_at_most_infinity c.args.x (x_fits at) (no_nan c.args.x (cc)) in
    let y = bare_at_most_infinity c.args.y (y_fits at) (no_nan c.args.y (cc)) in
    record { q_le_p = omega arith; p_bound = omega arith }

pub returns : goal.returns
returns c =
    let at = (goal.at.returns c).Start in
    longer_first c.args.x c.args.y (x_fits at) (y_fits at) c.length_pattern.result
    (rw (← c.max-longer.ensures, ← c.min.ensures) c.length_pattern.ensures)
