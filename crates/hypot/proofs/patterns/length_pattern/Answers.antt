-- `hypot::patterns::length_pattern` meets its contract: where q counts, the leading digits of twice the length are rounded off, and where
-- it does not, p is the length (proofs/Length.antt).
use mathlib.Core.Path.{◌≡◌, sym, ap, ◌∙◌}
use Prim.Native.Nat.{ℕ, ◌+◌, ◌-◌, ◌*◌, ◌≤◌, ◌<◌}
use native.Mathlib.Omega.{arith}
use mathlib.Core.Bool.{false}
use lib.Ieee.{binary64, units}
use Rattle.floats.specs.Schoolbook.{rounded_off}
use Rattle.hypot.specs.Steps.{marked}
use Rattle.hypot.proofs.Length.{exponents, some_digits, some_root, hypot_is, rounded_fits, alone, beside_zero}
use Rattle.hypot.proofs.Length.{small_far}
use Rattle.hypot.proofs.patterns.length_pattern.Goals as goal
use Rattle.hypot.proofs.patterns.length_pattern.Goals.{After-in_units-y, After-leading-d, After-round_off-root}

ordered : (u : After-in_units-y) → u.in_units-y.result.e ≤ u.in_units-x.result.e
ordered u =
    let x = u.in_units-x in
    let y = u.in_units-y in
    exponents u.args.p u.args.q x.result.m y.result.m x.result.e y.result.e x.ensures y.ensures u.requires.q_le_p

pub returns-then-q-eq0 : goal.returns-then-q-eq0
returns-then-q-eq0 c = beside_zero c.args.p c.args.q c.if-q-eq0.true c.requires.p_bound

pub returns-then-s-ge27 : goal.returns-then-s-ge27
returns-then-s-ge27 c =
    let x = c.in_units-x in
    let y = c.in_units-y in
    let full = x.ensures.full (omega (arith, c.if-s-ge27.true)) in
    let small = small_far x.result.m y.result.m (x.result.e - y.result.e) full y.ensures.below c.if-s-ge27.true in
    alone c.args.p c.args.q x.result.m y.result.m x.result.e y.result.e x.ensures y.ensures
    (ordered (goal.at.returns-then-s-ge27 c).After-in_units-y) c.requires.p_bound small (λ _. omega arith)

-- the root is above 0, since p is
some : (c : After-leading-d) → 0 < c.leading-d.result.root
some c =
    let above : 0 < c.args.p = omega (arith, c.requires.q_le_p, c.if-q-eq0.false) in
    let x = c.in_units-x.result in
    let y = c.in_units-y.result in
    let d = c.leading-d.result in
    let digits = some_digits c.args.p x.m x.e c.in_units-x.ensures above in
    some_root x.m y.m (x.e - y.e) d.root d.rest d.lost d.moved digits c.leading-d.ensures

-- the digits of the rounded length
digits : (c : After-round_off-root)
    → let d = c.leading-d.result in
    c.round_off-root.result ≡ rounded_off (d.root * d.root + marked d.rest d.lost)
digits c =
    let root = c.leading-d.result.root in
    c.round_off-root.ensures ∙ ap (λ (rest : ℕ). rounded_off (root * root + rest)) c.with_lost.ensures

pub pattern_of-requires : goal.pattern_of-requires
pattern_of-requires c =
    let at = goal.at.pattern_of-requires c in
    let x = c.in_units-x in
    let y = c.in_units-y in
    let d = c.leading-d.result in
    let fits =
    rounded_fits c.args.p c.args.q x.result.m y.result.m x.result.e y.result.e d.root d.rest d.lost d.moved
    x.ensures y.ensures (ordered at.After-in_units-y) c.leading-d.ensures (λ _. some at.After-leading-d) c.round_off-root.result
    (digits at.After-round_off-root) in
    record { q_bound = fits.0; k_bound = fits.1.0; bound = fits.1.1 }

pub returns : goal.returns
returns c =
    let at = goal.at.returns c in
    let x = c.in_units-x in
    let y = c.in_units-y in
    let d = c.leading-d.result in
    let is =
    hypot_is c.args.p c.args.q x.result.m y.result.m x.result.e y.result.e d.root d.rest d.lost d.moved
    x.ensures y.ensures (ordered at.After-in_units-y) c.leading-d.ensures (λ _. some at.After-leading-d) in
    let rounds = ap (λ (r : ℕ). units binary64 false r (x.result.e + d.moved)) (digits at.After-round_off-root) in
    record {
      hypot = c.pattern_of.ensures.result_value ∙ rounds ∙ sym is;
      no_nan = c.pattern_of.ensures.result_value_2;
    }
