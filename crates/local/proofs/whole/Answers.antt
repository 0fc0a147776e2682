-- `local::whole` meets its contract: a number of at most 2 ^ 40 is an i64 when its fraction is dropped, and that i64 is an f64.
use Rattle.std.proofs.Common.{◌≡◌, sym, ap, ◌∙◌, subst, to_z-of_z, w64, to_z, of_z}
use lib.Ieee.{binary64, of_int, to_signed}
use lib.Ieee.Casts.{to_signed_in}
use Rattle.local.specs.Local.{whole_of}
use Rattle.local.specs.Steps.{Whole}
use Rattle.local.proofs.Exact.{whole_is, in_i64}
use Rattle.local.proofs.whole.Goals as goal

pub truncating_f64_to_i64-requires : goal.truncating_f64_to_i64-requires
truncating_f64_to_i64-requires c =
    let fits = in_i64 c.args.x c.requires in
    record { lower_bound = fits.0; upper_bound = fits.1 }

pub returns : goal.returns
unfolding whole_of
returns c =
    let passed : to_z w64 (of_z w64 (to_signed 63 c.args.x)) ≡ to_signed 63 c.args.x =
    to_z-of_z {w = w64} (record { sfits = to_signed_in 63 c.args.x }) in
    let is =
    c.nearest_i64_to_f64.ensures ∙ ap (λ z. of_int binary64 (to_z w64 (of_z w64 z))) c.truncating_f64_to_i64.ensures
    ∙ ap (of_int binary64) passed in
    record { value = is; is = subst Whole (sym is) (whole_is c.args.x c.requires) }
