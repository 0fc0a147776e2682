-- The order of the operands does not matter to `hypot_of`, nor do their signs, since the sum of two squares is the same in either order and
-- takes magnitudes only. What it is beside an infinity or a NaN is one of its cases each.
use mathlib.Core.Path.{refl, ap, ◌∙◌}
use Prim.Native.Nat.{ℕ, ◌+◌, ◌*◌}
use native.Mathlib.Nat.{add_comm, mul_comm}
use lib.Ieee.{nan, inf, fin, up, down}
use Rattle.floats.specs.Pick.{magnitude_of}
use Rattle.floats.specs.Root.{round_root}
use Rattle.hypot.specs.Hypot.{hypot_of}
use Rattle.hypot.specs.Nearest.{EitherOrder, NoSigns, BesideInfinity, BesideNan}

pub either_order : EitherOrder
unfolding hypot_of
either_order f nan nan = refl
either_order f nan (inf t) = refl
either_order f nan (fin t n d) = refl
either_order f (inf s) nan = refl
either_order f (inf s) (inf t) = refl
either_order f (inf s) (fin t n d) = refl
either_order f (fin s m e) nan = refl
either_order f (fin s m e) (inf t) = refl
either_order f (fin s m e) (fin t n d) =
    let a = m * up e * down d in
    let b = n * up d * down e in
    ap (λ (x : ℕ). round_root f x (down e * down d * (down e * down d))) (add_comm (a * a) (b * b))
    ∙ ap (λ (x : ℕ). round_root f (b * b + a * a) (x * x)) (mul_comm (down e) (down d))

pub no_signs : NoSigns
unfolding hypot_of magnitude_of
no_signs f nan nan = refl
no_signs f nan (inf t) = refl
no_signs f nan (fin t n d) = refl
no_signs f (inf s) y = refl
no_signs f (fin s m e) nan = refl
no_signs f (fin s m e) (inf t) = refl
no_signs f (fin s m e) (fin t n d) = refl

pub beside_infinity : BesideInfinity
unfolding hypot_of
beside_infinity f s x = (refl, either_order f x (inf s))

pub beside_nan : BesideNan
unfolding hypot_of
beside_nan f nan h = (refl, refl)
beside_nan f (inf s) h = absurd (h s refl)
beside_nan f (fin s m e) h = (refl, refl)
