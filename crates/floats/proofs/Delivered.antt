-- The root of a value of the format is a value of the format: what is delivered has no more digits than the format keeps.
use Prim.Native.Nat.{ℕ, ◌+◌, ◌-◌, ◌*◌, ◌/◌, ◌^◌, compare}
use native.Mathlib.Nat.{le_trans}
use mathlib.Core.Bool.{false, cond}
use lib.Dec.{T, eqb}
use lib.Ieee.{Float, nan, inf, fin, Format, prec, low, up, down, size, nearest, fits}
use lib.Ieee.Fits.{kept-lt, nearest-le, cond-fits, inf-fits, nan-fits}
use Rattle.floats.specs.Root.{floor_root, round_root, root_of}
use Rattle.floats.proofs.Writing.{units_fits}

pub round_root_fits : (f : Format) (num den : ℕ) → T (fits f (round_root f num den))
unfolding round_root
round_root_fits f num den =
    let n = num * (2 ^ low f * 2 ^ low f) in
    let w = floor_root (n / den) in
    let k = size w - prec f in
    let q = w / 2 ^ k in
    let o = compare (4 * n) ((2 * q + 1) * 2 ^ k * ((2 * q + 1) * 2 ^ k) * den) in
    units_fits f false (nearest q o) k (le_trans (nearest-le q o) (kept-lt (prec f) w))

pub root_fits : (f : Format) (x : Float) → T (fits f x) → T (fits f (root_of f x))
unfolding root_of
root_fits f nan h = nan-fits f
root_fits f (inf s) h = cond-fits f s nan (inf false) (nan-fits f) (inf-fits f false)
root_fits f (fin s m e) h =
    let root = round_root f (m * up e) (down e) in
    cond-fits f (eqb m 0) (fin s m e) (cond s nan root) h (cond-fits f s nan root (nan-fits f) (round_root_fits f (m * up e) (down e)))
