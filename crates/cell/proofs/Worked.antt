-- The rows of SCOPE 16 on the limits, worked out from the definitions: 2 ^ 40 passes and the next f64 refuses, 256 vertices pass and 257
-- refuse, 0 faces need 0 corners.
use mathlib.Core.Path.{◌≡◌, refl}
use mathlib.Core.Bool.{true, false}
use mathlib.Core.List.{[], ◌∷◌}
use lib.ListN.{replicate}
use lib.Ieee.{nan, inf, binary64, of_bits, le, neg}
use Rattle.floats.specs.F64.{zero64}
use Rattle.places.specs.Stored.{in_threes}
use Rattle.cell.specs.Refusals.{points_refused, out_of_range, size_refused, ends_refused}

-- ---- the numbers
largest_passes : out_of_range (of_bits binary64 0x4270_0000_0000_0000) ≡ false
unfolding of_bits out_of_range neg le
largest_passes = refl

next_refuses : out_of_range (of_bits binary64 0x4270_0000_0000_0001) ≡ true
unfolding of_bits out_of_range neg le
next_refuses = refl

-- −2 ^ 40, and the next f64 below it
least_passes : out_of_range (of_bits binary64 0xc270_0000_0000_0000) ≡ false
unfolding of_bits out_of_range neg le
least_passes = refl

below_refuses : out_of_range (of_bits binary64 0xc270_0000_0000_0001) ≡ true
unfolding of_bits out_of_range neg le
below_refuses = refl

minus_zero_passes : out_of_range (of_bits binary64 0x8000_0000_0000_0000) ≡ false
unfolding of_bits out_of_range neg le
minus_zero_passes = refl

nan_refuses : out_of_range nan ≡ true
unfolding of_bits out_of_range neg le
nan_refuses = refl

infinity_refuses : out_of_range (inf false) ≡ true
unfolding of_bits out_of_range neg le
infinity_refuses = refl

minus_infinity_refuses : out_of_range (inf true) ≡ true
unfolding of_bits out_of_range neg le
minus_infinity_refuses = refl

-- ---- the vertices: 768 coordinates are 256 of them
most_pass : size_refused (replicate 768 zero64) [] [] ≡ false
unfolding size_refused points_refused in_threes
most_pass = refl

one_more_refuses : size_refused (replicate 771 zero64) [] [] ≡ true
unfolding size_refused points_refused in_threes
one_more_refuses = refl

-- ---- 0 faces need 0 corners
no_face_passes : ends_refused [] [] ≡ false
unfolding ends_refused
no_face_passes = refl

corner_refuses : ends_refused (0 ∷ []) [] ≡ true
unfolding ends_refused
corner_refuses = refl
