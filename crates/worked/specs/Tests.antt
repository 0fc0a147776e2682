-- Request 10, 'How long can one face take?', worked by computing: faces of 4 to 9 corners at z = 0 whose cut takes as many tests as it may,
-- n² + n − 12, as one claim about the definitions, which proofs/Tests.antt proves. So the ceiling is reached, and no lower one holds for
-- these n. Each of these cuts rests on rounding.
use Rattle.std.specs.Prelude.{◌≡◌, List, [], ◌∷◌, ℕ, take, ℤ, pos, negsuc, Float}
use Rattle.std.specs.Float.{binary64}
use Rattle.std.specs.Float.Ieee.{of_bits, of_int}
use Rattle.floats.specs.F64.{◌-f◌, ◌*f◌}
use Rattle.places.specs.Ring.{places_below}
use Rattle.flat.specs.Points.{Point}
use Rattle.cut.specs.Cut.{Cut, cut_of}
use Rattle.cut.specs.Tests.{most_tests}
use Rattle.worked.specs.Table.{tri, level}

-- a whole number, and so many times 2 ^ −52
abbrev whole : ℤ → Float
whole n = of_int binary64 n

abbrev tiny : ℤ → Float
tiny n = whole n *f of_bits binary64 0x3cb0_0000_0000_0000

-- a square of side 1, traced clockwise from the corner (2 ^ 27, 2 ^ 27) on: its summed area comes out as 0, so the direction is +1 and no
-- corner turns that way
abbrev near : Float
near = whole (pos 134217728)

abbrev far : Float
far = whole (pos 134217729)

abbrev square : List Point
square = level near near ∷ level near far ∷ level far far ∷ level far near ∷ []

-- nine corners: of each ring but the last, of four, only the last corner turns the way of the face, and corner 2 blocks it by rounding
abbrev corners : List Point
corners =
    level (whole (pos 7)) (whole (negsuc 4))
    ∷ level (whole (pos 7) -f tiny (pos 16)) (tiny (pos 8) -f whole (pos 5))
    ∷ level (tiny (pos 2)) (tiny (pos 1))
    ∷ level (whole (pos 6)) (whole (negsuc 3))
    ∷ level (tiny (negsuc 5)) (tiny (pos 6))
    ∷ level (tiny (negsuc 1)) (tiny (pos 3))
    ∷ level (tiny (pos 3)) (tiny (negsuc 0))
    ∷ level (tiny (pos 4)) (tiny (negsuc 1))
    ∷ level (tiny (pos 11)) (tiny (negsuc 9))
    ∷ []

-- ---- what the definitions give of the square, and of the first n of the nine corners
abbrev of_square : Cut
of_square = cut_of square (places_below 4)

abbrev first : ℕ → Cut
first n = cut_of (take n corners) (places_below n)

-- the corners 0 to 3 are left of each
abbrev cut : List (List ℕ) → ℕ → Cut
cut triangles tests = record { triangles = triangles; left = 0 ∷ 1 ∷ 2 ∷ 3 ∷ []; tests = tests }

-- ---- the claim: every cut is what the definitions give, with as many tests as there may be: 8, 18, 30, 44, 60 and 78
pub record Claim : Type 0 where
  pub four : of_square ≡ cut [] (most_tests 4)
  pub five : first 5 ≡ cut (tri 3 4 0 ∷ []) (most_tests 5)
  pub six : first 6 ≡ cut (tri 4 5 0 ∷ tri 3 4 0 ∷ []) (most_tests 6)
  pub seven : first 7 ≡ cut (tri 5 6 0 ∷ tri 4 5 0 ∷ tri 3 4 0 ∷ []) (most_tests 7)
  pub eight : first 8 ≡ cut (tri 6 7 0 ∷ tri 5 6 0 ∷ tri 4 5 0 ∷ tri 3 4 0 ∷ []) (most_tests 8)
  pub nine : first 9 ≡ cut (tri 7 8 0 ∷ tri 6 7 0 ∷ tri 5 6 0 ∷ tri 4 5 0 ∷ tri 3 4 0 ∷ []) (most_tests 9)
