-- SCOPE 19, the move to a local origin, worked by hand: lists of vertices, what `to_local` answers and leaves, as one table and one claim
-- about its definition, which proofs/Local.antt proves by computing it.
use Rattle.std.specs.Prelude.{◌≡◌, List, [], ◌∷◌, ◌++◌, pos, negsuc, Float, Ok, Err}
use Rattle.std.specs.Float.{binary64}
use Rattle.std.specs.Float.Ieee.{of_bits, of_int}
use Rattle.places.specs.declared.refusal.Refusal.TheVariants.{Inexact}
use Rattle.floats.specs.F64.{zero64, one64, two64}
use Rattle.geometry.specs.declared.Point3.{Point3}
use Rattle.geometry.specs.Answers.{Answer}
use Rattle.geometry.specs.Points.{to_local_answer}

-- ---- a row: a list of vertices, the answer, and the list afterwards
pub record Row : Type 0 where
  pub coords : List Float
  pub answer : Answer Point3
  pub after : List Float

-- of every row, what the definition gives and what the row states
abbrev pub given : List Row → List (Answer Point3 × List Float)
given [] = []
given (r ∷ rs) = to_local_answer r.coords ∷ given rs

abbrev pub stated : List Row → List (Answer Point3 × List Float)
stated [] = []
stated (r ∷ rs) = (r.answer, r.after) ∷ stated rs

-- ---- the lists
abbrev vertex : Float → Float → Float → List Float
vertex x y z = x ∷ y ∷ z ∷ []

-- the vertices of a box from one corner to the opposite one, in the order of HEX8
abbrev box : Float → Float → Float → Float → Float → Float → List Float
box x y z x' y' z' =
    vertex x y z ++ vertex x' y z ++ vertex x' y' z ++ vertex x y' z ++ vertex x y z' ++ vertex x' y z' ++ vertex x' y' z' ++ vertex x y' z'

-- the three whole numbers by which the box of docs/LIMITS.md moves
abbrev east : Float
east = of_int binary64 (pos 8588590)

abbrev north : Float
north = of_int binary64 (pos 8529546)

abbrev high : Float
high = of_int binary64 (pos 2969498)

-- 8588590.05, 8529546.25 and 2969500 as they are stored
abbrev east' : Float
east' = of_bits binary64 0x4160_61a5_c199_999a

abbrev north' : Float
north' = of_bits binary64 0x4160_44d1_4800_0000

abbrev high' : Float
high' = of_int binary64 (pos 2969500)

-- 0.05 as it is stored there
abbrev width : Float
width = of_bits binary64 0x3fa9_9999_a000_0000

-- 0.25, 0.75 and 3.75, and −0.25, −0.5 and −7.25
abbrev quarter : Float
quarter = of_bits binary64 0x3fd0_0000_0000_0000

abbrev three_quarters : Float
three_quarters = of_bits binary64 0x3fe8_0000_0000_0000

abbrev fifteen_quarters : Float
fifteen_quarters = of_bits binary64 0x400e_0000_0000_0000

abbrev minus_quarter : Float
minus_quarter = of_bits binary64 0xbfd0_0000_0000_0000

abbrev minus_half : Float
minus_half = of_bits binary64 0xbfe0_0000_0000_0000

abbrev minus_twenty_nine_quarters : Float
minus_twenty_nine_quarters = of_bits binary64 0xc01d_0000_0000_0000

-- 2 ^ 40 and 2 ^ −60
abbrev farthest : Float
farthest = of_bits binary64 0x4270_0000_0000_0000

abbrev small_step : Float
small_step = of_bits binary64 0x3c30_0000_0000_0000

-- a vertex at the limit and one a small step from 0: the difference of their first coordinates is no f64
abbrev wide : List Float
wide = vertex farthest zero64 zero64 ++ vertex small_step zero64 zero64

-- ---- the rows
abbrev pub rows : List Row
rows =
    -- the thin box far from the origin comes to the origin by three whole numbers
    record {
      coords = box east north high east' north' high';
      answer = Ok (record { x = east; y = north; z = high });
      after = box zero64 zero64 zero64 width quarter two64;
    }
    -- towards zero: −0.5 gives +0, 3.75 gives 3 and −7.25 gives −7
    ∷ record {
      coords = vertex minus_half fifteen_quarters minus_twenty_nine_quarters ++ vertex one64 two64 (of_int binary64 (pos 3));
      answer = Ok (record { x = zero64; y = of_int binary64 (pos 3); z = of_int binary64 (negsuc 6) });
      after = vertex minus_half three_quarters minus_quarter ++ vertex one64 (of_int binary64 (negsuc 0)) (of_int binary64 (pos 10));
    }
    -- a difference that is no f64 is refused 15, and the list is left
    ∷ record { coords = wide; answer = Err Inexact; after = wide }
    ∷ []

abbrev pub Claim : Type 0
Claim = given rows ≡ stated rows
