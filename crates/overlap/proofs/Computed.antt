-- A contribution worked out: the top of the unit cube about its corner (0,0,0) is a third of the cube.
use mathlib.Core.Path.{◌≡◌, refl}
use mathlib.Core.List.{List, [], ◌∷◌}
use lib.Ieee.{Float, binary64, of_bits, add, sub, mul, div}
use Rattle.places.specs.Loops.{fold_list}
use Rattle.floats.specs.F64.{zero64, one64}
use Rattle.flat.specs.Points.{Point, minus_of}
use Rattle.volume.specs.Volume.{triple_of}
use Rattle.overlap.specs.Overlap.{add_fan, contribution_of}

-- the point (x, y, z)
abbrev point : Float → Float → Float → Point
point x y z = x ∷ y ∷ z ∷ []

-- the f64 next to 1/3
abbrev third : Float
third = of_bits binary64 0x3fd5_5555_5555_5555

-- its four corners, in their order
abbrev top : List Point
top =
    point zero64 zero64 one64 ∷ point one64 zero64 one64
    ∷ point one64 one64 one64 ∷ point zero64 one64 one64 ∷ []

top_of_cube : contribution_of (point zero64 zero64 zero64) top ≡ third
unfolding contribution_of add_fan fold_list triple_of minus_of of_bits add sub mul div
top_of_cube = refl
