-- remove_consecutive_duplicates: doubled points are dropped.
use Rattle.std.specs.Prelude.{◌-◌, ◌&&◌, cond, List, [], ◌∷◌, length, get_or, take, ltb, Float}
use Rattle.std.specs.Float.{binary64}
use Rattle.std.specs.Float.Ieee.{le, lt}
use Rattle.places.specs.Loops.{fold_list}
use Rattle.floats.specs.F64.{◌+f◌, ◌-f◌, ◌*f◌, zero64, epsilon64}
use Rattle.floats.specs.Pick.{magnitude_of, largest_of}
use Rattle.floats.specs.Root.{root_of}
use Rattle.flat.specs.Points.{Point, at}

-- the sum of the squares of what two points differ by
unfoldable pub square_of : Point → Point → Float
square_of a b =
    let x = at a 0 -f at b 0 in
    let y = at a 1 -f at b 1 in
    let z = at a 2 -f at b 2 in
    x *f x +f y *f y +f z *f z

-- dist3: how far two points are apart
unfoldable pub dist3_of : Point → Point → Float
dist3_of a b = root_of binary64 (square_of a b)

-- the largest magnitude of a point's coordinates and of m
unfoldable pub largest_coordinate : Point → Float → Float
largest_coordinate p m = largest_of m (largest_of (largest_of (magnitude_of (at p 0)) (magnitude_of (at p 1))) (magnitude_of (at p 2)))

-- points no farther apart than this are doubled
unfoldable pub doubled_within : List Point → Float
doubled_within ps = epsilon64 *f fold_list largest_coordinate ps zero64

-- of the points that follow `last`, those farther than eps from the one kept before
unfoldable pub spaced_from : Float → Point → List Point → List Point
spaced_from eps last [] = []
spaced_from eps last (p ∷ ps) =
    let kept = p ∷ spaced_from eps p ps in
    let dropped = spaced_from eps last ps in
    cond (lt eps (dist3_of p last)) kept dropped

-- the first point, and of the others those that are not doubled
unfoldable pub spaced_of : Float → List Point → List Point
spaced_of eps [] = []
spaced_of eps (p ∷ ps) = p ∷ spaced_from eps p ps

-- the last point goes where it doubles the first
unfoldable pub opened_of : Float → List Point → List Point
opened_of eps ps =
    cond (ltb 1 (length ps) && le (dist3_of (get_or ps 0 []) (get_or ps (length ps - 1) [])) eps) (take (length ps - 1) ps) ps

-- the outline without doubled points
unfoldable pub without_doubled : List Point → List Point
without_doubled ps = opened_of (doubled_within ps) (spaced_of (doubled_within ps) ps)
