-- Points one after the other, as the ray test reads them: of the numbers of points of space the vertices are these points.
use mathlib.Core.Path.{◌≡◌, refl}
use mathlib.Core.List.{List, [], ◌∷◌}
use lib.ListN.{length}
use Rattle.std.specs.List.{flat_map}
use Rattle.places.specs.Lists.{Each}
use Rattle.places.specs.Stored.{joined}
use Rattle.places.proofs.Stored.{threes_joined}
use Rattle.flat.specs.Points.{Point, vertices_of}

flat_is_joined : (ps : List Point) → flat_map (λ x. x) ps ≡ joined ps
unfolding joined
flat_is_joined [] = refl
flat_is_joined (p ∷ ps) = rw (flat_is_joined ps)

pub vertices_flat : (ps : List Point) → Each [] (λ p. length p ≡ 3) ps → vertices_of (flat_map (λ x. x) ps) ≡ ps
vertices_flat ps e = rw (flat_is_joined ps) (threes_joined ps e)
