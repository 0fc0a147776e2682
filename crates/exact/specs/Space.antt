-- Exact sums over triangles and over sides: places are whole numbers, so nothing is rounded.
use Rattle.std.specs.Prelude.{List, [], ◌∷◌, map, ℕ, ℤ, pos, neg_ℤ, ◌+ℤ◌, ◌*ℤ◌, ◌-ℤ◌, get_or}
use Rattle.places.specs.Ring.{sides}

-- a place, a step from one place to another, or an area vector
pub record V3 : Type 0 where
  pub x : ℤ
  pub y : ℤ
  pub z : ℤ

-- the triple product a · (b × c)
unfoldable pub det : V3 → V3 → V3 → ℤ
det a b c = a.x *ℤ (b.y *ℤ c.z -ℤ b.z *ℤ c.y) +ℤ a.y *ℤ (b.z *ℤ c.x -ℤ b.x *ℤ c.z) +ℤ a.z *ℤ (b.x *ℤ c.y -ℤ b.y *ℤ c.x)

-- a − p
unfoldable pub less : V3 → V3 → V3
less a p = record { x = a.x -ℤ p.x; y = a.y -ℤ p.y; z = a.z -ℤ p.z }

-- a + b
unfoldable pub plus : V3 → V3 → V3
plus a b = record { x = a.x +ℤ b.x; y = a.y +ℤ b.y; z = a.z +ℤ b.z }

-- the sum over the triangles of their triple products about p. `at` says where a vertex is
abbrev pub triples : (ℕ → V3) → V3 → List (List ℕ) → ℤ
triples at p [] = pos 0
triples at p (t ∷ ts) = det (less (at (get_or t 0 0)) p) (less (at (get_or t 1 0)) p) (less (at (get_or t 2 0)) p) +ℤ triples at p ts

-- ---- area vectors
-- (0, 0, 0)
abbrev pub zero_vector : V3
zero_vector = record { x = pos 0; y = pos 0; z = pos 0 }

-- the sum of vectors; of none it is (0, 0, 0)
abbrev pub vector_sum : List V3 → V3
vector_sum [] = zero_vector
vector_sum (v ∷ vs) = plus v (vector_sum vs)

-- −a
unfoldable pub opposite : V3 → V3
opposite a = record { x = neg_ℤ a.x; y = neg_ℤ a.y; z = neg_ℤ a.z }

-- a × b
unfoldable pub cross : V3 → V3 → V3
cross a b =
    record { x = a.y *ℤ b.z -ℤ a.z *ℤ b.y; y = a.z *ℤ b.x -ℤ a.x *ℤ b.z; z = a.x *ℤ b.y -ℤ a.y *ℤ b.x }

-- the doubled area vector of a triangle, of a face and of any other ring alike: the sum of a × b over its sides from a to b.
-- `at` says where a vertex is
unfoldable pub area : (ℕ → V3) → List ℕ → V3
area at ring = vector_sum (map (λ e. cross (at e.0) (at e.1)) (sides ring))

-- the sum of the doubled area vectors of several rings, say the triangles of a face
unfoldable pub areas : (ℕ → V3) → List (List ℕ) → V3
areas at rings = vector_sum (map (area at) rings)
