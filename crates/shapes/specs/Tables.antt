-- The six corner tables of the fixed shapes. A row lists corner numbers: a face, taken so that its
-- normal points outward, or one of the tetrahedra that fill a shape.
-- A wedge has the triangle 0, 1, 2 opposite the triangle 3, 4, 5; a hexahedron the quadrilateral 0, 1, 2, 3 opposite 4, 5, 6, 7.
use Rattle.std.specs.Prelude.{List, [], ◌∷◌, ℕ}

abbrev tri : ℕ → ℕ → ℕ → List ℕ
tri a b c = a ∷ b ∷ c ∷ []

abbrev quad : ℕ → ℕ → ℕ → ℕ → List ℕ
quad a b c d = a ∷ b ∷ c ∷ d ∷ []

-- the four faces of a tetrahedron
abbrev pub tet4_faces : List (List ℕ)
tet4_faces = tri 0 1 3 ∷ tri 1 2 3 ∷ tri 2 0 3 ∷ tri 0 2 1 ∷ []

-- the three tetrahedra of a wedge
abbrev pub wedge6_tet : List (List ℕ)
wedge6_tet = quad 0 1 2 3 ∷ quad 1 2 3 4 ∷ quad 2 3 4 5 ∷ []

-- the two triangles of a wedge, and its three quadrilaterals
abbrev pub wedge6_tri_faces : List (List ℕ)
wedge6_tri_faces = tri 0 2 1 ∷ tri 3 4 5 ∷ []

abbrev pub wedge6_quad_faces : List (List ℕ)
wedge6_quad_faces = quad 0 1 4 3 ∷ quad 1 2 5 4 ∷ quad 2 0 3 5 ∷ []

-- the six faces of a hexahedron
abbrev pub hex8_faces : List (List ℕ)
hex8_faces = quad 0 3 2 1 ∷ quad 4 5 6 7 ∷ quad 0 1 5 4 ∷ quad 2 3 7 6 ∷ quad 1 2 6 5 ∷ quad 3 0 4 7 ∷ []

-- the six tetrahedra of a hexahedron, all with the corner 7
abbrev pub hex8_tet : List (List ℕ)
hex8_tet = quad 0 5 1 7 ∷ quad 0 4 5 7 ∷ quad 1 6 2 7 ∷ quad 1 5 6 7 ∷ quad 0 2 3 7 ∷ quad 0 1 2 7 ∷ []
