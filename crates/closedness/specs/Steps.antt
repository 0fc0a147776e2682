-- What functions below the gatehouse ask of and promise each other; no contract of a public entry speaks of these.
-- Here the chains of sides, for each vertex a chain of the sides that have it as their lower end, and the tally that is kept along a chain.
use Rattle.std.specs.Prelude.{◌≡◌, ◌≢◌, Bool, true, false, not, ◌&&◌, cond, List, [], ◌∷◌, ℕ, zero, suc, ◌+◌, ◌-◌, ◌<◌, ◌≤◌, eqb, ltb}
use Rattle.std.specs.Prelude.{length, get_or}
use Rattle.places.specs.Limits.{most_vertices}
use Rattle.places.specs.Loops.{fold_list, one_if}
use Rattle.places.specs.Ring.{fold_sides}

-- ---- codes
-- the lower end of a side
abbrev pub lower_of : ℕ → ℕ → ℕ
lower_of a b = cond (ltb a b) a b

-- what stands for a side in the chain of its lower end: the other end, and 256 more where the side runs down
abbrev pub code_of : ℕ → ℕ → ℕ
code_of a b = cond (ltb a b) b (a + 256)

-- the code of the same side run the other way
abbrev pub opposite_of : ℕ → ℕ
opposite_of c = cond (ltb c 256) (c + 256) (c - 256)

-- whether the side e is in the chain of m: it runs between two vertices, and m is the lower
abbrev pub chained : ℕ → ℕ × ℕ → Bool
chained m e = not (eqb e.0 e.1) && eqb (lower_of e.0 e.1) m

-- the codes of those sides of a list that are in the chain of m
abbrev pub codes_at : ℕ → List (ℕ × ℕ) → List ℕ
codes_at m [] = []
codes_at m (e ∷ l) = cond (chained m e) (code_of e.0 e.1 ∷ codes_at m l) (codes_at m l)

-- how often a code stands in a list
abbrev pub times : ℕ → List ℕ → ℕ
times c [] = 0
times c (x ∷ cs) = one_if (eqb x c) + times c cs

-- ---- chains
-- the chain that starts at h has these codes: 0 is its end, and an h above 0 stands for the place h - 1, which has its code and where the
-- chain goes on
abbrev pub Chain : List ℕ → List ℕ → ℕ → List ℕ → Type 0
Chain next other h [] = h ≡ 0
Chain next other h (c ∷ cs) = (0 < h) × (get_or other (h - 1) 0 ≡ c) × Chain next other (get_or next (h - 1) 0) cs

-- the chains are those of the sides of a list
pub record Lists (head next other : List ℕ) (l : List (ℕ × ℕ)) : Type 0 where
  pub chain : (m : ℕ) → m < most_vertices → Chain next other (get_or head m 0) (codes_at m l)

-- what held the sides l now holds those that f makes of them
abbrev pub Gains : (List (ℕ × ℕ) → Type 0) → (List (ℕ × ℕ) → Type 0) → (List (ℕ × ℕ) → List (ℕ × ℕ)) → Type 0
Gains Held Holds f = (l : List (ℕ × ℕ)) → Held l → Holds (f l)

-- one more side, the sides of a face, the sides of all faces: the latest comes first
abbrev pub push : ℕ → ℕ → List (ℕ × ℕ) → List (ℕ × ℕ)
push a b l = (a, b) ∷ l

unfoldable pub push_face : List ℕ → List (ℕ × ℕ) → List (ℕ × ℕ)
push_face face l = fold_sides push face l

unfoldable pub push_faces : List (List ℕ) → List (ℕ × ℕ) → List (ℕ × ℕ)
push_faces fs l = fold_list push_face fs l

-- ---- the tally: at each code how many sides had it
-- by how much two numbers differ
abbrev pub apart : ℕ → ℕ → ℕ
apart x y = (x - y) + (y - x)

-- by how much the tally has more one way than the other, over the other ends below n
unfoldable pub gap_below : ℕ → List ℕ → ℕ
gap_below zero t = 0
gap_below (suc j) t = gap_below j t + apart (get_or t j 0) (get_or t (j + 256) 0)

abbrev pub gap_of : List ℕ → ℕ
gap_of t = gap_below 256 t

-- each entry can be raised n times
pub record Room (n : ℕ) (t : List ℕ) : Type 0 where
  pub size : length t ≡ 512
  pub spare : (c : ℕ) → get_or t c 0 + n < 4294967296

-- no entry was raised more than n times
pub record Raised (n : ℕ) (t t' : List ℕ) : Type 0 where
  pub size : length t' ≡ 512
  pub most : (c : ℕ) → get_or t' c 0 ≤ get_or t c 0 + n

-- each entry was raised as often as its code stands in a list
pub record Tallied (cs t t' : List ℕ) : Type 0 where
  pub counts : (c : ℕ) → c < 512 → get_or t' c 0 ≡ get_or t c 0 + times c cs

-- the chain of m does not have as many sides up to j as down from j
pub record Uneven (l : List (ℕ × ℕ)) : Type 0 where
  pub m : ℕ
  pub j : ℕ
  pub below : j < most_vertices
  pub differ : times j (codes_at m l) ≢ times (j + 256) (codes_at m l)

-- r is yes only where, in the chain of every vertex below v, as many sides run up to each j as down from it, and no only where some chain
-- has not
pub record Even (v : ℕ) (l : List (ℕ × ℕ)) (r : Bool) : Type 0 where
  pub yes : r ≡ true → (m j : ℕ) → m < v → j < most_vertices → times j (codes_at m l) ≡ times (j + 256) (codes_at m l)
  pub no : r ≡ false → Uneven l
