-- Numbers for the vertices that occur: 0, 1, 2 .. in the order of first mention. A vertex without a number has 256 in its place.
use Rattle.std.specs.Prelude.{cond, ◌≡◌, ◌≢◌, List, [], ◌∷◌, ◌++◌, ℕ, ◌+◌, ◌*◌, ◌<◌, ◌≤◌, T, eqb, length, get_or}
use Rattle.places.specs.Limits.{most_vertices, most_corners}
use Rattle.places.specs.Lists.{Each}
use Rattle.places.specs.Loops.{any_of, fold_list, one_if}
use Rattle.cell.specs.Faces.{rises}

-- x has a number, one below k
pub record Known (number : List ℕ) (k x : ℕ) : Type 0 where
  pub within : x < length number
  pub told : get_or number x 0 < k

-- how many have no number
abbrev pub unnamed : List ℕ → ℕ
unnamed [] = 0
unnamed (n ∷ ns) = one_if (eqb n 256) + unnamed ns

-- k of 256 vertices have a number, each another below k
pub record Numbering (number : List ℕ) (k : ℕ) : Type 0 where
  pub size : length number ≡ most_vertices
  pub given : k + unnamed number ≡ most_vertices
  pub told : (x : ℕ) → x < most_vertices → get_or number x 0 ≢ 256 → get_or number x 0 < k
  pub apart : (x y : ℕ) → x < most_vertices → y < most_vertices → get_or number x 0 ≢ 256 → get_or number x 0 ≡ get_or number y 0 → x ≡ y

-- the list with x at its end, unless x is in it
abbrev pub mention : ℕ → List ℕ → List ℕ
mention x vs = cond (any_of (eqb x) vs) vs (vs ++ x ∷ [])

-- the vertices of a corner list, each once, in the order of first mention
unfoldable pub mentioned : List ℕ → List ℕ
mentioned corners = fold_list mention corners []

-- the k numbers follow a list of vertices: the vertex at place i has the number i, and no other vertex has a number
pub record Follows (number : List ℕ) (k : ℕ) (vs : List ℕ) : Type 0 where
  pub count : k ≡ length vs
  pub placed : (i : ℕ) → i < k → get_or number (get_or vs i 0) 0 ≡ i
  pub told : (x : ℕ) → x < most_vertices → get_or number x 0 ≢ 256 → get_or vs (get_or number x 0) 0 ≡ x

-- after the vertex x is seen: it has a number, who had one has one, and numbers that followed a list follow it with x mentioned
pub record Named (number : List ℕ) (k x : ℕ) (number' : List ℕ) (k' : ℕ) : Type 0 where
  pub still : Numbering number' k'
  pub kept : (y : ℕ) → Known number k y → Known number' k' y
  pub known : Known number' k' x
  pub mentions : (vs : List ℕ) → Follows number k vs → Follows number' k' (mention x vs)

-- the table's entry for the sides from a to b: the row of a's number, the column of b's
unfoldable pub entry_of : List ℕ → ℕ → ℕ → ℕ → ℕ
entry_of number k a b = get_or number a 0 * k + get_or number b 0

-- what the functions over the table are given: each corner has one of k numbers, and the ends are in order
pub record Numbered (number : List ℕ) (k : ℕ) (corners ends : List ℕ) : Type 0 where
  pub numbering : Numbering number k
  pub known : Each 0 (Known number k) corners
  pub ordered : T (rises 0 ends (length corners))
  pub few : length corners ≤ most_corners
