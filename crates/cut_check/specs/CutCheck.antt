-- Request 9, 'Check triangles that clients send': which lists of triangles are a cut of a face. The corners of a face of n corners are its
-- places 0 to n − 1, so its sides run from k to k + 1 and from the last to 0. A triangle is the list of its three places.
use Rattle.std.specs.Prelude.{◌≡◌, ◌↔◌, Bool, true, false, not, ◌&&◌, ◌||◌, List, [], ℕ, ◌+◌, ◌<◌, eqb, ltb, length}
use Rattle.places.specs.Lists.{Each}
use Rattle.places.specs.Loops.{any_of}
use Rattle.places.specs.Ring.{sides, next_of, places_below}
use Rattle.exact.specs.Sides.{all_sides, runs, every_side}
use Rattle.exact.specs.Facing.{occurs, Single, doubled}

-- a triangle of three different places
pub record Different (t : List ℕ) : Type 0 where
  pub three : length t ≡ 3
  pub single : Single t

-- the side from i to j is one of the face's n: that from k to k + 1, or from the last to 0
unfoldable pub face_side : ℕ → ℕ → ℕ → Bool
face_side n i j = ltb i n && eqb (next_of i n) j

-- the triangles ts are a cut of a face of n corners. `runs i j ts` says how many of them have the side from i to j: one that has three
-- different places has no side twice
pub record IsCut (n : ℕ) (ts : List (List ℕ)) : Type 0 where
  -- there are n − 2 triangles
  pub number : length ts + 2 ≡ n
  -- of three different places each,
  pub different : Each [] Different ts
  -- each side of the face occurs in exactly one triangle in its own direction and in none reversed,
  pub own : (i j : ℕ) → face_side n i j ≡ true → (runs i j ts ≡ 1) × (runs j i ts ≡ 0)
  -- and every other side that occurs does so once each way
  pub other : (i j : ℕ) → face_side n i j ≡ false → face_side n j i ≡ false → 0 < occurs i j ts → (runs i j ts ≡ 1) × (runs j i ts ≡ 1)

-- ---- the same as a test, which looks only at the sides of the face and at those that occur
-- the triangle has not three different places
unfoldable pub not_different : List ℕ → Bool
not_different t = not (eqb (length t) 3) || doubled t

-- the side of the face from i to j occurs once in its own direction and not reversed
unfoldable pub own_way : List (List ℕ) → ℕ → ℕ → Bool
own_way ts i j = eqb (runs i j ts) 1 && eqb (runs j i ts) 0

-- the side from i to j, or its reverse, is the face's, or it occurs once each way
unfoldable pub each_way : ℕ → List (List ℕ) → ℕ → ℕ → Bool
each_way n ts i j = (face_side n i j || face_side n j i) || (eqb (runs i j ts) 1 && eqb (runs j i ts) 1)

-- every part of `IsCut`
unfoldable pub is_cut_of : ℕ → List (List ℕ) → Bool
is_cut_of n ts =
    (eqb (length ts + 2) n && not (any_of not_different ts))
    && (every_side (own_way ts) (sides (places_below n)) && every_side (each_way n ts) (all_sides ts))

-- the test answers yes exactly where the triangles are a cut, for any n and any lists
abbrev pub CutTest : Type 0
CutTest = (n : ℕ) (ts : List (List ℕ)) → (is_cut_of n ts ≡ true) ↔ IsCut n ts
