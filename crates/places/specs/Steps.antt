-- What functions below the gatehouse ask of and promise each other; no contract of a public entry speaks of these.
use Rattle.places.specs.Lists.{without}
use Rattle.std.specs.Prelude.{ℕ, ◌-◌, ◌<◌, ◌≤◌, List, [], ◌∷◌, ◌++◌, length, get_or, set, drop}

-- what stands in a list when what came after place k has moved one place to the left: the list without k, and then the last as it was
unfoldable pub removed : {A : Type 0} → ℕ → List A → List A
removed k l = without k l ++ drop (length l - 1) l

-- the list in which what stands at i and what stands at j have changed places
unfoldable pub swapped : {A : Type 0} → A → ℕ → ℕ → List A → List A
swapped d i j l = set (set l i (get_or l j d)) j (get_or l i d)

-- the numbers that make no point: of a list that is stored in threes the one or two over at its end,
-- of one that is stored in pairs the one over
unfoldable pub over_threes : {A : Type 0} → List A → List A
over_threes [] = []
over_threes (a ∷ []) = a ∷ []
over_threes (a ∷ b ∷ []) = a ∷ b ∷ []
over_threes (a ∷ b ∷ c ∷ l) = over_threes l

unfoldable pub over_pairs : {A : Type 0} → List A → List A
over_pairs [] = []
over_pairs (a ∷ []) = a ∷ []
over_pairs (a ∷ b ∷ l) = over_pairs l

-- a list of marks, counts, codes or stamps before anything is entered: each entry is 0
pub record Blank (t : List ℕ) : Type 0 where
  pub zero : (k : ℕ) → get_or t k 0 ≤ 0

-- no stamp in the list is `own` yet, the one to come: each is below it
pub record Fresh (own : ℕ) (stamp : List ℕ) : Type 0 where
  pub below : (x : ℕ) → get_or stamp x 0 < own
