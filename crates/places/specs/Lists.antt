-- Lists: what holds at each place, and a list without one of its elements.
use Rattle.std.specs.Prelude.{ℕ, zero, suc, ◌<◌, List, [], ◌∷◌, length, get_or}

-- P holds of the element at each place
pub record Each {A : Type 0} (d : A) (P : A → Type 0) (l : List A) : Type 0 where
  pub holds : (k : ℕ) → k < length l → P (get_or l k d)

-- the list without what stands at k
unfoldable pub without : {A : Type 0} → ℕ → List A → List A
without k [] = []
without zero (x ∷ xs) = xs
without (suc k) (x ∷ xs) = x ∷ without k xs
