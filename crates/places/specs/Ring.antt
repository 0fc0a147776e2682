-- A ring is a list whose first element comes again after its last.
use Rattle.std.specs.Prelude.{cond, ℕ, zero, suc, ◌+◌, ◌-◌, List, [], ◌∷◌, length, get_or, eqb, ltb}
use Rattle.places.specs.Loops.{fold_list}

-- from a through the elements of l to z
abbrev pub walk : {A : Type 0} → A → List A → A → List (A × A)
walk a [] z = (a, z) ∷ []
walk a (b ∷ l) z = (a, b) ∷ walk b l z

-- the sides of a ring: from each corner to the next, and from the last to the first
abbrev pub sides : {A : Type 0} → List A → List (A × A)
sides [] = []
sides (a ∷ l) = walk a l a

-- pairs taken in one after the other, from the state s on
abbrev pub fold_pairs : {A S : Type 0} → (A → A → S → S) → List (A × A) → S → S
fold_pairs f l s = fold_list (λ e. f e.0 e.1) l s

-- the sides of a ring taken in one after the other, each from its corner to the next
abbrev pub fold_sides : {A S : Type 0} → (A → A → S → S) → List A → S → S
fold_sides f ring s = fold_pairs f (sides ring) s

-- the place after i in a ring of n, and the one before
unfoldable pub next_of : ℕ → ℕ → ℕ
next_of i n = cond (ltb (i + 1) n) (i + 1) 0

unfoldable pub prev_of : ℕ → ℕ → ℕ
prev_of i n = cond (eqb i 0) (n - 1) (i - 1)

-- the next `left` places from i on, in order
abbrev pub places_from : ℕ → ℕ → List ℕ
places_from zero i = []
places_from (suc left) i = i ∷ places_from left (i + 1)

-- the places of a ring of n, in order: 0 to n − 1
unfoldable pub places_below : ℕ → List ℕ
places_below n = places_from n 0

-- what stands before place k, and after it
abbrev pub before : {A : Type 0} → A → ℕ → List A → A
before d k l = get_or l (prev_of k (length l)) d

abbrev pub after : {A : Type 0} → A → ℕ → List A → A
after d k l = get_or l (next_of k (length l)) d

-- the triangle at place k: before, corner, after
unfoldable pub ear_of : ℕ → List ℕ → List ℕ
ear_of k l = before 0 k l ∷ get_or l k 0 ∷ after 0 k l ∷ []
