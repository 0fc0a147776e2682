-- Elements replaced in their own list, from the front on; and the numbers of a vertex in a list none of whose numbers is out of range.
use Rattle.std.proofs.Common.{◌≡◌, ℕ, zero, suc, ◌+◌, ◌*◌, ◌/◌, ◌<◌, ◌≤◌, false, List, [], ◌∷◌, map, length, get_or, set, refl, ap, arith}
use lib.Ieee.{Float, nan}
use Rattle.places.proofs.Stored.{length_threes, threes_at}
use Rattle.flat.specs.Points.{vertices_of, vertex_of}
use Rattle.cell.specs.Refusals.{out_of_range, number_refused}
use Rattle.cell.proofs.Refusals.{all_in_range}
use Rattle.local.specs.Steps.{InRange}

-- the first i elements replaced by what f makes of them
abbrev pub replaced : {A : Type 0} → (A → A) → ℕ → List A → List A
replaced f zero l = l
replaced f (suc i) [] = []
replaced f (suc i) (x ∷ l) = f x ∷ replaced f i l

module _ {A : Type 0} (f : A → A) where
  -- the next one is still what it was
  pub replaced_at : (i : ℕ) (l : List A) (d : A) → get_or (replaced f i l) i d ≡ get_or l i d
  replaced_at zero l d = refl
  replaced_at (suc i) [] d = refl
  replaced_at (suc i) (x ∷ l) d = replaced_at i l d

  one_more : (i : ℕ) (l : List A) (d : A) → i < length l → set (replaced f i l) i (f (get_or l i d)) ≡ replaced f (suc i) l
  one_more i [] d h = absurd (omega arith)
  one_more zero (x ∷ l) d h = refl
  one_more (suc i) (x ∷ l) d h = ap (λ r. f x ∷ r) (one_more i l d (omega arith))

  pub replaced_next : (i : ℕ) (l : List A) (d : A) → i < length l → set (replaced f i l) i (f (get_or l i d)) ≡ replaced f (i + 1) l
  replaced_next i l d h =
      let e : i + 1 ≡ suc i = omega arith in
      rw e (one_more i l d h)

  pub replaced_all : (i : ℕ) (l : List A) → length l ≤ i → replaced f i l ≡ map f l
  replaced_all zero [] h = refl
  replaced_all zero (x ∷ l) h = absurd (omega arith)
  replaced_all (suc i) [] h = refl
  replaced_all (suc i) (x ∷ l) h = ap (λ r. f x ∷ r) (replaced_all i l (omega arith))

-- ---- a list none of whose numbers is out of range
module _ (coords : List Float) (t : number_refused coords ≡ false) where
  within : (k : ℕ) → k < length coords → out_of_range (get_or coords k nan) ≡ false
  within k h = (all_in_range coords t).holds k h

  pub vertex_in_range : (v : ℕ) → v < length (vertices_of coords) → InRange (vertex_of (vertices_of coords) v)
  vertex_in_range v h =
      let below : v < length coords / 3 = omega (arith, length_threes coords) in
      let far : v * 3 + 2 < length coords = omega arith in
      rw (threes_at coords v nan below)
      (record { x = within (v * 3) (omega arith); y = within (v * 3 + 1) (omega arith); z = within (v * 3 + 2) far })
