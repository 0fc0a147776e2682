-- A list is turned round in place: n / 2 times the places i and n - 1 - i change what they hold, and that gives `reverse`, for
-- `reverse_corners`.
use mathlib.Core.Path.{◌≡◌, refl, sym, ◌∙◌}
use mathlib.Core.Logic.{⊎_elim, ◌≢◌}
use mathlib.Core.List.{List, [], ◌∷◌, reverse, reverse-cons}
use Prim.Native.Nat.{ℕ, zero, suc, ◌+◌, ◌-◌, ◌*◌, ◌/◌, ◌<◌, ◌≤◌}
use native.Mathlib.Nat.{not-suc-le-zero, eq-or-lt_of_le}
use native.Mathlib.Omega.{arith}
use lib.ListN.{length, get_or, set, length-set, length-reverse, get_or-append}
use lib.Seq.{ext_get_or, get_or_at, get_or-set_same, get_or-set_other}
use Rattle.places.specs.Steps.{swapped}
use Rattle.places.proofs.Folding.{fold_from, Folding, fold_start, fold_next}

-- a step of the reversal of n elements: place i changes with the place that is as far from the end
abbrev pub mirror : {A : Type 0} → A → ℕ → ℕ → List A → List A
mirror d n i l = swapped d i (n - 1 - i) l

-- such steps from place i on, `left` of them
abbrev mirror_from : {A : Type 0} → A → ℕ → ℕ → ℕ → List A → List A
mirror_from d n left i l = fold_from (mirror d n) left i l

module _ {A : Type 0} (d : A) where
  -- ---- what stands at a place after two have changed
  pub length_swapped : (i j : ℕ) (l : List A) → length (swapped d i j l) ≡ length l
  unfolding swapped
  length_swapped i j l = simp length-set

  pub swapped_first : (i j : ℕ) (l : List A) → i < j → j < length l → get_or (swapped d i j l) i d ≡ get_or l j d
  unfolding swapped
  swapped_first i j l h g =
      get_or-set_other (set l i (get_or l j d)) j i (get_or l i d) d (λ e. omega arith)
      ∙ get_or-set_same l i (get_or l j d) d (omega arith)

  pub swapped_second : (i j : ℕ) (l : List A) → j < length l → get_or (swapped d i j l) j d ≡ get_or l i d
  unfolding swapped
  swapped_second i j l g = get_or-set_same (set l i (get_or l j d)) j (get_or l i d) d (simp length-set g)

  pub swapped_other : (i j k : ℕ) (l : List A) → k ≢ i → k ≢ j → get_or (swapped d i j l) k d ≡ get_or l k d
  unfolding swapped
  swapped_other i j k l h g = get_or-set_other (set l i (get_or l j d)) j k (get_or l i d) d g ∙ get_or-set_other l i k (get_or l j d) d h

  -- ---- what stands at a place of the reversed list
  pub reverse_at : (l : List A) (i : ℕ) → i < length l → get_or (reverse l) i d ≡ get_or l (length l - 1 - i) d
  reverse_at [] i h = absurd (not-suc-le-zero h)
  reverse_at (x ∷ xs) i h = ⊎_elim last (λ g. within g (reverse_at xs i (omega arith))) (eq-or-lt_of_le h)
    where
      last : suc i ≡ suc (length xs) → get_or (reverse (x ∷ xs)) i d ≡ get_or (x ∷ xs) (suc (length xs) - 1 - i) d
      last e =
          let z : suc (length xs) - 1 - i ≡ 0 = omega arith in
          rw (z, reverse-cons x xs) (get_or_at (reverse xs) x [] d i (omega (arith, length-reverse xs)))

      within : suc i < suc (length xs) → get_or (reverse xs) i d ≡ get_or xs (length xs - 1 - i) d
          → get_or (reverse (x ∷ xs)) i d ≡ get_or (x ∷ xs) (suc (length xs) - 1 - i) d
      within g r =
          let z : suc (length xs) - 1 - i ≡ suc (length xs - 1 - i) = omega arith in
          rw (z, reverse-cons x xs) (get_or-append (reverse xs) (x ∷ []) d i (omega (arith, length-reverse xs)) ∙ r)

  -- ---- the steps from i on leave the places before i and those as near to the end, and mirror the places between
  module _ (n : ℕ) where
    length_mirrored : (left i : ℕ) (l : List A) → length (mirror_from d n left i l) ≡ length l
    unfolding fold_from
    length_mirrored zero i l = refl
    length_mirrored (suc left) i l = length_mirrored left (i + 1) (mirror d n i l) ∙ length_swapped i (n - 1 - i) l

    before : (left i p : ℕ) (l : List A) → (i + left) * 2 ≤ n → p < i → get_or (mirror_from d n left i l) p d ≡ get_or l p d
    unfolding fold_from
    before zero i p l h g = refl
    before (suc left) i p l h g =
        before left (i + 1) p (mirror d n i l) (omega arith) (omega arith)
        ∙ swapped_other i (n - 1 - i) p l (λ e. omega arith) (λ e. omega arith)

    behind : (left i p : ℕ) (l : List A) → (i + left) * 2 ≤ n → n ≤ p + i → get_or (mirror_from d n left i l) p d ≡ get_or l p d
    unfolding fold_from
    behind zero i p l h g = refl
    behind (suc left) i p l h g =
        behind left (i + 1) p (mirror d n i l) (omega arith) (omega arith)
        ∙ swapped_other i (n - 1 - i) p l (λ e. omega arith) (λ e. omega arith)

    between : (left i p : ℕ) (l : List A) → length l ≡ n → (i + left) * 2 ≤ n → n ≤ (i + left) * 2 + 1 → i ≤ p → p + i < n
        → get_or (mirror_from d n left i l) p d ≡ get_or l (n - 1 - p) d
    unfolding fold_from
    between zero i p l e h k a b =
        let z : n - 1 - p ≡ p = omega arith in
        rw z
    between (suc left) i p l e h k a b =
        let long : length (mirror d n i l) ≡ n = length_swapped i (n - 1 - i) l ∙ e in
        ⊎_elim first
        (λ c. ⊎_elim (last c)
        (λ q. inner c q (between left (i + 1) p (mirror d n i l) long (omega arith) (omega arith) (omega arith) (omega arith)))
        (eq-or-lt_of_le b))
        (eq-or-lt_of_le a)
      where
        first : i ≡ p → get_or (mirror_from d n left (i + 1) (mirror d n i l)) p d ≡ get_or l (n - 1 - p) d
        first c =
            rw (← c) (before left (i + 1) i (mirror d n i l) (omega arith) (omega arith)
            ∙ swapped_first i (n - 1 - i) l (omega arith) (omega arith))

        last : i < p → suc (p + i) ≡ n → get_or (mirror_from d n left (i + 1) (mirror d n i l)) p d ≡ get_or l (n - 1 - p) d
        last c q =
            let z : n - 1 - i ≡ p = omega arith in
            let w : n - 1 - p ≡ i = omega arith in
            behind left (i + 1) p (mirror d n i l) (omega arith) (omega arith) ∙ rw (z, w) (swapped_second i p l (omega arith))

        inner : i < p → suc (p + i) < n → get_or (mirror_from d n left (i + 1) (mirror d n i l)) p d ≡ get_or (mirror d n i l) (n - 1 - p) d
            → get_or (mirror_from d n left (i + 1) (mirror d n i l)) p d ≡ get_or l (n - 1 - p) d
        inner c q r = r ∙ swapped_other i (n - 1 - i) (n - 1 - p) l (λ s. omega arith) (λ s. omega arith)

  pub mirrored : (l : List A) → fold_from (mirror d (length l)) (length l / 2) 0 l ≡ reverse l
  mirrored l =
      let n = length l in
      ext_get_or d (mirror_from d n (n / 2) 0 l) (reverse l) (length_mirrored n (n / 2) 0 l ∙ sym (length-reverse l)) at
    where
      at : (p : ℕ) → let n = length l in
          p < length (mirror_from d n (n / 2) 0 l) → get_or (mirror_from d n (n / 2) 0 l) p d ≡ get_or (reverse l) p d
      at p h =
          let n = length l in
          let g : p < n = omega (arith, length_mirrored n (n / 2) 0 l) in
          between n (n / 2) 0 p l refl (omega arith) (omega arith) (omega arith) (omega arith) ∙ sym (reverse_at l p g)

  -- ---- the loop that turns a list round: its start and its step; its end is that of every such loop
  pub mirror_start : (n : ℕ) (l : List A) → n ≡ length l → Folding (mirror d n) (n / 2) (reverse l) 0 l
  mirror_start n l e = fold_start (rw e (mirrored l))

  pub mirror_next : (n : ℕ) {whole s s' : List A} {i : ℕ} → Folding (mirror d n) (n / 2) whole i s → i < n / 2
      → s' ≡ swapped d i (n - 1 - i) s → Folding (mirror d n) (n / 2) whole (i + 1) s'
  mirror_next n p h e = fold_next p h e
