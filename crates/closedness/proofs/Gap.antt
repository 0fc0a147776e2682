-- The gap of a tally, for `raise` and the loops over chains: one more side widens or narrows it by one, and it is 0 exactly where the tally
-- has as many sides one way as the other.
use mathlib.Core.Path.{◌≡◌, refl, sym, ◌∙◌}
use mathlib.Core.Logic.{◌≢◌}
use mathlib.Core.List.{List}
use Prim.Native.Nat.{ℕ, zero, suc, ◌+◌, ◌-◌, ◌<◌, ◌≤◌}
use native.Mathlib.Decide.{ℕ_discrete, dec_lt}
use native.Mathlib.Omega.{arith}
use lib.ListN.{length, get_or, set}
use lib.Seq.{get_or-set_same, get_or-set_other}
use borrow.Author.Tests.{lt-ltb, le-ltb}
use Rattle.closedness.specs.Steps.{opposite_of, apart, gap_below, gap_of}

-- two tallies have the same numbers at the two codes of the other end i
abbrev Same : List ℕ → List ℕ → ℕ → Type 0
Same t t' i = (get_or t' i 0 ≡ get_or t i 0) × (get_or t' (i + 256) 0 ≡ get_or t (i + 256) 0)

-- by how much a tally has more sides up to i than down from i, or fewer
abbrev gap_at : List ℕ → ℕ → ℕ
gap_at t i = apart (get_or t i 0) (get_or t (i + 256) 0)

gap_same : (n : ℕ) (t t' : List ℕ) → ((i : ℕ) → i < n → Same t t' i) → gap_below n t' ≡ gap_below n t
unfolding gap_below
gap_same zero t t' s = refl
gap_same (suc n) t t' s = omega (arith, gap_same n t t' (λ i h. s i (omega arith)), (s n (omega arith)).0, (s n (omega arith)).1)

swap : (p q x y : ℕ) → p ≡ q → p + x + y ≡ q + y + x
swap p q x y e = omega arith

join : (p q x y g' g : ℕ) → p + x ≡ q + y → g' ≡ g → p + g' + x ≡ q + g + y
join p q x y g' g e f = omega arith

flip : (p q x y : ℕ) → p + apart y x ≡ q + apart y (x + 1) → p + apart x y ≡ q + apart (x + 1) y
flip p q x y e = omega arith

-- they differ at one other end only
gap_one : (n j : ℕ) (t t' : List ℕ) → j < n → ((i : ℕ) → i < n → i ≢ j → Same t t' i)
    → gap_below n t' + gap_at t j ≡ gap_below n t + gap_at t' j
unfolding gap_below
gap_one zero j t t' h s = absurd (omega arith)
gap_one (suc n) j t t' h s = go (ℕ_discrete j n) (λ g. gap_one n j t t' g (λ i b. s i (omega arith)))
  where
    go : Dec (j ≡ n) → (j < n → gap_below n t' + gap_at t j ≡ gap_below n t + gap_at t' j)
        → gap_below n t' + gap_at t' n + gap_at t j ≡ gap_below n t + gap_at t n + gap_at t' j
    go (yes e) below =
        let below-n = gap_same n t t' (λ i g. s i (omega arith) (λ f. absurd (omega arith))) in
        rw e (swap (gap_below n t') (gap_below n t) (gap_at t' n) (gap_at t n) below-n)
    go (no e) below =
        let here = s n (omega arith) (λ f. e (sym f)) in
        let same : gap_at t' n ≡ gap_at t n = rw (here.0, here.1) in
        join (gap_below n t') (gap_below n t) (gap_at t j) (gap_at t' j) (gap_at t' n) (gap_at t n) (below (omega arith)) same

-- one more at the code c, where x stood, and y at the opposite code
pub gap_raise : (t : List ℕ) (c x y : ℕ) → length t ≡ 512 → c < 512 → x ≡ get_or t c 0 → y ≡ get_or t (opposite_of c) 0
    → gap_of (set t c (x + 1)) + apart x y ≡ gap_of t + apart (x + 1) y
gap_raise t c x y w h p q = go (dec_lt c 256)
  where
    here : get_or (set t c (x + 1)) c 0 ≡ x + 1
    here = get_or-set_same t c (x + 1) 0 (omega arith)

    there : (i : ℕ) → i ≢ c → get_or (set t c (x + 1)) i 0 ≡ get_or t i 0
    there i n = get_or-set_other t c i (x + 1) 0 n

    go : Dec (c < 256) → gap_of (set t c (x + 1)) + apart x y ≡ gap_of t + apart (x + 1) y
    go (yes g) =
        let y-is : y ≡ get_or t (c + 256) 0 = q ∙ rw (lt-ltb c 256 g) in
        let at = gap_one 256 c t (set t c (x + 1)) g (λ i a n. (there i n, there (i + 256) (λ e. absurd (omega arith)))) in
        rw (here, there (c + 256) (λ e. absurd (omega arith)), ← y-is, ← p) at at
    go (no g) =
        let le : 256 ≤ c = omega arith in
        let y-is : y ≡ get_or t (c - 256) 0 = q ∙ rw (le-ltb c 256 le) in
        let e : c - 256 + 256 ≡ c = omega arith in
        let at = gap_one 256 (c - 256) t (set t c (x + 1)) (omega arith)
        (λ i a n. (there i (λ f. absurd (omega arith)), there (i + 256) (λ f. n (omega arith)))) in
        flip _ _ x y (rw (e, here, there (c - 256) (λ f. absurd (omega arith)), ← y-is, ← p) at at)

-- one more at the code c, whose opposite is o: where o had more sides the gap narrows, and otherwise it widens
module _ (t : List ℕ) (c o : ℕ) (w : length t ≡ 512) (h : c < 512) (q : o ≡ opposite_of c) where
  abbrev raised : List ℕ
  raised = set t c (get_or t c 0 + 1)

  change : gap_of raised + apart (get_or t c 0) (get_or t o 0) ≡ gap_of t + apart (get_or t c 0 + 1) (get_or t o 0)
  change = gap_raise t c (get_or t c 0) (get_or t o 0) w h refl (rw q)

  pub gap_narrows : get_or t c 0 < get_or t o 0 → gap_of t ≡ gap_of (set t c (get_or t c 0 + 1)) + 1
  gap_narrows g = less (get_or t c 0) (get_or t o 0) (gap_of raised) (gap_of t) g change
    where
      less : (x y u z : ℕ) → x < y → u + apart x y ≡ z + apart (x + 1) y → z ≡ u + 1
      less x y u z g e = omega arith

  pub gap_widens : get_or t o 0 ≤ get_or t c 0 → gap_of (set t c (get_or t c 0 + 1)) ≡ gap_of t + 1
  gap_widens g = more (get_or t c 0) (get_or t o 0) (gap_of raised) (gap_of t) g change
    where
      more : (x y u z : ℕ) → y ≤ x → u + apart x y ≡ z + apart (x + 1) y → u ≡ z + 1
      more x y u z g e = omega arith

-- a gap of 0
pub gap_zero : (n : ℕ) (t : List ℕ) → gap_below n t ≡ 0 → (j : ℕ) → j < n → get_or t j 0 ≡ get_or t (j + 256) 0
unfolding gap_below
gap_zero zero t z j h = absurd (omega arith)
gap_zero (suc n) t z j h = go (ℕ_discrete j n) (gap_zero n t (omega arith) j)
  where
    go : Dec (j ≡ n) → (j < n → get_or t j 0 ≡ get_or t (j + 256) 0) → get_or t j 0 ≡ get_or t (j + 256) 0
    go (yes e) below = rw e (omega arith)
    go (no e) below = below (omega arith)

pub gap_none : (n : ℕ) (t : List ℕ) → ((j : ℕ) → get_or t j 0 ≤ 0) → gap_below n t ≡ 0
unfolding gap_below
gap_none zero t z = refl
gap_none (suc n) t z = omega (arith, gap_none n t z, z n, z (n + 256))

-- another gap
pub record Gap (n : ℕ) (t : List ℕ) : Type 0 where
  pub j : ℕ
  pub below : j < n
  pub differ : get_or t j 0 ≢ get_or t (j + 256) 0

pub gap_some : (n : ℕ) (t : List ℕ) → 0 < gap_below n t → Gap n t
unfolding gap_below
gap_some zero t h = absurd (omega arith)
gap_some (suc n) t h = go (ℕ_discrete (get_or t n 0) (get_or t (n + 256) 0)) (gap_some n t)
  where
    go : Dec (get_or t n 0 ≡ get_or t (n + 256) 0) → (0 < gap_below n t → Gap n t) → Gap (suc n) t
    go (yes e) below = let g = below (omega arith) in record { j = g.j; below = omega (arith, g.below); differ = g.differ }
    go (no e) below = record { j = n; below = omega arith; differ = e }
