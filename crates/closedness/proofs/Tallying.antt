-- The tally along a chain, for `tally_chain`, and over all chains, for `is_even`: what is left of the chain makes, with the tally, the
-- whole; and after a chain whose gap is 0 the vertex has as many sides up as down to each other vertex.
use mathlib.Core.Path.{◌≡◌, refl, sym, ◌∙◌}
use mathlib.Core.Bool.{true, false}
use mathlib.Core.List.{List, [], ◌∷◌}
use Prim.Native.Nat.{ℕ, ◌+◌, ◌*◌, ◌-◌, ◌<◌, ◌≤◌}
use native.Mathlib.Decide.{ℕ_discrete}
use native.Mathlib.Omega.{arith}
use lib.Dec.{eqb}
use lib.ListN.{length, get_or, set, take, length-set}
use lib.Seq.{get_or-set_same, get_or-set_other}
use borrow.Author.Tests.{eq-eqb, ne_eqb}
use Rattle.std.proofs.lemmas.List.{get_or-take, length-take}
use Rattle.places.specs.Loops.{one_if}
use Rattle.places.specs.Steps.{Blank}
use Rattle.places.proofs.Loops.{one_at_most}
use Rattle.closedness.specs.Steps.{codes_at, times, Chain, Lists, gap_of, Room, Raised, Tallied, Uneven, Even}
use Rattle.closedness.proofs.Gap.{gap_zero, gap_none, gap_some}

-- one more at k
more_at : (t : List ℕ) (k j : ℕ) → k < length t → get_or (set t k (get_or t k 0 + 1)) j 0 ≡ get_or t j 0 + one_if (eqb k j)
more_at t k j h = go (ℕ_discrete k j)
  where
    go : Dec (k ≡ j) → get_or (set t k (get_or t k 0 + 1)) j 0 ≡ get_or t j 0 + one_if (eqb k j)
    go (yes p) = rw (← p, eq-eqb k k refl, get_or-set_same t k (get_or t k 0 + 1) 0 h)
    go (no p) = rw (ne_eqb k j p, get_or-set_other t k j (get_or t k 0 + 1) 0 (λ e. p (sym e))) (omega arith)

-- ---- no entry of the tally t is higher than n turns allow, of which h are left
pub record Rising (n : ℕ) (t₀ : List ℕ) (h : ℕ) (t : List ℕ) : Type 0 where
  pub size : length t ≡ 512
  pub most : (c : ℕ) → get_or t c 0 + h ≤ get_or t₀ c 0 + n

pub rising_more : {n h h' c : ℕ} {t₀ t t' : List ℕ} → Rising n t₀ h t → c < 512 → h' < h → t' ≡ set t c (get_or t c 0 + 1)
    → Rising n t₀ h' t'
rising_more {n} {h} {h'} {c} {t₀} {t} {t'} r g d e =
    let within : c < length t = omega (arith, r.size) in
    record {
      size = rw e (length-set t c (get_or t c 0 + 1) ∙ r.size);
      most = λ j. rw e (omega (arith, r.most j, more_at t c j within, one_at_most (eqb c j)));
    }

pub rising_end : {n h : ℕ} {t₀ t : List ℕ} → Rising n t₀ h t → Raised n t₀ t
rising_end r = record { size = r.size; most = λ c. omega (arith, r.most c) }

-- ---- what is left of a chain with the codes cs, from h on, makes with the tally t the whole
pub record Rest (next other : List ℕ) (h : ℕ) (cs t₀ t : List ℕ) : Type 0 where
  pub left : List ℕ
  pub chain : Chain next other h left
  pub so : (c : ℕ) → c < 512 → get_or t c 0 + times c left ≡ get_or t₀ c 0 + times c cs

module _ {next other : List ℕ} {h : ℕ} {cs t₀ t : List ℕ} where
  pub rest_more : {c h' : ℕ} {t' : List ℕ} → Rest next other h cs t₀ t → 0 < h → length t ≡ 512 → c < 512 → c ≡ get_or other (h - 1) 0
      → h' ≡ get_or next (h - 1) 0 → t' ≡ set t c (get_or t c 0 + 1) → Rest next other h' cs t₀ t'
  rest_more {c} {h'} {t'} r g w d p q e = go r.left r.chain r.so
    where
      go : (l : List ℕ) → Chain next other h l → ((j : ℕ) → j < 512 → get_or t j 0 + times j l ≡ get_or t₀ j 0 + times j cs)
          → Rest next other h' cs t₀ t'
      go [] z s = absurd (omega arith)
      go (x ∷ l) k s =
          let same : c ≡ x = p ∙ k.1 in
          record {
            left = l;
            chain = rw q k.2;
            so = λ j b. rw e (omega (arith, s j b, more_at t c j (omega arith), ap_one c x j same));
          }
        where
          ap_one : (a b j : ℕ) → a ≡ b → one_if (eqb a j) ≡ one_if (eqb b j)
          ap_one a b j f = rw f

  pub rest_end : Rest next other h cs t₀ t → h ≡ 0 → Tallied cs t₀ t
  rest_end r z = go r.left r.chain r.so
    where
      go : (l : List ℕ) → Chain next other h l → ((j : ℕ) → j < 512 → get_or t j 0 + times j l ≡ get_or t₀ j 0 + times j cs)
          → Tallied cs t₀ t
      go [] k s = record { counts = λ j b. omega (arith, s j b) }
      go (x ∷ l) k s = let above : 0 < h = k.0 in absurd (omega arith)

pub rest_start : {next other cs t : List ℕ} {h : ℕ} → Chain next other h cs → Rest next other h cs t t
rest_start {next} {other} {cs} {t} {h} k = record { left = cs; chain = k; so = λ c b. refl }

-- ---- after the chains of the vertices below m no entry is higher than they allow, and there is no gap
pub record Level (m : ℕ) (t : List ℕ) : Type 0 where
  pub size : length t ≡ 512
  pub most : (c : ℕ) → get_or t c 0 ≤ m * 2048
  pub no_gap : gap_of t ≡ 0

-- these vertices have as many sides up as down to each other vertex
abbrev pub EvenBelow : ℕ → List (ℕ × ℕ) → Type 0
EvenBelow m l = (i j : ℕ) → i < m → j < 256 → times j (codes_at i l) ≡ times (j + 256) (codes_at i l)

pub level_start : {t : List ℕ} → length t ≡ 512 → Blank t → Level 0 t
level_start {t} w z = record { size = w; most = λ c. omega (arith, z.zero c); no_gap = gap_none 256 t z.zero }

pub level_room : {m n : ℕ} {t : List ℕ} → Level m t → m < 256 → n ≤ 2048 → Room n t
level_room r h g = record { size = r.size; spare = λ c. omega (arith, r.most c) }

pub level_more : {m n : ℕ} {t t' : List ℕ} → Level m t → n ≤ 2048 → Raised n t t' → gap_of t' ≡ 0 → Level (m + 1) t'
level_more r g d e = record { size = d.size; most = λ c. omega (arith, r.most c, d.most c); no_gap = e }

-- the chain of the vertex m, whose first place is h
pub chain_at : {head next other : List ℕ} {m h : ℕ} {l : List (ℕ × ℕ)} → Lists head next other l → m < 256 → h ≡ get_or head m 0
    → Chain next other h (codes_at m l)
chain_at t g e = rw e (t.chain _ g)

-- a link that was read among the first v
pub record Among (head : List ℕ) (v i : ℕ) : Type 0 where
  pub below : i < v
  pub read : get_or (take v head) i 0 ≡ get_or head i 0

pub among : (head : List ℕ) (v i : ℕ) → i < length (take v head) → Among head v i
among head v i h =
    let below : i < v = omega (arith, length-take v head) in record { below = below; read = get_or-take v head i 0 below }

module _ (m : ℕ) (l : List (ℕ × ℕ)) {t t' : List ℕ} (z : gap_of t ≡ 0) (d : Tallied (codes_at m l) t t') where
  pub even_more : gap_of t' ≡ 0 → EvenBelow m l → EvenBelow (m + 1) l
  even_more z' e i j h g = go (ℕ_discrete i m)
    where
      go : Dec (i ≡ m) → times j (codes_at i l) ≡ times (j + 256) (codes_at i l)
      go (yes q) =
          rw q (omega (arith, d.counts j (omega arith), d.counts (j + 256) (omega arith), gap_zero 256 t z j g, gap_zero 256 t' z' j g))
      go (no q) = e i j (omega arith) g

  pub uneven_at : 0 < gap_of t' → Uneven l
  uneven_at p =
      let g = gap_some 256 t' p in
      let b : g.j < 256 = g.below in
      record {
        m = m;
        j = g.j;
        below = b;
        differ = λ e. g.differ
            (omega (arith, d.counts g.j (omega arith), d.counts (g.j + 256) (omega arith), gap_zero 256 t z g.j b));
      }

-- the answer
pub even_no : {v : ℕ} {l : List (ℕ × ℕ)} → Uneven l → Even v l false
even_no u = record { yes = λ e m j h g. absurd (let z : ◌≡◌ {A = ℕ} 0 1 = cc in omega arith); no = λ e. u }

pub even_yes : {v m : ℕ} (l : List (ℕ × ℕ)) → EvenBelow m l → v ≤ m → Even v l true
even_yes l t h = record { yes = λ e i j b g. t i j (omega arith) g; no = λ e. absurd (let z : ◌≡◌ {A = ℕ} 0 1 = cc in omega arith) }
