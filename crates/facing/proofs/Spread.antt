-- The list of faces that wait: a face that is reached comes last in it, the first that has not asked asks, and where all have
-- asked no reached face has a neighbour that is not reached. The list has room for every face, since none comes into it twice.
use mathlib.Core.Path.{◌≡◌, refl, sym, ◌∙◌}
use mathlib.Core.Logic.{◌⊎◌, inl, inr}
use mathlib.Core.List.{List, [], ◌∷◌}
use Prim.Native.Nat.{ℕ, zero, suc, ◌+◌, ◌<◌, ◌≤◌}
use native.Mathlib.Decide.{ℕ_discrete, dec_lt}
use native.Mathlib.Omega.{arith}
use lib.Dec.{eqb}
use lib.ListN.{length, get_or, set, length-set, get_or-eq_default}
use lib.Seq.{get_or-set_same, get_or-set_other}
use borrow.Author.Tests.{eq-eqb, ne_eqb}
use Rattle.exact.specs.Facing.{Twice, Share}
use Rattle.exact.proofs.Forced.{Opposed}
use Rattle.facing.specs.Steps.{code_choice, Going, unreached, Entry, Spread, Whole}
use Rattle.facing.proofs.Going.{reached_on, reached_now, reached_cases, going_asked, going_seeded, going_start}

-- ---- how many are not reached
unreached_one : (t : List ℕ) (k w : ℕ) → k < length t → get_or t k 0 ≡ 0 → 0 < w → unreached t ≡ suc (unreached (set t k w))
unreached_one [] k w h un hw = absurd (omega arith)
unreached_one (x ∷ t) zero w h un hw = rw (eq-eqb x 0 un, ne_eqb w 0 (λ e. omega arith)) (omega arith)
unreached_one (x ∷ t) (suc k) w h un hw = omega (arith, unreached_one t k w (omega arith) un hw)

unreached_none : (t : List ℕ) (k : ℕ) → k < length t → unreached t ≡ 0 → 0 < get_or t k 0
unreached_none t k h e = go (dec_lt 0 (get_or t k 0))
  where
    go : Dec (0 < get_or t k 0) → 0 < get_or t k 0
    go (yes p) = p
    go (no n) = absurd (omega (arith, unreached_one t k 1 h (omega arith) (omega arith)))

unreached_all : (t : List ℕ) → ((k : ℕ) → get_or t k 0 ≡ 0) → unreached t ≡ length t
unreached_all [] z = refl
unreached_all (x ∷ t) z = rw (eq-eqb x 0 (z 0)) (omega (arith, unreached_all t (λ k. z (suc k))))

-- where all before f are reached, and f is, all before f + 1 are
pub reached_next : (t : List ℕ) (f : ℕ) → ((m : ℕ) → m < f → 0 < get_or t m 0) → 0 < get_or t f 0 → (m : ℕ) → m < f + 1 → 0 < get_or t m 0
reached_next t f h g m b = go (ℕ_discrete m f)
  where
    go : Dec (m ≡ f) → 0 < get_or t m 0
    go (yes e) = rw e g
    go (no n) = h m (omega arith)

-- past the last face none is reached
pub reached_below : (t : List ℕ) (f : ℕ) → 0 < get_or t f 0 → f < length t
reached_below t f h = go (dec_lt f (length t))
  where
    go : Dec (f < length t) → f < length t
    go (yes q) = q
    go (no n) = absurd (omega (arith, get_or-eq_default t 0 {n = f} (omega arith)))

pub low_within : (t : List ℕ) (low : ℕ) → ((m : ℕ) → m < low → 0 < get_or t m 0) → low ≤ length t
low_within t low h = go (dec_lt (length t) low)
  where
    go : Dec (length t < low) → low ≤ length t
    go (yes q) = absurd (omega (arith, reached_below t (length t) (h (length t) q)))
    go (no n) = omega arith

-- where some are not reached, the first that is not is one of the faces
pub first_below : (t : List ℕ) (f : ℕ) → ((m : ℕ) → m < f → 0 < get_or t m 0) → f ≤ length t → 0 < unreached t → f < length t
first_below t f h b u = go (dec_lt f (length t))
  where
    none : (t : List ℕ) → ((m : ℕ) → m < length t → 0 < get_or t m 0) → unreached t ≡ 0
    none [] r = refl
    none (x ∷ t) r = rw (ne_eqb x 0 (λ e. omega (arith, r 0 (omega arith)))) (omega (arith, none t (λ m q. r (suc m) (omega arith))))

    go : Dec (f < length t) → f < length t
    go (yes q) = q
    go (no n) = absurd (omega (arith, none t (λ m q. h m (omega arith))))

-- ---- the list with one more at place n
module _ (list : List ℕ) (n g : ℕ) (room : n < length list) where
  pub last_in : get_or (set list n g) n 0 ≡ g
  last_in = get_or-set_same list n g 0 room

  pub still_in : (p : ℕ) → p < n → get_or (set list n g) p 0 ≡ get_or list p 0
  still_in p h = get_or-set_other list n p g 0 (λ e. omega arith)

module _ {fs : List (List ℕ)} {t list : List ℕ} {low head tail : ℕ} (s : Spread fs t list low head tail) where
  -- where a face is not reached the list has room for it
  pub spread_room : (g : ℕ) → g < length t → get_or t g 0 ≡ 0 → tail < length list
  spread_room g h un = omega (arith, unreached_one t g 1 h un (omega arith), s.counted, s.places)

  -- the first that has not asked is one of the faces
  pub spread_first : head < tail → get_or list head 0 < length t
  spread_first h = reached_below t (get_or list head 0) (s.entered head h)

  -- ---- a face g is reached
  module _ (g w : ℕ) (hg : g < length t) (un : get_or t g 0 ≡ 0) (hw : 0 < w) where
    room : tail < length list
    room = spread_room g hg un

    entered_on : (p : ℕ) → p < tail + 1 → Dec (p ≡ tail) → 0 < get_or (set t g w) (get_or (set list tail g) p 0) 0
    entered_on p h (yes e) = rw (e, last_in list tail g room) (reached_now t g w hg un hw)
    entered_on p h (no n) =
        let b : p < tail = omega arith in
        rw (still_in list tail g room p b) (reached_on t g w hg un hw (get_or list p 0) (s.entered p b))

    listed_on : (f : ℕ) → (f ≡ g) ⊎ (0 < get_or t f 0) → Entry (set list tail g) (tail + 1) f
    listed_on f (inl e) = record { place = tail; before = omega arith; is = last_in list tail g room ∙ sym e }
    listed_on f (inr h) =
        let n = s.listed f h in
        let b = n.before in
        record { place = n.place; before = omega arith; is = still_in list tail g room n.place b ∙ n.is }

    pub spread_reach : (low' : ℕ) → Going fs (set t g w) → ((f : ℕ) → f < low' → 0 < get_or (set t g w) f 0)
        → Spread fs (set t g w) (set list tail g) low' head (tail + 1)
    spread_reach low' going below =
        let o = s.order in
        record {
          going = going;
          codes = length-set t g w ∙ s.codes;
          places = length-set list tail g ∙ s.places;
          counted = omega (arith, s.counted, unreached_one t g w hg un hw);
          order = omega arith;
          below = below;
          entered = λ p h. entered_on p h (ℕ_discrete p tail);
          listed = λ f h. listed_on f (reached_cases t g w hg un hw f h);
          asked = λ p h f sh. asked_on p h f sh;
        }
      where
        asked_on : (p : ℕ) → p < head → (f : ℕ) → Share fs (get_or (set list tail g) p 0) f → 0 < get_or (set t g w) f 0
        asked_on p h f sh =
            let b : p < tail = omega (arith, s.order) in
            reached_on t g w hg un hw f (s.asked p h f (rw (still_in list tail g room p b) at sh))

    -- g is reached by a neighbour f that was before, against which the code w turns it
    pub spread_asked : Twice fs → (f : ℕ) → 0 < get_or t f 0 → (sh : Share fs f g) → Opposed fs sh.i sh.j f g (code_choice t f) (eqb w 2)
        → Spread fs (set t g w) (set list tail g) low head (tail + 1)
    spread_asked tw f hf sh op =
        spread_reach low (going_asked fs tw t g w hg un hw s.going f hf sh op) (λ m h. reached_on t g w hg un hw m (s.below m h))

  -- ---- all have asked
  all_asked : tail ≤ head → (a b : ℕ) → 0 < get_or t a 0 → Share fs a b → 0 < get_or t b 0
  all_asked h a b ha sh =
      let n = s.listed a ha in
      let p = n.before in
      s.asked n.place (omega arith) b (rw n.is sh)

  -- where all have asked, the lowest face that is not reached keeps its direction
  pub spread_seed : (k : ℕ) → k < length t → get_or t k 0 ≡ 0 → tail ≤ head → ((m : ℕ) → m < k → 0 < get_or t m 0)
      → Spread fs (set t k 1) (set list tail k) k head (tail + 1)
  spread_seed k hk un h below =
      spread_reach k 1 hk un (omega arith) k (going_seeded fs t k hk un s.going below (all_asked h))
      (λ m q. reached_on t k 1 hk un (omega arith) m (below m q))

  -- ---- the first that has not asked has asked
  pub spread_on : head < tail → ((g : ℕ) → Share fs (get_or list head 0) g → 0 < get_or t g 0) → Spread fs t list low (head + 1) tail
  spread_on h all =
      record {
        going = s.going;
        codes = s.codes;
        places = s.places;
        counted = s.counted;
        order = omega arith;
        below = s.below;
        entered = s.entered;
        listed = s.listed;
        asked = λ p q g sh. go p q g sh (ℕ_discrete p head);
      }
    where
      go : (p : ℕ) → p < head + 1 → (g : ℕ) → Share fs (get_or list p 0) g → Dec (p ≡ head) → 0 < get_or t g 0
      go p q g sh (yes e) = all g (rw e at sh)
      go p q g sh (no n) = s.asked p (omega arith) g sh

  -- ---- there are as many in the list as faces
  pub spread_whole : length fs ≤ head → Whole fs t
  spread_whole h =
      let none : unreached t ≡ 0 = omega (arith, s.order, s.counted) in
      record { going = s.going; codes = s.codes; all = λ f q. unreached_none t f (omega (arith, s.codes)) none }

  -- while a face has not asked, one is not reached or waits
  pub spread_some : head < length fs → tail ≤ head → 0 < unreached t
  spread_some h g = omega (arith, s.counted)

pub spread_start : (fs : List (List ℕ)) (t list : List ℕ) → ((k : ℕ) → get_or t k 0 ≡ 0) → length t ≡ length fs → length list ≡ length fs
    → Spread fs t list 0 0 0
spread_start fs t list z e l = record {
  going = going_start fs t z;
  codes = e;
  places = l;
  counted = omega (arith, unreached_all t z);
  order = omega arith;
  below = λ f h. absurd (omega arith);
  entered = λ p h. absurd (omega arith);
  listed = λ f h. absurd (omega (arith, z f));
  asked = λ p h. absurd (omega arith);
}
