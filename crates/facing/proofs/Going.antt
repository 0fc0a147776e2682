-- The steps of the pass: a face that a reached face asks, the lowest face that is not reached where none is left to ask, and the end.
-- A face that is asked has the root of the face that asks it, and every choice that closes turns the two against each other in one way.
use mathlib.Core.Path.{◌≡◌, refl, sym, ◌∙◌}
use mathlib.Core.Logic.{◌≢◌, ◌⊎◌, inl, inr}
use mathlib.Core.Bool.{Bool, true, false, false≢true}
use mathlib.Core.List.{List}
use Prim.Native.Nat.{ℕ, ◌<◌, ◌≤◌}
use native.Mathlib.Decide.{ℕ_discrete, dec_lt}
use native.Mathlib.Omega.{arith}
use lib.Dec.{eqb}
use lib.ListN.{length, get_or, set}
use lib.Seq.{get_or-set_same, get_or-set_other}
use Rattle.exact.specs.Sides.{Closed}
use Rattle.exact.specs.Facing.{reversed_by, Twice, Share, Group, itself, over, Lowest, Made}
use Rattle.exact.proofs.Reversed.{in_range}
use Rattle.exact.proofs.Forced.{differ, share_sym, group_back, Opposed, opposed, same_way, carries}
use Rattle.facing.specs.Steps.{code_choice, Root, Lower, Going}

-- ---- one more code, at k
module _ (t : List ℕ) (k w : ℕ) (hk : k < length t) (un : get_or t k 0 ≡ 0) (hw : 0 < w) where
  at_k : get_or (set t k w) k 0 ≡ w
  at_k = get_or-set_same t k w 0 hk

  at_other : (m : ℕ) → m ≢ k → get_or (set t k w) m 0 ≡ get_or t m 0
  at_other m n = get_or-set_other t k m w 0 n

  pub reached_ne : (m : ℕ) → 0 < get_or t m 0 → m ≢ k
  reached_ne m h e = let q : get_or t m 0 ≡ get_or t k 0 = rw e in omega arith

  -- who is reached stays so, with the same code
  pub code_on : (m : ℕ) → 0 < get_or t m 0 → get_or (set t k w) m 0 ≡ get_or t m 0
  code_on m h = at_other m (reached_ne m h)

  pub reached_on : (m : ℕ) → 0 < get_or t m 0 → 0 < get_or (set t k w) m 0
  reached_on m h = rw (code_on m h) h

  pub reached_now : 0 < get_or (set t k w) k 0
  reached_now = rw at_k hw

  pub reached_cases : (m : ℕ) → 0 < get_or (set t k w) m 0 → (m ≡ k) ⊎ (0 < get_or t m 0)
  reached_cases m h = go (ℕ_discrete m k)
    where
      go : Dec (m ≡ k) → (m ≡ k) ⊎ (0 < get_or t m 0)
      go (yes e) = inl e
      go (no n) = inr (rw (at_other m n) at h)

  root_on : (fs : List (List ℕ)) (f : ℕ) → Root fs t f → Root fs (set t k w) f
  root_on fs f r = record { s = r.s; to = r.to; upto = λ m h. reached_on m (r.upto m h) }

  -- what is left to show of a new code: its root, that the face is not the lowest if it is reversed, and that the code is forced
  grown : (fs : List (List ℕ)) → Going fs t → Root fs (set t k w) k → (eqb w 2 ≡ true → Lower fs k)
      → ((d : ℕ → Bool) → Closed (reversed_by d fs) → (b : ℕ) → 0 < get_or t b 0 → Group fs k b
      → differ (eqb w 2) (d k) ≡ differ (code_choice t b) (d b))
      → Going fs (set t k w)
  grown fs g r l h = record { rooted = rooted; low = low; forced = forced }
    where
      rooted : (f : ℕ) → 0 < get_or (set t k w) f 0 → Root fs (set t k w) f
      rooted f p = go (reached_cases f p)
        where
          go : (f ≡ k) ⊎ (0 < get_or t f 0) → Root fs (set t k w) f
          go (inl e) = rw e r
          go (inr q) = root_on fs f (g.rooted f q)

      low : (f : ℕ) → code_choice (set t k w) f ≡ true → Lower fs f
      low f p = go (ℕ_discrete f k)
        where
          go : Dec (f ≡ k) → Lower fs f
          go (yes e) = rw e (l (rw (e, at_k) at p))
          go (no n) = g.low f (rw (at_other f n) at p)

      forced : (d : ℕ → Bool) → Closed (reversed_by d fs) → (a b : ℕ) → 0 < get_or (set t k w) a 0 → 0 < get_or (set t k w) b 0
          → Group fs a b
          → differ (code_choice (set t k w) a) (d a) ≡ differ (code_choice (set t k w) b) (d b)
      forced d closes a b p q j = go (reached_cases a p) (reached_cases b q)
        where
          go : (a ≡ k) ⊎ (0 < get_or t a 0) → (b ≡ k) ⊎ (0 < get_or t b 0)
              → differ (code_choice (set t k w) a) (d a) ≡ differ (code_choice (set t k w) b) (d b)
          go (inl e) (inl o) = rw (e, o)
          go (inl e) (inr y) = let j' : Group fs k b = rw e at j in rw (e, at_k, code_on b y) (h d closes b y j')
          go (inr x) (inl o) = let j' : Group fs a k = rw o at j in rw (o, at_k, code_on a x) (sym (h d closes a x (group_back j')))
          go (inr x) (inr y) = rw (code_on a x, code_on b y) (g.forced d closes a b x y j)

-- a reached face f shares a side with the face k, which is not, and the code w turns k against f
pub going_asked : (fs : List (List ℕ)) → Twice fs → (t : List ℕ) (k w : ℕ) → k < length t → get_or t k 0 ≡ 0 → 0 < w → Going fs t
    → (f : ℕ) → 0 < get_or t f 0 → (s : Share fs f k) → Opposed fs s.i s.j f k (code_choice t f) (eqb w 2) → Going fs (set t k w)
going_asked fs tw t k w hk un hw g f hf s op =
    let r = g.rooted f hf in
    let back : Group fs k r.s = over (share_sym s) r.to in
    grown t k w hk un hw fs g
    (record { s = r.s; to = back; upto = λ m h. reached_on t k w hk un hw m (r.upto m h) })
    (λ e. record { m = r.s; less = below (dec_lt r.s k); to = back })
    (λ d closes b hb j. sym (edge d closes) ∙ g.forced d closes f b hf hb (over s j))
  where
    below : Dec ((g.rooted f hf).s < k) → (g.rooted f hf).s < k
    below (yes h) = h
    below (no n) = absurd (omega (arith, un, (g.rooted f hf).upto k (omega arith)))

    edge : (d : ℕ → Bool) → Closed (reversed_by d fs) → differ (code_choice t f) (d f) ≡ differ (eqb w 2) (d k)
    edge d closes =
        let ne : f ≢ k = reached_ne t k w hk un hw f hf in
        same_way fs tw s.i s.j f k s.apart ne s.one s.other (code_choice t f) (eqb w 2) (d f) (d k) op
        (opposed fs tw s.i s.j f k s.apart ne s.one s.other d closes)

-- where no reached face has a neighbour that is not, a group is reached whole or not at all
pub group_reached : (fs : List (List ℕ)) (t : List ℕ) → ((a b : ℕ) → 0 < get_or t a 0 → Share fs a b → 0 < get_or t b 0)
    → {a b : ℕ} → Group fs a b → 0 < get_or t a 0 → 0 < get_or t b 0
group_reached fs t h itself p = p
group_reached fs t h (over {f = f} {g = g} s j) p = group_reached fs t h j (h f g p s)

-- where no reached face has a neighbour that is not, the lowest face k that is not reached keeps its direction
pub going_seeded : (fs : List (List ℕ)) (t : List ℕ) (k : ℕ) → k < length t → get_or t k 0 ≡ 0 → Going fs t
    → ((m : ℕ) → m < k → 0 < get_or t m 0) → ((a b : ℕ) → 0 < get_or t a 0 → Share fs a b → 0 < get_or t b 0) → Going fs (set t k 1)
going_seeded fs t k hk un g below apart =
    grown t k 1 hk un (omega arith) fs g
    (record { s = k; to = itself; upto = λ m h. upto m h (ℕ_discrete m k) })
    (λ e. absurd (false≢true e))
    (λ d closes b hb j. absurd (omega (arith, un, group_reached fs t apart (group_back j) hb)))
  where
    upto : (m : ℕ) → m ≤ k → Dec (m ≡ k) → 0 < get_or (set t k 1) m 0
    upto m h (yes e) = rw e (reached_now t k 1 hk un (omega arith))
    upto m h (no n) = reached_on t k 1 hk un (omega arith) m (below m (omega arith))

-- the start, where no face is reached
pub going_start : (fs : List (List ℕ)) (t : List ℕ) → ((k : ℕ) → get_or t k 0 ≡ 0) → Going fs t
going_start fs t z = record {
  rooted = λ f h. absurd (omega (arith, z f));
  low = λ f e. absurd (false≢true (rw (z f) at e));
  forced = λ d closes f g p q j. absurd (omega (arith, z f));
}

module _ (fs : List (List ℕ)) (t : List ℕ) (g : Going fs t) where
  -- the choice that the codes make keeps the direction of the lowest face of each group
  keeps : (k : ℕ) → Lowest fs k → code_choice t k ≡ false
  keeps k low = go (code_choice t k) refl
    where
      go : (b : Bool) → code_choice t k ≡ b → b ≡ false
      go false e = refl
      go true e = absurd (low (g.low k e).m (g.low k e).less (g.low k e).to)

  pub going_made : Closed (reversed_by (code_choice t) fs) → Made fs (code_choice t)
  going_made closes = record { closes = closes; keeps = keeps }

  -- where all faces are reached and any choice closes the cell, the choice that the codes make does
  pub closes_if : ((k : ℕ) → k < length fs → 0 < get_or t k 0) → (d : ℕ → Bool) → Closed (reversed_by d fs)
      → Closed (reversed_by (code_choice t) fs)
  closes_if all d closes =
      carries fs (code_choice t) d
      (λ a b s.
      let ha = all a (in_range s.i s.j fs a s.one) in
      let hb = all b (in_range s.i s.j fs b s.other) in
      g.forced d closes a b ha hb (over s itself))
      closes
