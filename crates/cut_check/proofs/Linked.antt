-- The corners of each place in a chain, for `link` and for the loops that go along a chain: a corner that is put before the first
-- of a chain leaves every chain as it was, since the corners of a chain come before it.
use mathlib.Core.Path.{◌≡◌, sym, ◌∙◌, subst}
use mathlib.Core.Logic.{◌≢◌}
use mathlib.Core.Bool.{Bool, true, false, cond}
use mathlib.Core.List.{List, [], ◌∷◌}
use Prim.Native.Nat.{ℕ, zero, suc, ◌+◌, ◌-◌, ◌<◌, ◌≤◌}
use native.Mathlib.Decide.{ℕ_discrete}
use native.Mathlib.Numerals.{add-one}
use native.Mathlib.Omega.{arith}
use lib.Dec.{eqb}
use lib.ListN.{length, get_or, set}
use lib.Seq.{get_or-set_same, get_or-set_other}
use borrow.Author.Tests.{eq-eqb, ne_eqb}
use Rattle.places.specs.Steps.{Blank}
use Rattle.places.proofs.Stamps.{set_holds}
use Rattle.cut_check.specs.Steps.{corners_at, Chain, Lists, Linked}

-- the chain of a place starts at one of the first s corners, or is empty
pub chain_within : (next c : List ℕ) (a h s : ℕ) → Chain next h (corners_at a c s) → h ≤ s
unfolding corners_at
chain_within next c a h zero t = omega arith
chain_within next c a h (suc s) t = go (eqb (get_or c s 0) a) t (chain_within next c a h s)
  where
    go : (b : Bool) → Chain next h (cond b (s ∷ corners_at a c s) (corners_at a c s))
        → (Chain next h (corners_at a c s) → h ≤ s) → h ≤ suc s
    go true t earlier = omega (arith, t.0)
    go false t earlier = omega (arith, earlier t)

-- ---- before the first corner
pub lists_start : {head next c : List ℕ} → Blank head → Lists head next c 0
unfolding corners_at
lists_start z = record { chain = λ a. omega (arith, z.zero a) }

-- ---- one more corner
-- what is stored at a corner that a chain does not reach leaves the chain as it is
chain_keep : (next : List ℕ) (s x h : ℕ) (ps : List ℕ) → ((p : ℕ) → get_or next p 0 ≤ p) → h ≤ s → Chain next h ps
    → Chain (set next s x) h ps
chain_keep next s x h [] back g t = t
chain_keep next s x h (p ∷ ps) back g t =
    let start : h ≡ p + 1 = t.0 in
    let n : p ≢ s = λ e. absurd (omega arith) in
    let rest = chain_keep next s x (get_or next p 0) ps back (omega (arith, back p)) t.1 in
    (start, rw (get_or-set_other next s p x 0 n) rest)

pub linked_start : {head next c : List ℕ} → Blank head → Blank next → Linked head next c 0
linked_start first rest = record { back = λ p. omega (arith, rest.zero p); lists = lists_start first }

pub linked_more : {head next c : List ℕ} {s : ℕ} (a : ℕ) → Linked head next c s → s < length next → a ≡ get_or c s 0 → a < length head
    → Linked (set head a (s + 1)) (set next s (get_or head a 0)) c (s + 1)
unfolding corners_at
linked_more {head} {next} {c} {s} a k h e g = record {
  back = set_holds (λ p z. z ≤ p) next s (get_or head a 0) (chain_within next c a (get_or head a 0) s (k.lists.chain a)) k.back;
  lists = record { chain = λ i. rw (add-one s) (go i (ℕ_discrete i a)) };
}
  where
    kept : (i : ℕ) → Chain (set next s (get_or head a 0)) (get_or head i 0) (corners_at i c s)
    kept i =
        chain_keep next s (get_or head a 0) (get_or head i 0) (corners_at i c s) k.back (chain_within next c i _ s (k.lists.chain i))
        (k.lists.chain i)

    top : Chain (set next s (get_or head a 0)) (suc s) (s ∷ corners_at a c s)
    top = (sym (add-one s), rw (get_or-set_same next s (get_or head a 0) 0 h) (kept a))

    go : (i : ℕ) → Dec (i ≡ a) → Chain (set next s (get_or head a 0)) (get_or (set head a (suc s)) i 0) (corners_at i c (suc s))
    go i (yes q) =
        subst (λ (z : ℕ). Chain (set next s (get_or head a 0)) (get_or (set head a (suc s)) z 0) (corners_at z c (suc s))) (sym q)
        (rw (get_or-set_same head a (suc s) 0 g, eq-eqb (get_or c s 0) a (sym e)) top)
    go i (no n) = rw (get_or-set_other head a i (suc s) 0 n, ne_eqb (get_or c s 0) i (λ z. n (sym z ∙ sym e))) (kept i)

-- the chains alone, where each link goes back
pub lists_more : {head next c : List ℕ} {s : ℕ} (a : ℕ) → ((p : ℕ) → get_or next p 0 ≤ p) → Lists head next c s → s < length next
    → a ≡ get_or c s 0 → a < length head → Lists (set head a (s + 1)) (set next s (get_or head a 0)) c (s + 1)
lists_more a back t h e g = (linked_more a (record { back = back; lists = t }) h e g).lists

-- ---- along a chain
-- from h on a list of corners is left, of which P holds
pub record Along (next : List ℕ) (h : ℕ) (P : List ℕ → Type 0) : Type 0 where
  pub left : List ℕ
  pub chain : Chain next h left
  pub so : P left

module _ {next : List ℕ} {h : ℕ} {P : List ℕ → Type 0} where
  -- the next corner is h - 1
  pub along_at : {R : Type 0} → Along next h P → 0 < h
      → ((ps : List ℕ) → Chain next (get_or next (h - 1) 0) ps → P ((h - 1) ∷ ps) → R) → R
  along_at {R} r g f = go r.left r.chain r.so
    where
      go : (l : List ℕ) → Chain next h l → P l → R
      go [] z q = absurd (omega arith)
      go (p ∷ l) k q =
          let start : h ≡ p + 1 = k.0 in
          let e : p ≡ h - 1 = omega arith in
          f l (rw e at k.1) (rw e at q)

  pub along_more : {Q : List ℕ → Type 0} {h' : ℕ} → Along next h P → 0 < h → h' ≡ get_or next (h - 1) 0
      → ((ps : List ℕ) → P ((h - 1) ∷ ps) → Q ps) → Along next h' Q
  along_more r g e f = along_at r g (λ ps k q. record { left = ps; chain = rw e k; so = f ps q })

  pub along_end : Along next h P → h ≡ 0 → P []
  along_end r z = go r.left r.chain r.so
    where
      go : (l : List ℕ) → Chain next h l → P l → P []
      go [] k q = q
      go (p ∷ l) k q = let start : h ≡ p + 1 = k.0 in absurd (omega arith)
