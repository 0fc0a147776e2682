-- Doubled points: the loop of space_out, which works in place, and what is left of a list when the last point goes.
use mathlib.Core.Path.{◌≡◌, refl, sym, ap, ◌∙◌}
use mathlib.Core.Bool.{Bool, true, false, ◌&&◌, cond}
use mathlib.Core.List.{List, [], ◌∷◌, ◌++◌}
use Prim.Native.Nat.{ℕ, suc, ◌+◌, ◌-◌, ◌<◌, ◌≤◌, zero-le}
use native.Mathlib.Nat.{not-suc-le-zero, add-zero}
use native.Mathlib.Omega.{arith}
use lib.ListN.{length, get_or, set, take, drop, drop_of_length-le, length-take}
use lib.Dec.{ltb}
use borrow.Author.Tests.{lt-ltb, le-ltb}
use lib.Seq.{drop-drop, drop-set-lt, get_or-drop, take-length, take-take, length-take-le}
use lib.Ieee.{Float, lt, le}
use Rattle.places.proofs.Loops.{drop_more}
use Rattle.flat.specs.Points.{Point}
use Rattle.work_lists.specs.Steps.{laid_from, Filled}
use Rattle.work_lists.proofs.Filling.{Rest, rest_more, rest_end, filled_one, filled_read}
use Rattle.clip_step.specs.Doubled.{dist3_of, spaced_from, spaced_of, opened_of, doubled_within, without_doubled}

-- the points from place i on are left to look at and stand as they were; `last` was kept last, as one of `kept`
pub record Spacing (eps : Float) (ps : List Point) (last : Point) (kept i : ℕ) (l : List Point) : Type 0 where
  pub within : i ≤ length ps
  pub few : kept ≤ i
  pub same : drop i l ≡ drop i ps
  pub rest : Rest (spaced_of eps ps) ps kept (spaced_from eps last (drop i ps)) l

pub spacing_start : {eps : Float} {ps : List Point} {last : Point} → 0 < length ps → last ≡ get_or ps 0 [] → Spacing eps ps last 1 1 ps
unfolding spaced_of laid_from
spacing_start {ps = []} h e = absurd (not-suc-le-zero h)
spacing_start {ps = p ∷ ps} h e =
    record { within = h; few = omega arith; same = refl; rest = rw e (record { count = omega arith; list = refl }) }

module _ {eps : Float} {ps : List Point} {last : Point} {kept i : ℕ} {l : List Point} (q : Spacing eps ps last kept i l) where
  -- the point that is read is the one that stood there
  read : get_or l i [] ≡ get_or ps i []
  read =
      sym (ap (λ k. get_or l k []) (add-zero i)) ∙ sym (get_or-drop i l 0 []) ∙ ap (λ (r : List Point). get_or r 0 []) q.same
      ∙ get_or-drop i ps 0 [] ∙ ap (λ k. get_or ps k []) (add-zero i)

  beyond : drop (i + 1) l ≡ drop (i + 1) ps
  beyond = sym (drop-drop 1 i l) ∙ ap (drop 1) q.same ∙ drop-drop 1 i ps

  pub spacing_drop : {p : Point} → i < length ps → p ≡ get_or l i [] → lt eps (dist3_of p last) ≡ false → Spacing eps ps last kept (i + 1) l
  unfolding spaced_from
  spacing_drop {p} h e f =
      let s : get_or ps i [] ≡ p = sym (e ∙ read) in
      record { within = omega arith; few = omega (arith, q.few); same = beyond; rest = rw (drop_more ps i [] h, s, f) at q.rest }

  pub spacing_keep : {p : Point} {l' : List Point} → i < length ps → p ≡ get_or l i [] → lt eps (dist3_of p last) ≡ true
      → l' ≡ set l kept p → Spacing eps ps p (kept + 1) (i + 1) l'
  unfolding spaced_from
  spacing_keep {p} {l'} h e f o =
      let s : get_or ps i [] ≡ p = sym (e ∙ read) in
      let kept-too = (p ∷ []) ++ spaced_from eps p (drop (i + 1) ps) in
      let next : Rest (spaced_of eps ps) ps kept kept-too l = rw (drop_more ps i [] h, s, f) at q.rest in
      record {
        within = omega arith;
        few = omega (arith, q.few);
        same = rw o (drop-set-lt (i + 1) l kept p (omega (arith, q.few)) ∙ beyond);
        rest = rest_more next (filled_one refl o);
      }

  pub spacing_end : length ps ≤ i → (kept ≡ length (spaced_of eps ps)) × (take kept l ≡ spaced_of eps ps)
  unfolding spaced_from
  spacing_end h =
      let o : Filled (spaced_of eps ps) 0 ps kept l = rest_end (rw (drop_of_length-le ps h) at q.rest) in
      (omega (arith, o.count), filled_read o (omega (arith, q.few, q.within)))

-- no more points than before
spaced_from_few : (eps : Float) (last : Point) (ps : List Point) → length (spaced_from eps last ps) ≤ length ps
unfolding spaced_from
spaced_from_few eps last [] = zero-le
spaced_from_few eps last (p ∷ ps) = go (lt eps (dist3_of p last)) (spaced_from_few eps p ps) (spaced_from_few eps last ps)
  where
    go : (b : Bool) → length (spaced_from eps p ps) ≤ length ps → length (spaced_from eps last ps) ≤ length ps
        → length (cond b (p ∷ spaced_from eps p ps) (spaced_from eps last ps)) ≤ suc (length ps)
    go true f g = omega arith
    go false f g = omega arith

pub spaced_few : (eps : Float) (ps : List Point) → length (spaced_of eps ps) ≤ length ps
unfolding spaced_of
spaced_few eps [] = zero-le
spaced_few eps (p ∷ ps) = omega (arith, spaced_from_few eps p ps)

-- ---- the last point goes where it doubles the first
pub opened_short : (eps : Float) (ps : List Point) → length ps < 2 → length ps ≡ length (opened_of eps ps)
unfolding opened_of
opened_short eps ps h = rw (le-ltb 1 (length ps) (omega arith))

pub opened_long : (eps : Float) (ps : List Point) {a b : Point} {near : Bool} → 2 ≤ length ps → a ≡ get_or ps 0 []
    → b ≡ get_or ps (length ps - 1) [] → near ≡ le (dist3_of a b) eps
    → cond near (length ps - 1) (length ps) ≡ length (opened_of eps ps)
unfolding opened_of
opened_long eps ps {near = near} h e f g =
    let is : le (dist3_of (get_or ps 0 []) (get_or ps (length ps - 1) [])) eps ≡ near = sym (rw (← e, ← f) g) in
    rw (lt-ltb 1 (length ps) (omega arith), is) (go near)
  where
    go : (b : Bool) → cond b (length ps - 1) (length ps) ≡ length (cond b (take (length ps - 1) ps) ps)
    go true = sym (length-take-le (length ps - 1) ps (omega arith))
    go false = refl

-- what is left stands at the front
opened_few : (eps : Float) (ps : List Point) → length (opened_of eps ps) ≤ length ps
unfolding opened_of
opened_few eps ps = go (ltb 1 (length ps) && le (dist3_of (get_or ps 0 []) (get_or ps (length ps - 1) [])) eps)
  where
    go : (b : Bool) → length (cond b (take (length ps - 1) ps) ps) ≤ length ps
    go true = omega (arith, length-take (length ps - 1) ps)
    go false = omega arith

opened_front : (eps : Float) (ps : List Point) → take (length (opened_of eps ps)) ps ≡ opened_of eps ps
unfolding opened_of
opened_front eps ps = go (ltb 1 (length ps) && le (dist3_of (get_or ps 0 []) (get_or ps (length ps - 1) [])) eps)
  where
    go : (b : Bool) → take (length (cond b (take (length ps - 1) ps) ps)) ps ≡ cond b (take (length ps - 1) ps) ps
    go true = ap (λ k. take k ps) (length-take-le (length ps - 1) ps (omega arith))
    go false = take-length ps

-- ---- both: the points of a list, spaced out at the front of it, and of these those that are left
module _ (vs vs' : List Point) {eps : Float} {n r : ℕ} {part : List Point} where
  pub doubled_dropped : eps ≡ doubled_within vs → (n ≡ length (spaced_of eps vs)) × (take n vs' ≡ spaced_of eps vs)
      → part ≡ take n vs' → r ≡ length (opened_of eps part)
      → (r ≡ length (without_doubled vs)) × (take r vs' ≡ without_doubled vs)
  unfolding without_doubled
  doubled_dropped e s p o =
      let q : part ≡ spaced_of eps vs = p ∙ s.1 in
      let few : r ≤ n = rw (o, q, s.0) (opened_few eps (spaced_of eps vs)) in
      let left : opened_of eps part ≡ opened_of (doubled_within vs) (spaced_of (doubled_within vs) vs) = rw (q, e) in
      (o ∙ ap length left, sym (take-take r n vs' few) ∙ rw (← p, o) (opened_front eps part ∙ left))

-- no point, none left
pub none_doubled : (vs : List Point) → length vs ≡ 0 → (0 ≡ length (without_doubled vs)) × (take 0 vs ≡ without_doubled vs)
unfolding without_doubled opened_of spaced_of
none_doubled [] h = (refl, refl)
none_doubled (v ∷ vs) h = absurd (omega arith)
