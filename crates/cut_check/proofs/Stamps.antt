-- The stamps, for `stamp_before`, `take_after` and `paired_at`: a place has the one to come exactly where it is written, and taking stamps
-- off one after the other succeeds exactly where no place is asked for twice and none that has no stamp.
use mathlib.Core.Path.{◌≡◌, refl, sym, ◌∙◌}
use mathlib.Core.Logic.{◌↔◌, ◌≢◌, by_cases}
use mathlib.Core.Bool.{Bool, true, false, false≢true, ◌&&◌, cond}
use mathlib.Core.List.{List, [], ◌∷◌, ◌++◌, map}
use Prim.Native.Nat.{ℕ, ◌+◌, ◌-◌, ◌<◌, ◌≤◌}
use native.Mathlib.Decide.{ℕ_discrete, dec_lt}
use native.Mathlib.Omega.{arith}
use lib.Dec.{eqb, ltb}
use lib.ListN.{length, get_or, set, take, replicate, length-set}
use lib.Seq.{get_or-set_same, get_or-set_other}
use borrow.Author.Tests.{eq-eqb, ne_eqb, lt-ltb, le-ltb}
use Rattle.places.specs.Lists.{Each}
use Rattle.places.specs.Loops.{one_if, count_of}
use Rattle.places.specs.Steps.{Blank, Fresh}
use Rattle.places.proofs.Lists.{first_of, each_head, each_tail}
use Rattle.places.proofs.Loops.{one_at_most}
use Rattle.places.proofs.Stamps.{blank_part, fresh_set}
use Rattle.cut_check.specs.Steps.{times, Chain, set_all, taken, Took}
use Rattle.cut_check.proofs.Linked.{Along, along_at, along_more, along_end}

-- ---- lists of zeros
-- the first n and m places of arrays of zeros: how many they are, and that they are zeros
pub lists_lent : (n m k j : ℕ) → n ≤ k → m ≤ j →
    let one : List ℕ = take n (replicate k 0) in
    let other : List ℕ = take m (replicate j 0) in
    ((length one ≡ n) × (length one ≡ n) × (length other ≡ m)) × (Blank one × Blank one × Blank other)
lists_lent n m k j h g =
    let one = sym (first_of {A = ℕ} n k 0 h) in
    let other = sym (first_of {A = ℕ} m j 0 g) in
    ((one, one, other), (blank_part n k, blank_part n k, blank_part m j))

-- ---- what is written
pub length_all : (own : ℕ) (bs stamp : List ℕ) → length (set_all own bs stamp) ≡ length stamp
unfolding set_all
length_all own [] stamp = refl
length_all own (b ∷ bs) stamp = length_all own bs (set stamp b own) ∙ length-set stamp b own

pub all_last : (own : ℕ) (bs : List ℕ) (b : ℕ) (stamp : List ℕ) → set_all own (bs ++ b ∷ []) stamp ≡ set (set_all own bs stamp) b own
unfolding set_all
all_last own [] b stamp = refl
all_last own (a ∷ bs) b stamp = all_last own bs b (set stamp a own)

pub fresh_all : {own : ℕ} {stamp : List ℕ} (x : ℕ) (bs : List ℕ) → x < own → Fresh own stamp → Fresh own (set_all x bs stamp)
unfolding set_all
fresh_all x [] h f = f
fresh_all x (b ∷ bs) h f = fresh_all x bs h (fresh_set x b h f)

-- a place that is not among those written keeps what it had, and the others have own
written_kept : (own : ℕ) (bs stamp : List ℕ) (j : ℕ) → times j bs ≡ 0 → get_or (set_all own bs stamp) j 0 ≡ get_or stamp j 0
unfolding set_all count_of
written_kept own [] stamp j e = refl
written_kept own (b ∷ bs) stamp j e =
    written_kept own bs (set stamp b own) j (omega arith)
    ∙ get_or-set_other stamp b j own 0 (λ q. absurd (omega (arith, e, rw (eq-eqb b j (sym q)) at e)))

written_at : (own : ℕ) (bs stamp : List ℕ) (j : ℕ) → Each 0 (λ b. b < length stamp) bs → 0 < times j bs
    → get_or (set_all own bs stamp) j 0 ≡ own
unfolding set_all count_of
written_at own [] stamp j t h = absurd (omega arith)
written_at own (b ∷ bs) stamp j t h =
    by_cases (dec_lt 0 (times j bs))
    (λ g. written_at own bs (set stamp b own) j (rw (length-set stamp b own) (each_tail t)) g)
    (λ g. here (ℕ_discrete b j) (written_kept own bs (set stamp b own) j (omega arith)) g)
  where
    here : Dec (b ≡ j) → get_or (set_all own bs (set stamp b own)) j 0 ≡ get_or (set stamp b own) j 0 → (0 < times j bs → ⊥)
        → get_or (set_all own bs (set stamp b own)) j 0 ≡ own
    here (yes e) k g = k ∙ rw (← e) (get_or-set_same stamp b own 0 (each_head t))
    here (no n) k g = absurd (omega (arith, rw (ne_eqb b j n) at h))

-- a place has the stamp to come exactly where it is written
pub stamped_where : (own : ℕ) (bs stamp : List ℕ) (j : ℕ) → Each 0 (λ b. b < length stamp) bs → Fresh own stamp
    → eqb (get_or (set_all own bs stamp) j 0) own ≡ ltb 0 (times j bs)
stamped_where own bs stamp j t f = by_cases (dec_lt 0 (times j bs)) some none
  where
    some : 0 < times j bs → eqb (get_or (set_all own bs stamp) j 0) own ≡ ltb 0 (times j bs)
    some g = rw (lt-ltb 0 (times j bs) g) (eq-eqb _ own (written_at own bs stamp j t g))

    none : (0 < times j bs → ⊥) → eqb (get_or (set_all own bs stamp) j 0) own ≡ ltb 0 (times j bs)
    none g =
        let e = written_kept own bs stamp j (omega arith) in
        rw (le-ltb 0 (times j bs) (omega arith)) (ne_eqb _ own (λ q. absurd (omega (arith, e, q, f.below j))))

-- ---- what is taken
pub taken_last : (own : ℕ) (bs : List ℕ) (b : ℕ) (stamp : List ℕ)
    → taken own (bs ++ b ∷ []) stamp ≡ (taken own bs stamp && eqb (get_or (set_all 0 bs stamp) b 0) own)
unfolding set_all taken
taken_last own [] b stamp = go (eqb (get_or stamp b 0) own)
  where
    go : (r : Bool) → cond r true false ≡ r
    go true = refl
    go false = refl
taken_last own (a ∷ bs) b stamp = go (eqb (get_or stamp a 0) own) (taken_last own bs b (set stamp a 0))
  where
    go : (r : Bool)
        → taken own (bs ++ b ∷ []) (set stamp a 0) ≡ (taken own bs (set stamp a 0) && eqb (get_or (set_all 0 bs (set stamp a 0)) b 0) own)
        → cond r (taken own (bs ++ b ∷ []) (set stamp a 0)) false
        ≡ (cond r (taken own bs (set stamp a 0)) false && eqb (get_or (set_all 0 bs (set stamp a 0)) b 0) own)
    go true e = e
    go false e = refl

pub taken_is : (own : ℕ) (bs stamp : List ℕ) → 0 < own → Each 0 (λ b. b < length stamp) bs
    → (taken own bs stamp ≡ true) ↔ ((j : ℕ) → times j bs ≤ one_if (eqb (get_or stamp j 0) own))
unfolding taken count_of
taken_is own [] stamp h t = (λ e j. omega arith, λ m. refl)
taken_is own (b ∷ bs) stamp h t =
    go (eqb (get_or stamp b 0) own) refl (taken_is own bs (set stamp b 0) h (rw (length-set stamp b 0) (each_tail t)))
  where
    go : (r : Bool) → eqb (get_or stamp b 0) own ≡ r
        → ((taken own bs (set stamp b 0) ≡ true) ↔ ((j : ℕ) → times j bs ≤ one_if (eqb (get_or (set stamp b 0) j 0) own)))
        → (cond r (taken own bs (set stamp b 0)) false ≡ true)
        ↔ ((j : ℕ) → one_if (eqb b j) + times j bs ≤ one_if (eqb (get_or stamp j 0) own))
    go true q i = (λ e j. yes_at (i.0 e j) (ℕ_discrete b j), λ m. i.1 (λ j. back_at (m j) (ℕ_discrete b j)))
      where
        yes_at : {j : ℕ} → times j bs ≤ one_if (eqb (get_or (set stamp b 0) j 0) own) → Dec (b ≡ j)
            → one_if (eqb b j) + times j bs ≤ one_if (eqb (get_or stamp j 0) own)
        yes_at {j} d (yes e) =
            let none = rw (← e, get_or-set_same stamp b 0 0 (each_head t), ne_eqb 0 own (λ z. absurd (omega arith))) at d in
            rw (← e, eq-eqb b b refl, q) (omega arith)
        yes_at {j} d (no n) = rw (ne_eqb b j n) (omega (arith, rw (get_or-set_other stamp b j 0 0 (λ z. n (sym z))) at d))

        back_at : {j : ℕ} → one_if (eqb b j) + times j bs ≤ one_if (eqb (get_or stamp j 0) own) → Dec (b ≡ j)
            → times j bs ≤ one_if (eqb (get_or (set stamp b 0) j 0) own)
        back_at {j} d (yes e) = omega (arith, rw (eq-eqb b j e) at d, one_at_most (eqb (get_or stamp j 0) own))
        back_at {j} d (no n) = rw (get_or-set_other stamp b j 0 0 (λ z. n (sym z))) (omega (arith, rw (ne_eqb b j n) at d))
    go false q i = (
      λ e. absurd (false≢true e),
      λ m. absurd (omega (arith, rw (q, eq-eqb b b refl) at (m b))),
    )

-- ---- along a chain with the corners ps
-- own is written at the places f p of the chain's corners p: what is left from h on makes, with the stamps, the whole
pub record Writing (next : List ℕ) (f : ℕ → ℕ) (own : ℕ) (ps stamp₀ : List ℕ) (h : ℕ) (stamp : List ℕ) : Type 0 where
  pub going : Along next h (λ l. set_all own (map f l) stamp ≡ set_all own (map f ps) stamp₀)

module _ {next : List ℕ} {f : ℕ → ℕ} {own : ℕ} {ps stamp₀ : List ℕ} where
  pub write_start : {h : ℕ} → Chain next h ps → Writing next f own ps stamp₀ h stamp₀
  write_start {h} k = record { going = record { left = ps; chain = k; so = refl } }

  module _ {h : ℕ} {stamp : List ℕ} (w : Writing next f own ps stamp₀ h stamp) where
    pub write_more : {h' b : ℕ} → 0 < h → h' ≡ get_or next (h - 1) 0 → b ≡ f (h - 1) → Writing next f own ps stamp₀ h' (set stamp b own)
    unfolding set_all
    write_more g q e = record { going = along_more w.going g q (λ l so. rw e so) }

    pub write_end : h ≡ 0 → stamp ≡ set_all own (map f ps) stamp₀
    unfolding set_all
    write_end z = along_end w.going z

-- the stamps own are taken off at these places: what is left from h on asks, of the stamps that are left, what the whole asks of all
pub record Taking (next : List ℕ) (f : ℕ → ℕ) (own : ℕ) (ps stamp₀ : List ℕ) (h : ℕ) (stamp : List ℕ) : Type 0 where
  pub going : Along next h
      (λ l. (taken own (map f l) stamp ≡ taken own (map f ps) stamp₀) × (set_all 0 (map f l) stamp ≡ set_all 0 (map f ps) stamp₀))

module _ {next : List ℕ} {f : ℕ → ℕ} {own : ℕ} {ps stamp₀ : List ℕ} where
  pub take_start : {h : ℕ} → Chain next h ps → Taking next f own ps stamp₀ h stamp₀
  take_start {h} k = record { going = record { left = ps; chain = k; so = (refl, refl) } }

  module _ {h : ℕ} {stamp : List ℕ} (t : Taking next f own ps stamp₀ h stamp) where
    -- a place that has not the stamp
    pub take_no : {b : ℕ} {stamp' : List ℕ} → 0 < h → b ≡ f (h - 1) → get_or stamp b 0 ≢ own → Took own (map f ps) stamp₀ stamp' false
    unfolding taken
    take_no {b} g e n = record {
      answer = along_at t.going g (λ l k so. sym (rw (← e, ne_eqb (get_or stamp b 0) own n)) ∙ so.0);
      off = λ z. absurd (false≢true z);
    }

    -- a place that has the stamp
    pub take_more : {h' b : ℕ} → 0 < h → h' ≡ get_or next (h - 1) 0 → b ≡ f (h - 1) → get_or stamp b 0 ≡ own
        → Taking next f own ps stamp₀ h' (set stamp b 0)
    unfolding taken set_all
    take_more {h'} {b} g q e m = record {
      going = along_more t.going g q (λ l so. (sym (rw (← e, eq-eqb (get_or stamp b 0) own m)) ∙ so.0, rw e so.1));
    }

    pub take_end : h ≡ 0 → Took own (map f ps) stamp₀ stamp true
    unfolding taken set_all
    take_end z = let so = along_end t.going z in record { answer = so.0; off = λ q. so.1 }
