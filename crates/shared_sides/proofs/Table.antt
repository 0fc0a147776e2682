-- The table of marks: a mark that is put changes one pair's entries and no other's, and a loop that puts marks says what is left to put.
use mathlib.Core.Path.{◌≡◌, refl, sym, ◌∙◌, ap}
use mathlib.Core.Logic.{◌≢◌}
use mathlib.Core.Bool.{Bool, true, false, ◌&&◌, true≢false, false≢true, cond}
use mathlib.Core.List.{List, [], ◌∷◌, ◌++◌, append-nil, append_assoc}
use Prim.Native.Nat.{ℕ, ◌+◌, ◌<◌, ◌≤◌}
use native.Mathlib.Numerals.{add-one}
use native.Mathlib.Decide.{ℕ_discrete}
use native.Mathlib.Omega.{arith}
use lib.Dec.{eqb}
use lib.ListN.{length, get_or, set, drop, drop_of_length-le, length-append}
use lib.Seq.{slice, get_or-set_same, get_or-set_other}
use borrow.Author.Tests.{eq-eqb, ne_eqb}
use Rattle.places.specs.Ring.{sides, next_of}
use Rattle.places.proofs.Loops.{drop_more}
use Rattle.places.proofs.Rings.{length_sides, side_at}
use Rattle.exact.specs.Sides.{from_to}
use Rattle.exact.proofs.Balance.{and_comm}
use Rattle.cell.specs.Faces.{faces_from}
use Rattle.cell.proofs.Faces.{faces_more, faces_none}
use Rattle.side_table.specs.Numbers.{Known, entry_of}
use Rattle.side_table.proofs.Pairs.{Tells}
use Rattle.shared_sides.specs.Steps.{mark_of, mark_at, marks_in, marks_from, held, held_at, Sane, Left, Ready}

-- ---- the marks that two entries hold, and one more
held_first : (x y m : ℕ) → x ≡ 0 → y ≡ 0 → 0 < m → held m y ≡ held x y ++ m ∷ []
held_first x y m p q h = rw (p, q, ne_eqb m 0 (λ e. absurd (omega arith)))

held_second : (x y m : ℕ) → x ≢ 0 → y ≡ 0 → 0 < m → held x m ≡ held x y ++ m ∷ []
held_second x y m p q h = rw (q, ne_eqb x 0 p, ne_eqb m 0 (λ e. absurd (omega arith)))

held_both : (x y : ℕ) → x ≢ 0 → y ≢ 0 → held x y ≡ x ∷ y ∷ []
held_both x y p q = rw (ne_eqb x 0 p, ne_eqb y 0 q)

-- ---- a mark is put at the side between low and high
module _ {In : ℕ → Type 0} {at : ℕ → ℕ → ℕ} {n : ℕ} (tells : Tells In at n) (t : List ℕ) (wide : n ≤ length t) {low high : ℕ} (m : ℕ)
    (here : In low) (there : In high) (order : low < high) (above : 0 < m) where
  -- what is put there
  abbrev one : ℕ → ℕ → List ℕ
  one i j = cond (eqb low i && eqb high j) (m ∷ []) []

  one_here : one low high ≡ m ∷ []
  one_here = rw (eq-eqb low low refl, eq-eqb high high refl)

  one_else : {i j : ℕ} → ((low ≡ i) × (high ≡ j) → ⊥) → one i j ≡ []
  one_else {i} {j} k = go (ℕ_discrete low i) (ℕ_discrete high j)
    where
      go : Dec (low ≡ i) → Dec (high ≡ j) → one i j ≡ []
      go (yes p) (yes q) = absurd (k (p, q))
      go (yes p) (no q) = rw (eq-eqb low i p, ne_eqb high j q)
      go (no p) d = rw (ne_eqb low i p)

  -- an entry that is set, and the others
  set_here : {a b : ℕ} → In a → In b → get_or (set t (at a b) m) (at a b) 0 ≡ m
  set_here {a} {b} ha hb = get_or-set_same t (at a b) m 0 (omega (arith, tells.within ha hb))

  set_else : {a b x y : ℕ} → In a → In b → In x → In y → ((a ≡ x) × (b ≡ y) → ⊥)
      → get_or (set t (at a b) m) (at x y) 0 ≡ get_or t (at x y) 0
  set_else {a} {b} {x} {y} ha hb hx hy k = get_or-set_other t (at a b) (at x y) m 0 (λ e. k (tells.apart ha hb hx hy (sym e)))

  -- both entries of a pair are as they were
  same_pair : (t' : List ℕ) {i j : ℕ} → ((low ≡ i) × (high ≡ j) → ⊥)
      → get_or t' (at i j) 0 ≡ get_or t (at i j) 0 → get_or t' (at j i) 0 ≡ get_or t (at j i) 0
      → held_at at t' i j ≡ held_at at t i j ++ one i j
  unfolding held_at
  same_pair t' {i} {j} k p q = rw (p, q, one_else k, append-nil)

  -- the first mark
  module _ (sane : Sane In at t) (free : get_or t (at low high) 0 ≡ 0) where
    pub put_first : Left In at t one (set t (at low high) m) true
    unfolding held_at
    put_first = record {
      sane = λ _. record { first = λ i j o hi hj. sane' o hi hj (ℕ_discrete low i) (ℕ_discrete high j) };
      stand = λ _ i j o hi hj. stand' o hi hj (ℕ_discrete low i) (ℕ_discrete high j);
      full = λ e. absurd (true≢false e);
    }
      where
        up : {i j : ℕ} → In i → In j → ((low ≡ i) × (high ≡ j) → ⊥) → get_or (set t (at low high) m) (at i j) 0 ≡ get_or t (at i j) 0
        up hi hj k = set_else here there hi hj k

        down : {i j : ℕ} → i < j → In i → In j → get_or (set t (at low high) m) (at j i) 0 ≡ get_or t (at j i) 0
        down o hi hj = set_else here there hj hi (λ e. absurd (omega (arith, e.0, e.1)))

        sane' : {i j : ℕ} → i < j → In i → In j → Dec (low ≡ i) → Dec (high ≡ j) → get_or (set t (at low high) m) (at i j) 0 ≡ 0
            → get_or (set t (at low high) m) (at j i) 0 ≡ 0
        sane' {i} {j} o hi hj (yes p) (yes q) e =
            let w : get_or (set t (at low high) m) (at i j) 0 ≡ m = rw (← p, ← q) (set_here here there) in
            absurd (omega arith)
        sane' {i} {j} o hi hj (yes p) (no q) e = down o hi hj ∙ sane.first i j o hi hj (sym (up hi hj (λ z. q z.1)) ∙ e)
        sane' {i} {j} o hi hj (no p) d e = down o hi hj ∙ sane.first i j o hi hj (sym (up hi hj (λ z. p z.0)) ∙ e)

        stand' : {i j : ℕ} → i < j → In i → In j → Dec (low ≡ i) → Dec (high ≡ j)
            → held_at at (set t (at low high) m) i j ≡ held_at at t i j ++ one i j
        stand' {i} {j} o hi hj (yes p) (yes q) =
            rw (← p, ← q, one_here, set_here here there, down order here there)
            (held_first (get_or t (at low high) 0) (get_or t (at high low) 0) m free (sane.first low high order here there free) above)
        stand' {i} {j} o hi hj (yes p) (no q) = same_pair (set t (at low high) m) (λ z. q z.1) (up hi hj (λ z. q z.1)) (down o hi hj)
        stand' {i} {j} o hi hj (no p) d = same_pair (set t (at low high) m) (λ z. p z.0) (up hi hj (λ z. p z.0)) (down o hi hj)

  -- the second
  module _ (sane : Sane In at t) (taken : get_or t (at low high) 0 ≢ 0) where
    pub put_second : get_or t (at high low) 0 ≡ 0 → Left In at t one (set t (at high low) m) true
    unfolding held_at
    put_second free = record {
      sane = λ _. record { first = λ i j o hi hj. sane' o hi hj (ℕ_discrete low i) (ℕ_discrete high j) };
      stand = λ _ i j o hi hj. stand' o hi hj (ℕ_discrete low i) (ℕ_discrete high j);
      full = λ e. absurd (true≢false e);
    }
      where
        up : {i j : ℕ} → i < j → In i → In j → get_or (set t (at high low) m) (at i j) 0 ≡ get_or t (at i j) 0
        up o hi hj = set_else there here hi hj (λ e. absurd (omega (arith, e.0, e.1)))

        down : {i j : ℕ} → In i → In j → ((low ≡ i) × (high ≡ j) → ⊥) → get_or (set t (at high low) m) (at j i) 0 ≡ get_or t (at j i) 0
        down hi hj k = set_else there here hj hi (λ e. k (e.1, e.0))

        sane' : {i j : ℕ} → i < j → In i → In j → Dec (low ≡ i) → Dec (high ≡ j) → get_or (set t (at high low) m) (at i j) 0 ≡ 0
            → get_or (set t (at high low) m) (at j i) 0 ≡ 0
        sane' {i} {j} o hi hj (yes p) (yes q) e = absurd (taken (rw (p, q) (sym (up o hi hj) ∙ e)))
        sane' {i} {j} o hi hj (yes p) (no q) e = down hi hj (λ z. q z.1) ∙ sane.first i j o hi hj (sym (up o hi hj) ∙ e)
        sane' {i} {j} o hi hj (no p) d e = down hi hj (λ z. p z.0) ∙ sane.first i j o hi hj (sym (up o hi hj) ∙ e)

        stand' : {i j : ℕ} → i < j → In i → In j → Dec (low ≡ i) → Dec (high ≡ j)
            → held_at at (set t (at high low) m) i j ≡ held_at at t i j ++ one i j
        stand' {i} {j} o hi hj (yes p) (yes q) =
            rw (← p, ← q, one_here, set_here there here, up order here there)
            (held_second (get_or t (at low high) 0) (get_or t (at high low) 0) m taken free above)
        stand' {i} {j} o hi hj (yes p) (no q) = same_pair (set t (at high low) m) (λ z. q z.1) (up o hi hj) (down hi hj (λ z. q z.1))
        stand' {i} {j} o hi hj (no p) d = same_pair (set t (at high low) m) (λ z. p z.0) (up o hi hj) (down hi hj (λ z. p z.0))

    -- there are two already
    pub put_third : get_or t (at high low) 0 ≢ 0 → Left In at t one t false
    unfolding held_at
    put_third full = record {
      sane = λ e. absurd (false≢true e);
      stand = λ e. absurd (false≢true e);
      full = λ _. record {
        i = low;
        j = high;
        order = order;
        here = here;
        there = there;
        three = rw (held_both (get_or t (at low high) 0) (get_or t (at high low) 0) taken full, one_here) (omega arith);
      };
    }

-- ---- what is put at one side of a face
module _ {In : ℕ → Type 0} {at : ℕ → ℕ → ℕ} {t t' : List ℕ} where
  pub left_same : {r : Bool} {more more' : ℕ → ℕ → List ℕ} → Left In at t more t' r → ((i j : ℕ) → i < j → more i j ≡ more' i j)
      → Left In at t more' t' r
  left_same l e = record {
    sane = l.sane;
    stand = λ q i j o hi hj. l.stand q i j o hi hj ∙ ap (λ w. held_at at t i j ++ w) (e i j o);
    full = λ q. let c = l.full q in record {
      i = c.i;
      j = c.j;
      order = c.order;
      here = c.here;
      there = c.there;
      three = rw (e c.i c.j c.order) at c.three;
    };
  }

-- one that runs up, or down, or from a vertex to itself
miss : (i j a b : ℕ) → (a ≡ i → b ≡ j → ⊥) → from_to i j (a, b) ≡ false
miss i j a b n = go (ℕ_discrete a i) (ℕ_discrete b j)
  where
    go : Dec (a ≡ i) → Dec (b ≡ j) → from_to i j (a, b) ≡ false
    go (yes p) (yes q) = absurd (n p q)
    go (yes p) (no q) = rw (eq-eqb a i p, ne_eqb b j q)
    go (no p) d = rw (ne_eqb a i p)

pub side_up : (i j f a b : ℕ) → i < j → a < b → cond (eqb a i && eqb b j) (mark_of f false ∷ []) [] ≡ mark_at i j f (a, b)
side_up i j f a b o h = rw (miss j i a b (λ p q. absurd (omega arith)))

pub side_down : (i j f a b : ℕ) → i < j → b < a → cond (eqb b i && eqb a j) (mark_of f true ∷ []) [] ≡ mark_at i j f (a, b)
side_down i j f a b o h = rw (miss i j a b (λ p q. absurd (omega arith)), and_comm (eqb b i) (eqb a j))

pub side_none : (i j f a b : ℕ) → i < j → a ≡ b → mark_at i j f (a, b) ≡ []
side_none i j f a b o h = rw (miss i j a b (λ p q. absurd (omega arith)), miss j i a b (λ p q. absurd (omega arith)))

-- nothing is put
pub left_none : {In : ℕ → Type 0} {at : ℕ → ℕ → ℕ} {t : List ℕ} {more : ℕ → ℕ → List ℕ}
    → Sane In at t → ((i j : ℕ) → i < j → more i j ≡ []) → Left In at t more t true
left_none {In} {at} {t} s e = record {
  sane = λ _. s;
  stand = λ _ i j o hi hj. rw (e i j o, append-nil);
  full = λ z. absurd (true≢false z);
}

-- ---- a loop that puts marks: what stands in the table, with what is left to put, is what stood there and all that is put
pub record Putting (In : ℕ → Type 0) (at : ℕ → ℕ → ℕ) (t₀ : List ℕ) (all rest : ℕ → ℕ → List ℕ) (t : List ℕ) : Type 0 where
  pub sane : Sane In at t
  pub so : (i j : ℕ) → i < j → In i → In j → held_at at t i j ++ rest i j ≡ held_at at t₀ i j ++ all i j

-- what is put next, and what is left then
pub record Next (rest more rest' : ℕ → ℕ → List ℕ) : Type 0 where
  pub is : (i j : ℕ) → rest i j ≡ more i j ++ rest' i j

module _ {In : ℕ → Type 0} {at : ℕ → ℕ → ℕ} {t₀ : List ℕ} {all : ℕ → ℕ → List ℕ} where
  pub put_start : Sane In at t₀ → Putting In at t₀ all all t₀
  put_start s = record { sane = s; so = λ i j o hi hj. refl }

  pub put_end : {rest : ℕ → ℕ → List ℕ} {t : List ℕ} → Putting In at t₀ all rest t → ((i j : ℕ) → rest i j ≡ []) → Left In at t₀ all t true
  put_end {rest} {t} p e = record {
    sane = λ _. p.sane;
    stand = λ _ i j o hi hj. sym (rw (e i j) (append-nil (held_at at t i j))) ∙ p.so i j o hi hj;
    full = λ z. absurd (true≢false z);
  }

  module _ {rest more : ℕ → ℕ → List ℕ} {t t' : List ℕ} {r : Bool} (p : Putting In at t₀ all rest t) (l : Left In at t more t' r) where
    pub put_next : {rest' : ℕ → ℕ → List ℕ} → r ≡ true → Next rest more rest' → Putting In at t₀ all rest' t'
    put_next {rest'} q e = record {
      sane = l.sane q;
      so = λ i j o hi hj.
          rw (l.stand q i j o hi hj) (append_assoc (held_at at t i j) (more i j) (rest' i j) ∙ sym (rw (e.is i j)) ∙ p.so i j o hi hj);
    }

    pub put_full : {rest' : ℕ → ℕ → List ℕ} (t'' : List ℕ) → r ≡ false → Next rest more rest' → Left In at t₀ all t'' false
    put_full {rest'} t'' q e = record {
      sane = λ z. absurd (false≢true z);
      stand = λ z. absurd (false≢true z);
      full = λ _.
          let c = l.full q in
          let w = rw (e.is c.i c.j) at (p.so c.i c.j c.order c.here c.there) in
          record {
            i = c.i;
            j = c.j;
            order = c.order;
            here = c.here;
            there = c.there;
            three = omega (
              arith,
              c.three,
              length-append (held_at at t c.i c.j) (more c.i c.j),
              length-append (held_at at t c.i c.j) (more c.i c.j ++ rest' c.i c.j),
              length-append (more c.i c.j) (rest' c.i c.j),
              ap length w,
            );
          };
    }

-- ---- the marks of a face from a side on
pub in_more : (face : List ℕ) (k f : ℕ) {a b : ℕ} → k < length face → a ≡ get_or face k 0 → b ≡ get_or face (next_of k (length face)) 0
    → Next (λ i j. marks_in i j f (drop k (sides face))) (λ i j. mark_at i j f (a, b)) (λ i j. marks_in i j f (drop (k + 1) (sides face)))
in_more face k f h p q =
    let g : k < length (sides face) = rw (length_sides face) h in
    record { is = λ i j. rw (drop_more (sides face) k (0, 0) g, side_at face k 0 h, p, q) }

pub in_none : (face : List ℕ) (k f : ℕ) → length face ≤ k → (i j : ℕ) → marks_in i j f (drop k (sides face)) ≡ []
in_none face k f h i j =
    let g : length (sides face) ≤ k = rw (length_sides face) h in
    rw (drop_of_length-le (sides face) g)

-- ---- the marks of faces from a face on
pub from_more : (p : ℕ) (c es : List ℕ) (k : ℕ) {e : ℕ} {face : List ℕ} → k < length es → e ≡ get_or es k 0 → face ≡ slice p e c
    → Next (λ i j. marks_from i j k (faces_from p c (drop k es))) (λ i j. marks_in i j k (sides face))
    (λ i j. marks_from i j (k + 1) (faces_from e c (drop (k + 1) es)))
from_more p c es k h q u = record { is = λ i j. rw (u, q, faces_more p c es k h, add-one) }

pub from_none : (p : ℕ) (c es : List ℕ) (k : ℕ) → length es ≤ k → (i j : ℕ) → marks_from i j k (faces_from p c (drop k es)) ≡ []
from_none p c es k h i j = rw (faces_none p c es k h)

-- ---- the table is ready for more
pub ready_again : {number : List ℕ} {k : ℕ} {t t' : List ℕ} → Ready number k t → length t' ≡ length t
    → Sane (Known number k) (entry_of number k) t' → Ready number k t'
ready_again r e s = record { numbering = r.numbering; wide = omega (arith, r.wide); sane = s }
