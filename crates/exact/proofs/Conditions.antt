-- The tests of specs/Facing.antt say what they are for: a search that finds nothing says that nothing is there, a side that occurs is
-- among all sides, and every choice is, as far as the faces go, one of the lists that are tried.
use mathlib.Core.Path.{◌≡◌, refl, sym, ◌∙◌}
use mathlib.Core.Logic.Iff
use mathlib.Core.Logic.{◌↔◌, ◌≢◌, by_cases}
use mathlib.Core.Bool.{Bool, true, false, ◌&&◌, ◌||◌, true≢false, false≢true, cond}
use mathlib.Core.List.{List, [], ◌∷◌, ◌++◌, map}
use Prim.Native.Nat.{ℕ, zero, suc, ◌<◌}
use native.Mathlib.Decide.{ℕ_discrete, dec_lt}
use native.Mathlib.Omega.{arith}
use lib.Dec.{eqb, not_T}
use lib.Ieee.Bits.{is_true, is_false}
use lib.ListN.{length, get_or, get_or-eq_default}
use borrow.Author.Tests.{eqb-true, eqb-false, eq-eqb, ne_eqb, not-true, not-false}
use Rattle.places.specs.Loops.{any_of}
use Rattle.places.specs.Lists.{Each}
use Rattle.places.proofs.Lists.{each_nil, each_cons, each_head, each_tail}
use Rattle.exact.specs.Sides.{all_sides, from_to, count, runs, Closed}
use Rattle.exact.specs.Facing.{reversed_by, occurs, Twice, Single, Fit}
use Rattle.exact.specs.Facing.{strange, doubled, unfit, choices, choice_of, closes_by, unclosable}
use Rattle.exact.proofs.Balance.{from_to_eq}
use Rattle.exact.proofs.Reversed.{same_faces}
use Rattle.exact.proofs.Test.{closed_test}

-- ---- yes and no
pub or_is : (a b : Bool) → ((a || b) ≡ false) ↔ ((a ≡ false) × (b ≡ false))
or_is true b = (λ e. (e, cc), λ p. p.0)
or_is false b = (λ e. (refl, e), λ p. p.1)

pub and_is : (a b : Bool) → (a && b ≡ true) ↔ ((a ≡ true) × (b ≡ true))
and_is true b = (λ e. (refl, e), λ p. p.1)
and_is false b = (λ e. (e, cc), λ p. p.0)

-- a test that says no exactly where P holds says yes exactly where it does not
says_not : {P : Type 0} (b : Bool) → ((b ≡ false) ↔ P) → (b ≡ true) ↔ (P → ⊥)
says_not true i = (λ e p. true≢false (i.1 p), λ n. refl)
says_not false i = (λ e p. false≢true e, λ n. absurd (n (i.0 refl)))

-- ---- a search that finds nothing
module _ {A : Type 0} (test : A → Bool) where
  any_cons : (x : A) (l : List A) → any_of test (x ∷ l) ≡ (test x || any_of test l)
  unfolding any_of
  any_cons x l = go (test x)
    where
      go : (b : Bool) → cond b true (any_of test l) ≡ (b || any_of test l)
      go true = refl
      go false = refl

  none_cons : (x : A) (l : List A) → (any_of test (x ∷ l) ≡ false) ↔ ((test x ≡ false) × (any_of test l ≡ false))
  none_cons x l = rw (any_cons x l) (or_is (test x) (any_of test l))

  -- the test fails at each place
  pub none_each : (d : A) (l : List A) → (any_of test l ≡ false) ↔ Each d (λ x. test x ≡ false) l
  unfolding any_of
  none_each d [] = (λ e. each_nil, λ e. refl)
  none_each d (x ∷ l) = (
    λ e. each_cons ((none_cons x l).0 e).0 ((none_each d l).0 ((none_cons x l).0 e).1),
    λ e. (none_cons x l).1 (each_head e, (none_each d l).1 (each_tail e)),
  )

  none_append : (l m : List A) → any_of test (l ++ m) ≡ false → (any_of test l ≡ false) × (any_of test m ≡ false)
  unfolding any_of
  none_append [] m e = (refl, e)
  none_append (x ∷ l) m e =
      let s = (none_cons x (l ++ m)).0 e in
      let r = none_append l m s.1 in
      ((none_cons x l).1 (s.0, r.0), r.1)

  none_map : {B : Type 0} (f : B → A) (l : List B) → any_of test (map f l) ≡ any_of (λ x. test (f x)) l
  unfolding any_of
  none_map f [] = refl
  none_map f (x ∷ l) = rw (none_map f l)

-- ---- 'each side between two different vertices occurs exactly twice'
self_hit : (e : ℕ × ℕ) (l : List (ℕ × ℕ)) → 0 < count e.0 e.1 (e ∷ l)
self_hit e l = rw (eq-eqb e.0 e.0 refl, eq-eqb e.1 e.1 refl) (omega arith)

-- the test fails at every side that occurs
none_side : (test : ℕ × ℕ → Bool) (l : List (ℕ × ℕ)) → (any_of test l ≡ false) ↔ ((i j : ℕ) → 0 < count i j l → test (i, j) ≡ false)
unfolding any_of
none_side test [] = (λ e i j h. absurd (omega arith), λ h. refl)
none_side test (e ∷ l) = (
  λ n i j h. let s = (none_cons test e l).0 n in go i j h s.0 ((none_side test l).0 s.1 i j) (from_to i j e) refl,
  λ h. (none_cons test e l).1 (h e.0 e.1 (self_hit e l), (none_side test l).1 (λ i j q. h i j (omega arith))),
)
  where
    go : (i j : ℕ) → 0 < count i j (e ∷ l) → test e ≡ false → (0 < count i j l → test (i, j) ≡ false)
        → (b : Bool) → from_to i j e ≡ b → test (i, j) ≡ false
    go i j h n ih true q = rw ((from_to_eq i j e q).0, (from_to_eq i j e q).1) at n
    go i j h n ih false q = ih (omega (arith, rw q at h))

-- a side is not strange where its vertices are one, or it occurs twice
plain : (fs : List (List ℕ)) (i j : ℕ) → (strange fs (i, j) ≡ false) ↔ (i ≢ j → occurs i j fs ≡ 2)
unfolding strange
plain fs i j = (
  λ e n. eqb-true (occurs i j fs) 2 (not-false (eqb (occurs i j fs) 2) (rw (ne_eqb i j n) at e)),
  λ h. by_cases (ℕ_discrete i j) (λ e. rw (eq-eqb i j e)) (λ n. rw (ne_eqb i j n, eq-eqb (occurs i j fs) 2 (h n))),
)

pub strange_is : (fs : List (List ℕ)) → (any_of (strange fs) (all_sides fs) ≡ false) ↔ Twice fs
unfolding runs
strange_is fs = (
  λ e i j n h. by_cases (dec_lt 0 (count i j (all_sides fs))) (two e i j n) (λ q. omega (arith, two e j i (λ z. n (sym z)) (omega arith))),
  λ tw. (none_side (strange fs) (all_sides fs)).1 (λ i j h. (plain fs i j).1 (λ n. tw i j n (omega arith))),
)
  where
    two : any_of (strange fs) (all_sides fs) ≡ false → (i j : ℕ) → i ≢ j → 0 < count i j (all_sides fs) → occurs i j fs ≡ 2
    two e i j n p = (plain fs i j).0 ((none_side (strange fs) (all_sides fs)).0 e i j p) n

-- ---- 'no face holds a vertex twice'
pub single_cons : (v : ℕ) (face : List ℕ) → (Each 0 (λ w. eqb v w ≡ false) face × Single face) ↔ Single (v ∷ face)
single_cons v face = (
  λ p. go p.0 p.1,
  λ s. (
    record { holds = λ k h. ne_eqb v (get_or face k 0) (s 0 (suc k) (omega arith) (omega arith)) },
    λ p q a b. s (suc p) (suc q) (omega arith) (omega arith),
  ),
)
  where
    go : Each 0 (λ w. eqb v w ≡ false) face → Single face → Single (v ∷ face)
    go e s p zero a b = absurd (omega arith)
    go e s zero (suc q) a b = eqb-false v (get_or face q 0) (e.holds q (omega arith))
    go e s (suc p) (suc q) a b = s p q (omega arith) (omega arith)

pub doubled_is : (face : List ℕ) → (doubled face ≡ false) ↔ Single face
unfolding doubled
doubled_is [] = (λ e p q a b. absurd (omega arith), λ s. refl)
doubled_is (v ∷ face) =
    let both = Iff.and (none_each (eqb v) 0 face) (doubled_is face) in
    Iff.trans (or_is (any_of (eqb v) face) (doubled face)) (Iff.trans both (single_cons v face))

-- of all faces; past the last there is none
all_single : (fs : List (List ℕ)) → (any_of doubled fs ≡ false) ↔ ((k : ℕ) → Single (get_or fs k []))
unfolding doubled
all_single fs = (
  λ e k. by_cases (dec_lt k (length fs)) (λ h. (doubled_is (get_or fs k [])).0 (((none_each doubled [] fs).0 e).holds k h))
      (λ n. rw (get_or-eq_default fs [] {n = k} (omega arith)) ((doubled_is []).0 refl)),
  λ s. (none_each doubled [] fs).1 (record { holds = λ k h. (doubled_is (get_or fs k [])).1 (s k) }),
)

-- ---- both conditions
pub unfit_is : (fs : List (List ℕ)) → (unfit fs ≡ false) ↔ Fit fs
unfolding unfit
unfit_is fs =
    let both = Iff.trans (or_is (any_of (strange fs) (all_sides fs)) (any_of doubled fs)) (Iff.and (strange_is fs) (all_single fs)) in
    (λ e. record { twice = (both.0 e).0; single = (both.0 e).1 }, λ f. both.1 (f.twice, f.single))

pub unfit_not : (fs : List (List ℕ)) → (unfit fs ≡ true) ↔ (Fit fs → ⊥)
unfit_not fs = says_not (unfit fs) (unfit_is fs)

-- ---- 'no choice of reversals closes the cell'
-- the first n of a choice, as a list
abbrev listed : ℕ → (ℕ → Bool) → List Bool
listed zero c = []
listed (suc n) c = c 0 ∷ listed n (λ k. c (suc k))

listed_at : (n : ℕ) (c : ℕ → Bool) (k : ℕ) → k < n → choice_of (listed n c) k ≡ c k
listed_at zero c k h = absurd (omega arith)
listed_at (suc n) c zero h = refl
listed_at (suc n) c (suc k) h = listed_at n (λ m. c (suc m)) k (omega arith)

-- that list is tried
tried : (test : List Bool → Bool) (n : ℕ) (c : ℕ → Bool) → any_of test (choices n) ≡ false → test (listed n c) ≡ false
unfolding choices
tried test zero c e = ((none_cons test [] []).0 e).0
tried test (suc n) c e = tried (λ l. test (c 0 ∷ l)) n (λ k. c (suc k)) (go (c 0))
  where
    go : (b : Bool) → any_of (λ l. test (b ∷ l)) (choices n) ≡ false
    go true = sym (none_map test (λ l. true ∷ l) (choices n)) ∙ (none_append test (map (λ l. false ∷ l) (choices n)) _ e).1
    go false = sym (none_map test (λ l. false ∷ l) (choices n)) ∙ (none_append test (map (λ l. false ∷ l) (choices n)) _ e).0

pub unclosable_is : (fs : List (List ℕ)) → (unclosable fs ≡ true) ↔ ((choice : ℕ → Bool) → Closed (reversed_by choice fs) → ⊥)
unfolding unclosable closes_by
unclosable_is fs = (
  no_choice,
  λ n. rw ((none_each (closes_by fs) [] (choices (length fs))).1 (record { holds = λ k h. open_by n (get_or (choices (length fs)) k []) })),
)
  where
    open_by : ((choice : ℕ → Bool) → Closed (reversed_by choice fs) → ⊥) → (c : List Bool) → closes_by fs c ≡ false
    open_by n c =
        is_false (closes_by fs c)
        (not_T (closes_by fs c) (λ t. n (choice_of c) ((closed_test (reversed_by (choice_of c) fs)).0 (is_true (closes_by fs c) t))))

    no_choice : unclosable fs ≡ true → (choice : ℕ → Bool) → Closed (reversed_by choice fs) → ⊥
    no_choice e choice h =
        let q = tried (closes_by fs) (length fs) choice (not-true (any_of (closes_by fs) (choices (length fs))) e) in
        let r = rw (same_faces fs (choice_of (listed (length fs) choice)) choice (listed_at (length fs) choice)) at q in
        true≢false (sym ((closed_test (reversed_by choice fs)).1 h) ∙ r)

-- a choice that closes shows that there is one
pub closable : (fs : List (List ℕ)) (choice : ℕ → Bool) → Closed (reversed_by choice fs) → unclosable fs ≡ false
closable fs choice h = go (unclosable fs) refl
  where
    go : (b : Bool) → unclosable fs ≡ b → b ≡ false
    go true e = absurd ((unclosable_is fs).0 e choice h)
    go false e = refl
