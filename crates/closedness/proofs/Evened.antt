-- Even chains are closed faces: the codes of the chain of m count how often the sides between m and a higher vertex are run.
use mathlib.Core.Path.{◌≡◌, refl, sym, ◌∙◌}
use mathlib.Core.Logic.{◌≢◌}
use mathlib.Core.Bool.{Bool, true, false, not, ◌&&◌, cond}
use mathlib.Core.List.{List, [], ◌∷◌}
use Prim.Native.Nat.{ℕ, ◌+◌, ◌<◌, ◌≤◌}
use native.Mathlib.Decide.{ℕ_discrete, dec_lt}
use native.Mathlib.Omega.{arith}
use lib.Dec.{eqb, ltb}
use borrow.Author.Tests.{lt-ltb, le-ltb, eq-eqb, ne_eqb, ltb-true}
use Rattle.places.specs.Loops.{fold_list, one_if}
use Rattle.places.specs.Lists.{Each}
use Rattle.places.specs.Ring.{sides, fold_pairs}
use Rattle.places.proofs.Loops.{fold_append}
use Rattle.places.proofs.Lists.{each_nil, each_cons, each_head, each_tail}
use Rattle.exact.specs.Sides.{all_sides, from_to, count, runs, every_side, as_many_back, closed_of}
use Rattle.exact.proofs.Test.{closed_test}
use Rattle.cell.specs.Faces.{faces_from, faces_of}
use Rattle.side_table.proofs.Pairs.{Both, all_both}
use Rattle.side_table.proofs.Corners.{each_below}
use Rattle.closedness.specs.Steps.{code_of, chained, codes_at, times, push, push_face, push_faces, Even, Uneven}

and_false : (b : Bool) → b && false ≡ false
and_false true = refl
and_false false = refl

-- ---- one side
-- it is in the chain of m with the code of an upward side to j exactly where it runs from m to j, and m is the lower
up : (m j : ℕ) → j < 256 → (a b : ℕ) → a < 256 → b < 256 → chained m (a, b) && eqb (code_of a b) j ≡ ltb m j && from_to m j (a, b)
up m j hj a b ha hb = go (dec_lt a b)
  where
    low : a < b → Dec (a ≡ m) → Dec (b ≡ j) → eqb a m && eqb b j ≡ ltb m j && (eqb a m && eqb b j)
    low h (yes p) (yes q) = rw (lt-ltb m j (omega arith))
    low h (yes p) (no q) = rw (eq-eqb a m p, ne_eqb b j q, and_false (ltb m j))
    low h (no p) d = rw (ne_eqb a m p, and_false (ltb m j))

    none : b ≤ a → Dec (m < j) → Dec (a ≡ m) → Dec (b ≡ j) → false ≡ ltb m j && (eqb a m && eqb b j)
    none h (no g) p q = rw (le-ltb m j (omega arith))
    none h (yes g) (no p) q = rw (lt-ltb m j g, ne_eqb a m p)
    none h (yes g) (yes p) (no q) = rw (lt-ltb m j g, eq-eqb a m p, ne_eqb b j q)
    none h (yes g) (yes p) (yes q) = absurd (omega arith)

    go : Dec (a < b) → chained m (a, b) && eqb (code_of a b) j ≡ ltb m j && from_to m j (a, b)
    go (yes h) = rw (lt-ltb a b h, ne_eqb a b (λ e. absurd (omega arith))) (low h (ℕ_discrete a m) (ℕ_discrete b j))
    go (no h) =
        let le : b ≤ a = omega arith in
        rw (le-ltb a b le, ne_eqb (a + 256) j (λ e. absurd (omega arith)), and_false (not (eqb a b) && eqb b m))
        (none le (dec_lt m j) (ℕ_discrete a m) (ℕ_discrete b j))

-- with the code of a downward side from j exactly where it runs from j to m
down : (m j : ℕ) → j < 256 → (a b : ℕ) → a < 256 → b < 256 → chained m (a, b) && eqb (code_of a b) (j + 256) ≡ ltb m j && from_to j m (a, b)
down m j hj a b ha hb = go (dec_lt a b)
  where
    none : a < b → Dec (m < j) → Dec (a ≡ j) → Dec (b ≡ m) → false ≡ ltb m j && (eqb a j && eqb b m)
    none h (no g) p q = rw (le-ltb m j (omega arith))
    none h (yes g) (no p) q = rw (lt-ltb m j g, ne_eqb a j p)
    none h (yes g) (yes p) (no q) = rw (lt-ltb m j g, eq-eqb a j p, ne_eqb b m q)
    none h (yes g) (yes p) (yes q) = absurd (omega arith)

    high : b ≤ a → Dec (a ≡ j) → Dec (b ≡ m) → Dec (a ≡ b)
        → (not (eqb a b) && eqb b m) && eqb (a + 256) (j + 256) ≡ ltb m j && (eqb a j && eqb b m)
    high h (no p) q d =
        rw (ne_eqb (a + 256) (j + 256) (λ e. p (omega arith)), ne_eqb a j p, and_false (not (eqb a b) && eqb b m), and_false (ltb m j))
    high h (yes p) (no q) d = rw (ne_eqb b m q, eq-eqb a j p, and_false (not (eqb a b)), and_false (ltb m j))
    high h (yes p) (yes q) (yes d) = rw (eq-eqb a b d, le-ltb m j (omega arith))
    high h (yes p) (yes q) (no d) =
        rw (ne_eqb a b d, eq-eqb b m q, eq-eqb a j p, eq-eqb (a + 256) (j + 256) (omega arith), lt-ltb m j (omega arith))

    go : Dec (a < b) → chained m (a, b) && eqb (code_of a b) (j + 256) ≡ ltb m j && from_to j m (a, b)
    go (yes h) =
        rw (lt-ltb a b h, ne_eqb b (j + 256) (λ e. absurd (omega arith)), and_false (not (eqb a b) && eqb a m))
        (none h (dec_lt m j) (ℕ_discrete a j) (ℕ_discrete b m))
    go (no h) = let le : b ≤ a = omega arith in rw (le-ltb a b le) (high le (ℕ_discrete a j) (ℕ_discrete b m) (ℕ_discrete a b))

-- ---- all sides
abbrev Small : ℕ × ℕ → Type 0
Small = Both (λ x. x < 256)

first_times : (x : Bool) (d c : ℕ) (cs : List ℕ) → times c (cond x (d ∷ cs) cs) ≡ one_if (x && eqb d c) + times c cs
first_times true d c cs = refl
first_times false d c cs = omega arith

first_count : (u f : Bool) (n : ℕ) → one_if (u && f) + cond u n 0 ≡ cond u (one_if f + n) 0
first_count true f n = refl
first_count false f n = refl

no_count : (u : Bool) → ◌≡◌ {A = ℕ} 0 (cond u 0 0)
no_count true = refl
no_count false = refl

-- a code that stands for the sides from i to k, where u, and for none otherwise
times_is : (m c i k : ℕ) (u : Bool) (l : List (ℕ × ℕ))
    → ((a b : ℕ) → a < 256 → b < 256 → chained m (a, b) && eqb (code_of a b) c ≡ u && from_to i k (a, b)) → Each (0, 0) Small l
    → times c (codes_at m l) ≡ cond u (count i k l) 0
times_is m c i k u [] one s = no_count u
times_is m c i k u (e ∷ l) one s =
    first_times (chained m e) (code_of e.0 e.1) c (codes_at m l)
    ∙ rw (one e.0 e.1 (each_head s).0 (each_head s).1, times_is m c i k u l one (each_tail s))
    (first_count u (from_to i k e) (count i k l))

-- ---- the sides of the faces, the latest first
push_all : (fs : List (List ℕ)) (l : List (ℕ × ℕ)) → push_faces fs l ≡ fold_pairs push (all_sides fs) l
unfolding push_faces push_face fold_list
push_all [] l = refl
push_all (f ∷ fs) l =
    push_all fs (fold_pairs push (sides f) l) ∙ sym (fold_append (λ (e : ℕ × ℕ). push e.0 e.1) (sides f) (all_sides fs) l)

push_count : (i j : ℕ) (s l : List (ℕ × ℕ)) → count i j (fold_pairs push s l) ≡ count i j s + count i j l
unfolding fold_list
push_count i j [] l = omega arith
push_count i j (e ∷ s) l = omega (arith, push_count i j s (push e.0 e.1 l))

push_each : {P : ℕ × ℕ → Type 0} (s l : List (ℕ × ℕ)) → Each (0, 0) P s → Each (0, 0) P l → Each (0, 0) P (fold_pairs push s l)
unfolding fold_list
push_each [] l p q = q
push_each (e ∷ s) l p q = push_each s (push e.0 e.1 l) (each_tail p) (each_cons (each_head p) q)

every_in : {In : ℕ → Type 0} (p : ℕ → ℕ → Bool) (l : List (ℕ × ℕ)) → Each (0, 0) (Both In) l → ((x y : ℕ) → In x → In y → p x y ≡ true)
    → every_side p l ≡ true
every_in p [] b h = refl
every_in p (e ∷ l) b h = rw (h e.0 e.1 (each_head b).0 (each_head b).1, every_in p l (each_tail b) h)

-- ---- the answer
module _ (c es : List ℕ) {v : ℕ} (i : Each 0 (λ x. x < v) c) (h : v ≤ 256) where
  -- the sides, in order and the latest first
  abbrev all : List (ℕ × ℕ)
  all = all_sides (faces_from 0 c es)

  abbrev pushed : List (ℕ × ℕ)
  pushed = push_faces (faces_of c es) []

  pushed_is : pushed ≡ fold_pairs push all []
  unfolding faces_of
  pushed_is = push_all (faces_from 0 c es) []

  same_count : (a b : ℕ) → count a b pushed ≡ count a b all
  same_count a b = rw pushed_is (omega (arith, push_count a b all []))

  small : Each (0, 0) Small pushed
  small = rw pushed_is (push_each all [] (all_both 0 c es (each_below 256 i h)) each_nil)

  ups : (m j : ℕ) → j < 256 → times j (codes_at m pushed) ≡ cond (ltb m j) (count m j all) 0
  ups m j g = times_is m j m j (ltb m j) pushed (up m j g) small ∙ rw (same_count m j)

  downs : (m j : ℕ) → j < 256 → times (j + 256) (codes_at m pushed) ≡ cond (ltb m j) (count j m all) 0
  downs m j g = times_is m (j + 256) j m (ltb m j) pushed (down m j g) small ∙ rw (same_count j m)

  module _ (even : (m j : ℕ) → m < v → j < 256 → times j (codes_at m pushed) ≡ times (j + 256) (codes_at m pushed)) where
    as_many : (x y : ℕ) → x < v → y < v → x < y → count x y all ≡ count y x all
    as_many x y hx hy g =
        let g' : y < 256 = omega arith in
        rw (lt-ltb x y g) at (sym (ups x y g') ∙ even x y hx g' ∙ downs x y g')

    balanced : (x y : ℕ) → x < v → y < v → Dec (x < y) → Dec (y < x) → count x y all ≡ count y x all
    balanced x y hx hy (yes g) d = as_many x y hx hy g
    balanced x y hx hy (no g) (yes d) = sym (as_many y x hy hx d)
    balanced x y hx hy (no g) (no d) = let e : x ≡ y = omega arith in rw e

    closed_even : closed_of (faces_of c es) ≡ true
    unfolding closed_of faces_of
    closed_even =
        every_in (as_many_back all) all (all_both 0 c es i)
        (λ x y hx hy. eq-eqb (count x y all) (count y x all) (balanced x y hx hy (dec_lt x y) (dec_lt y x)))

  not_closed : Uneven pushed → closed_of (faces_of c es) ≡ false
  unfolding runs faces_of
  not_closed u = go (closed_of (faces_of c es)) refl (ltb u.m u.j) refl
    where
      go : (r : Bool) → closed_of (faces_of c es) ≡ r → (b : Bool) → ltb u.m u.j ≡ b → r ≡ false
      go false e b q = refl
      go true e false q =
          let none : times u.j (codes_at u.m pushed) ≡ 0 = ups u.m u.j u.below ∙ rw q in
          absurd (u.differ (none ∙ sym (downs u.m u.j u.below ∙ rw q)))
      go true e true q =
          let apart : u.m ≢ u.j = λ z. absurd (omega (arith, ltb-true u.m u.j q)) in
          let as_many : count u.m u.j all ≡ count u.j u.m all = (closed_test (faces_of c es)).0 e u.m u.j apart in
          let there : times u.j (codes_at u.m pushed) ≡ count u.m u.j all = ups u.m u.j u.below ∙ rw q in
          let back : times (u.j + 256) (codes_at u.m pushed) ≡ count u.j u.m all = downs u.m u.j u.below ∙ rw q in
          absurd (u.differ (there ∙ as_many ∙ sym back))

  pub even_closed : (r : Bool) → Even v pushed r → r ≡ closed_of (faces_of c es)
  even_closed true e = sym (closed_even (e.yes refl))
  even_closed false e = sym (not_closed (e.no refl))
