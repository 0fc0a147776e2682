-- The full table: a side without a second mark does not occur twice, and where each side occurs twice the table has both its marks.
use mathlib.Core.Path.{◌≡◌, refl, sym, ◌∙◌, ap}
use mathlib.Core.Logic.{◌≢◌}
use mathlib.Core.Bool.{Bool, true, false, not, cond}
use mathlib.Core.List.{List, [], ◌∷◌, ◌++◌}
use Prim.Native.Nat.{ℕ, ◌*◌, ◌<◌, ◌≤◌}
use native.Mathlib.Decide.{ℕ_discrete, dec_lt}
use native.Mathlib.Omega.{arith}
use lib.Dec.{eqb}
use lib.ListN.{length, get_or}
use borrow.Author.Tests.{eq-eqb, ne_eqb, lt-ltb, le-ltb, eqb-false}
use Rattle.places.specs.Loops.{any_of}
use Rattle.places.specs.Lists.{Each}
use Rattle.places.specs.Ring.{sides}
use Rattle.places.specs.Steps.{Blank}
use Rattle.places.proofs.Lists.{each_head, each_tail}
use Rattle.exact.specs.Sides.{all_sides}
use Rattle.exact.specs.Facing.{occurs, strange, doubled, unfit}
use Rattle.exact.proofs.Conditions.{strange_is}
use Rattle.side_table.specs.Numbers.{Known, Numbering}
use Rattle.side_table.proofs.Pairs.{Both, all_both}
use Rattle.cell.specs.Faces.{faces_of}
use Rattle.shared_sides.specs.Steps.{marks_from, held, held_at, Sane, Left, Ready, second_at, lonely, lonely_face, lonely_faces, Pair}
use Rattle.shared_sides.specs.Steps.{Mates}
use Rattle.shared_sides.proofs.Marks.{marks_length, two_marks}

-- ---- a blank table holds no marks
pub blank_held : (at : ℕ → ℕ → ℕ) (t : List ℕ) (i j : ℕ) → Blank t → held_at at t i j ≡ []
unfolding held_at
blank_held at t i j z = let e : get_or t (at i j) 0 ≡ 0 = omega (arith, z.zero (at i j)) in rw e

pub blank_sane : {In : ℕ → Type 0} {at : ℕ → ℕ → ℕ} {t : List ℕ} → Blank t → Sane In at t
blank_sane {In} {at} {t} z = record { first = λ i j o hi hj e. omega (arith, z.zero (at j i)) }

-- ---- two marks or fewer
held_two : (x y : ℕ) → (x ≡ 0 → y ≡ 0) → eqb y 0 ≡ not (eqb (length (held x y)) 2)
held_two x y s = go (ℕ_discrete x 0) (ℕ_discrete y 0)
  where
    go : Dec (x ≡ 0) → Dec (y ≡ 0) → eqb y 0 ≡ not (eqb (length (held x y)) 2)
    go (yes p) d = rw (p, s p)
    go (no p) (yes q) = rw (ne_eqb x 0 p, q)
    go (no p) (no q) = rw (ne_eqb x 0 p, ne_eqb y 0 q)

held_all : (x y : ℕ) → length (held x y) ≡ 2 → held x y ≡ x ∷ y ∷ []
held_all x y = go (eqb x 0) (eqb y 0)
  where
    go : (a b : Bool) → length (cond a [] (x ∷ cond b [] (y ∷ []))) ≡ 2 → cond a [] (x ∷ cond b [] (y ∷ [])) ≡ x ∷ y ∷ []
    go true b e = absurd (omega arith)
    go false true e = absurd (omega arith)
    go false false e = refl

held_above : (x y : ℕ) → length (held x y) ≡ 2 → (0 < x) × (0 < y)
held_above x y = go (eqb x 0) (eqb y 0) refl refl
  where
    go : (a b : Bool) → eqb x 0 ≡ a → eqb y 0 ≡ b → length (cond a [] (x ∷ cond b [] (y ∷ []))) ≡ 2 → (0 < x) × (0 < y)
    go true b p q e = absurd (omega arith)
    go false true p q e = absurd (omega arith)
    go false false p q e =
        let hx : x ≢ 0 = eqb-false x 0 p in
        let hy : y ≢ 0 = eqb-false y 0 q in
        (omega arith, omega arith)

-- ---- the table has the marks of all faces
pub record Filled (In : ℕ → Type 0) (at : ℕ → ℕ → ℕ) (t : List ℕ) (fs : List (List ℕ)) : Type 0 where
  pub sane : Sane In at t
  pub all : (i j : ℕ) → i < j → In i → In j → held_at at t i j ≡ marks_from i j 0 fs

module _ {In : ℕ → Type 0} {at : ℕ → ℕ → ℕ} {t₀ t : List ℕ} (fs : List (List ℕ)) {r : Bool} (blank : Blank t₀)
    (l : Left In at t₀ (λ i j. marks_from i j 0 fs) t r) where
  pub filled : r ≡ true → Filled In at t fs
  filled e = record { sane = l.sane e; all = λ i j o hi hj. l.stand e i j o hi hj ∙ rw (blank_held at t₀ i j blank) }

  -- a side that would have a third mark occurs three times or more
  pub crowded : r ≡ false → any_of (strange fs) (all_sides fs) ≡ true
  crowded e = go (any_of (strange fs) (all_sides fs)) refl
    where
      go : (b : Bool) → any_of (strange fs) (all_sides fs) ≡ b → b ≡ true
      go true q = refl
      go false q =
          let c = l.full e in
          let n : c.i ≢ c.j = λ z. absurd (omega (arith, c.order)) in
          let three : 3 ≤ length (marks_from c.i c.j 0 fs) = rw (blank_held at t₀ c.i c.j blank) at c.three in
          let many = marks_length n fs in
          absurd (omega (arith, (strange_is fs).0 q c.i c.j n (omega arith)))

-- face by face is side by side
module _ {A : Type 0} (test : A → Bool) where
  any_append : (l m : List A) → any_of test (l ++ m) ≡ cond (any_of test l) true (any_of test m)
  unfolding any_of
  any_append [] m = refl
  any_append (e ∷ l) m = rw (any_append l m) (go (test e) (any_of test l) (any_of test m))
    where
      go : (a b c : Bool) → cond a true (cond b true c) ≡ cond (cond a true b) true c
      go true b c = refl
      go false b c = refl

lonely_sides : (at : ℕ → ℕ → ℕ) (t : List ℕ) (fs : List (List ℕ)) → lonely_faces at t fs ≡ any_of (lonely at t) (all_sides fs)
unfolding lonely_faces lonely_face any_of
lonely_sides at t [] = refl
lonely_sides at t (f ∷ fs) = rw (any_append (lonely at t) (sides f) (all_sides fs), lonely_sides at t fs)

module _ {In : ℕ → Type 0} {at : ℕ → ℕ → ℕ} {t : List ℕ} {fs : List (List ℕ)} (f : Filled In at t fs) where
  one_side : (i j : ℕ) → i < j → In i → In j → eqb (get_or t (at j i) 0) 0 ≡ not (eqb (occurs i j fs) 2)
  unfolding held_at
  one_side i j o hi hj =
      let n : i ≢ j = λ e. absurd (omega arith) in
      held_two (get_or t (at i j) 0) (get_or t (at j i) 0) (f.sane.first i j o hi hj)
      ∙ ap (λ k. not (eqb k 2)) (ap length (f.all i j o hi hj) ∙ marks_length n fs)

  -- a side has no second mark where it does not occur twice
  lonely_strange : (e : ℕ × ℕ) → Both In e → lonely at t e ≡ strange fs e
  unfolding lonely second_at strange
  lonely_strange e b = go (ℕ_discrete e.0 e.1) (dec_lt e.0 e.1)
    where
      go : Dec (e.0 ≡ e.1) → Dec (e.0 < e.1) → lonely at t e ≡ strange fs e
      go (yes p) d = rw (eq-eqb e.0 e.1 p)
      go (no p) (yes q) = rw (lt-ltb e.0 e.1 q, one_side e.0 e.1 q b.0 b.1)
      go (no p) (no q) =
          let o : e.1 < e.0 = omega arith in
          let s : occurs e.1 e.0 fs ≡ occurs e.0 e.1 fs = omega arith in
          rw (le-ltb e.0 e.1 (omega arith), one_side e.1 e.0 o b.1 b.0, s)

  any_same : (p q : ℕ × ℕ → Bool) (l : List (ℕ × ℕ)) → Each (0, 0) (Both In) l → ((e : ℕ × ℕ) → Both In e → p e ≡ q e)
      → any_of p l ≡ any_of q l
  unfolding any_of
  any_same p q [] b h = refl
  any_same p q (e ∷ l) b h = rw (h e (each_head b), any_same p q l (each_tail b) h)

  -- and so of all sides
  pub lonely_is : Each (0, 0) (Both In) (all_sides fs) → lonely_faces at t fs ≡ any_of (strange fs) (all_sides fs)
  lonely_is b = lonely_sides at t fs ∙ any_same (lonely at t) (strange fs) (all_sides fs) b lonely_strange

  -- each side occurs twice: the table has its two marks
  pub mates : length fs ≤ 256 → any_of (strange fs) (all_sides fs) ≡ false → Mates In at t fs
  unfolding held_at
  mates h e = record { pair = two }
    where
      two : (i j : ℕ) → i < j → In i → In j → 0 < occurs i j fs → Pair fs i j (get_or t (at i j) 0) (get_or t (at j i) 0)
      two i j o hi hj k =
          let n : i ≢ j = λ z. absurd (omega arith) in
          let x = get_or t (at i j) 0 in
          let y = get_or t (at j i) 0 in
          let all : held x y ≡ marks_from i j 0 fs = f.all i j o hi hj in
          let size : length (held x y) ≡ 2 = ap length all ∙ marks_length n fs ∙ (strange_is fs).0 e i j n k in
          let above = held_above x y size in
          two_marks n fs x y above.0 above.1 h (sym all ∙ held_all x y size)

-- ---- the answer
pub unfit_crowded : (fs : List (List ℕ)) → any_of (strange fs) (all_sides fs) ≡ true → false ≡ not (unfit fs)
unfolding unfit
unfit_crowded fs e = rw e

pub unfit_else : (fs : List (List ℕ)) {d : Bool} → any_of (strange fs) (all_sides fs) ≡ false → d ≡ any_of doubled fs
    → not d ≡ not (unfit fs)
unfolding unfit
unfit_else fs e q = rw (e, q)

-- ---- what the functions are given
pub ready_blank : {number : List ℕ} {k : ℕ} {t : List ℕ} → Numbering number k → k * k ≤ length t → Blank t → Ready number k t
ready_blank g w z = record { numbering = g; wide = w; sane = blank_sane z }

pub known_below : {number : List ℕ} {k : ℕ} {c : List ℕ} → Numbering number k → Each 0 (Known number k) c → Each 0 (λ x. x < 256) c
known_below g t = record { holds = λ i h. omega (arith, (t.holds i h).within, g.size) }

-- a test of the full table for sides with no second mark is one of the faces for sides that do not occur twice
pub told_strange : {In : ℕ → Type 0} {at : ℕ → ℕ → ℕ} {t : List ℕ} {r : Bool} (c es : List ℕ) → Filled In at t (faces_of c es) → Each 0 In c
    → r ≡ lonely_faces at t (faces_of c es) → any_of (strange (faces_of c es)) (all_sides (faces_of c es)) ≡ r
unfolding faces_of
told_strange c es f i e = sym (e ∙ lonely_is f (all_both 0 c es i))
