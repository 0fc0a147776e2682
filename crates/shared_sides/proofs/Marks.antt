-- The marks at a side: a mark tells its face and its direction, and the marks that faces leave are as many, and run as often up and down,
-- as the faces' own sides between the two vertices do.
use mathlib.Core.Path.{◌≡◌, refl, sym, ◌∙◌, ap}
use mathlib.Core.Logic.{◌≢◌}
use mathlib.Core.Bool.{Bool, true, false, not, ◌&&◌, beq, cond}
use mathlib.Core.List.{List, [], ◌∷◌, ◌++◌}
use Prim.Native.Nat.{ℕ, zero, suc, ◌+◌, ◌<◌, ◌≤◌}
use native.Mathlib.Omega.{arith}
use lib.Dec.{eqb, ltb, leb}
use lib.ListN.{length, get_or}
use borrow.Author.Tests.{eq-eqb, ne_eqb, lt-ltb, le-ltb, ltb-true, ltb-false, le-leb, lt-leb}
use Rattle.places.specs.Ring.{sides}
use Rattle.places.specs.Loops.{one_if}
use Rattle.exact.specs.Sides.{from_to, count, runs}
use Rattle.exact.specs.Facing.{face_by, reversed_by, occurs, has}
use Rattle.exact.proofs.Balance.{from_to_eq}
use Rattle.exact.proofs.Reversed.{sides_back, runs_none, runs_cons, in_range}
use Rattle.shared_sides.specs.Steps.{mark_of, face_of, down_of, runs_up, mark_at, marks_in, marks_from, Pair}

-- ---- a mark tells its face and its direction
pub face_of_mark : (f : ℕ) (down : Bool) → f < 256 → face_of (mark_of f down) ≡ f
face_of_mark f true h = rw (le-ltb (f + 257) 257 (omega arith)) (omega arith)
face_of_mark f false h = rw (lt-ltb (f + 1) 257 (omega arith)) (omega arith)

pub down_of_mark : (f : ℕ) (down : Bool) → f < 256 → down_of (mark_of f down) ≡ down
down_of_mark f true h = rw (le-ltb (f + 257) 257 (omega arith))
down_of_mark f false h = rw (lt-ltb (f + 1) 257 (omega arith))

pub not_below_lem : (m n : ℕ) → leb n m ≡ not (ltb m n)
not_below_lem m n = go (ltb m n) refl
  where
    go : (b : Bool) → ltb m n ≡ b → leb n m ≡ not b
    go true e = lt-leb n m (ltb-true m n e)
    go false e = le-leb n m (ltb-false m n e)

-- ---- of how many marks a test holds
abbrev pub tally : (ℕ → Bool) → List ℕ → ℕ
tally p [] = 0
tally p (m ∷ l) = one_if (p m) + tally p l

tally_append : (p : ℕ → Bool) (l k : List ℕ) → tally p (l ++ k) ≡ tally p l + tally p k
tally_append p [] k = omega arith
tally_append p (m ∷ l) k = omega (arith, tally_append p l k)

tally_same : (p q : ℕ → Bool) (l : List ℕ) → ((m : ℕ) → p m ≡ q m) → tally p l ≡ tally q l
tally_same p q [] h = refl
tally_same p q (m ∷ l) h = rw (h m, tally_same p q l h)

pub length_tally : (l : List ℕ) → tally (λ m. true) l ≡ length l
length_tally [] = refl
length_tally (m ∷ l) = omega (arith, length_tally l)

-- n where the test holds, else none
abbrev given : Bool → ℕ → ℕ
given b n = cond b n 0

given_one : (b : Bool) → one_if b ≡ given b 1
given_one true = refl
given_one false = refl

given_more : (b : Bool) (n k : ℕ) → given b (n + k) ≡ given b n + given b k
given_more true n k = refl
given_more false n k = refl

given_none : (b : Bool) → given b 0 ≡ 0
given_none true = refl
given_none false = refl

module _ (p : ℕ → Bool) {i j : ℕ} (apart : i ≢ j) where
  tally_at : (f : ℕ) (e : ℕ × ℕ)
      → tally p (mark_at i j f e)
      ≡ given (p (mark_of f false)) (one_if (from_to i j e)) + given (p (mark_of f true)) (one_if (from_to j i e))
  tally_at f e = go (from_to i j e) (from_to j i e) refl refl
    where
      go : (a b : Bool) → from_to i j e ≡ a → from_to j i e ≡ b → tally p (cond a (mark_of f false ∷ []) (cond b (mark_of f true ∷ []) []))
          ≡ given (p (mark_of f false)) (one_if a) + given (p (mark_of f true)) (one_if b)
      go true true u v = absurd (apart (sym (from_to_eq i j e u).0 ∙ (from_to_eq j i e v).0))
      go true false u v = omega (arith, given_one (p (mark_of f false)), given_none (p (mark_of f true)))
      go false true u v = omega (arith, given_one (p (mark_of f true)), given_none (p (mark_of f false)))
      go false false u v = omega (arith, given_none (p (mark_of f false)), given_none (p (mark_of f true)))

  -- of the marks that the face f leaves
  tally_in : (f : ℕ) (l : List (ℕ × ℕ))
      → tally p (marks_in i j f l) ≡ given (p (mark_of f false)) (count i j l) + given (p (mark_of f true)) (count j i l)
  tally_in f [] = omega (arith, given_none (p (mark_of f false)), given_none (p (mark_of f true)))
  tally_in f (e ∷ l) = omega (
    arith,
    tally_append p (mark_at i j f e) (marks_in i j f l),
    tally_at f e,
    tally_in f l,
    given_more (p (mark_of f false)) (one_if (from_to i j e)) (count i j l),
    given_more (p (mark_of f true)) (one_if (from_to j i e)) (count j i l),
  )

module _ {i j : ℕ} (apart : i ≢ j) where
  -- ---- how many there are
  length_from : (f : ℕ) (fs : List (List ℕ)) → length (marks_from i j f fs) ≡ occurs i j fs
  length_from f fs = sym (length_tally (marks_from i j f fs)) ∙ go f fs
    where
      go : (f : ℕ) (fs : List (List ℕ)) → tally (λ m. true) (marks_from i j f fs) ≡ occurs i j fs
      go f [] = omega (arith, runs_none i j, runs_none j i)
      go f (face ∷ fs) = omega (
        arith,
        tally_append (λ m. true) (marks_in i j f (sides face)) (marks_from i j (suc f) fs),
        tally_in (λ m. true) apart f (sides face),
        go (suc f) fs,
        runs_cons i j face fs,
        runs_cons j i face fs,
      )

  pub marks_length : (fs : List (List ℕ)) → length (marks_from i j 0 fs) ≡ occurs i j fs
  marks_length fs = length_from 0 fs

  -- ---- how many run up and down, each face reversed where the choice says so
  abbrev ups : (ℕ → Bool) → ℕ → Bool
  ups c m = runs_up (c (face_of m)) m

  abbrev downs : (ℕ → Bool) → ℕ → Bool
  downs c m = not (ups c m)

  up_mark : (c : ℕ → Bool) (f : ℕ) (down : Bool) → f < 256 → ups c (mark_of f down) ≡ beq (c f) down
  up_mark c f down h = rw (face_of_mark f down h, down_of_mark f down h)

  up_face : (b : Bool) (face : List ℕ)
      → given (beq b false) (count i j (sides face)) + given (beq b true) (count j i (sides face))
      ≡ count i j (sides (face_by b face))
  up_face true face = omega (arith, sides_back i j face)
  up_face false face = omega arith

  down_face : (b : Bool) (face : List ℕ)
      → given (not (beq b false)) (count i j (sides face)) + given (not (beq b true)) (count j i (sides face))
      ≡ count j i (sides (face_by b face))
  down_face true face = omega (arith, sides_back j i face)
  down_face false face = omega arith

  ups_in : (c : ℕ → Bool) (f : ℕ) (face : List ℕ) → f < 256
      → tally (ups c) (marks_in i j f (sides face)) ≡ count i j (sides (face_by (c f) face))
  ups_in c f face h = tally_in (ups c) apart f (sides face) ∙ rw (up_mark c f false h, up_mark c f true h) (up_face (c f) face)

  downs_in : (c : ℕ → Bool) (f : ℕ) (face : List ℕ) → f < 256
      → tally (downs c) (marks_in i j f (sides face)) ≡ count j i (sides (face_by (c f) face))
  downs_in c f face h = tally_in (downs c) apart f (sides face) ∙ rw (up_mark c f false h, up_mark c f true h) (down_face (c f) face)

  -- d is the choice c from the face f on
  next_choice : (c d : ℕ → Bool) (f : ℕ) → ((k : ℕ) → d k ≡ c (f + k)) → (k : ℕ) → d (suc k) ≡ c (suc f + k)
  next_choice c d f h k = let e : f + suc k ≡ suc f + k = omega arith in h (suc k) ∙ ap c e

  first_choice : (c d : ℕ → Bool) (f : ℕ) → ((k : ℕ) → d k ≡ c (f + k)) → d 0 ≡ c f
  first_choice c d f h = let e : f + 0 ≡ f = omega arith in h 0 ∙ ap c e

  ups_from : (c d : ℕ → Bool) (f : ℕ) (fs : List (List ℕ)) → f + length fs ≤ 256 → ((k : ℕ) → d k ≡ c (f + k))
      → tally (ups c) (marks_from i j f fs) ≡ runs i j (reversed_by d fs)
  ups_from c d f [] h e = sym (runs_none i j)
  ups_from c d f (face ∷ fs) h e = omega (
    arith,
    tally_append (ups c) (marks_in i j f (sides face)) (marks_from i j (suc f) fs),
    ups_in c f face (omega arith),
    ap (λ b. count i j (sides (face_by b face))) (first_choice c d f e),
    ups_from c (λ k. d (suc k)) (suc f) fs (omega arith) (next_choice c d f e),
    runs_cons i j (face_by (d 0) face) (reversed_by (λ k. d (suc k)) fs),
  )

  downs_from : (c d : ℕ → Bool) (f : ℕ) (fs : List (List ℕ)) → f + length fs ≤ 256 → ((k : ℕ) → d k ≡ c (f + k))
      → tally (downs c) (marks_from i j f fs) ≡ runs j i (reversed_by d fs)
  downs_from c d f [] h e = sym (runs_none j i)
  downs_from c d f (face ∷ fs) h e = omega (
    arith,
    tally_append (downs c) (marks_in i j f (sides face)) (marks_from i j (suc f) fs),
    downs_in c f face (omega arith),
    ap (λ b. count j i (sides (face_by b face))) (first_choice c d f e),
    downs_from c (λ k. d (suc k)) (suc f) fs (omega arith) (next_choice c d f e),
    runs_cons j i (face_by (d 0) face) (reversed_by (λ k. d (suc k)) fs),
  )

  pub marks_up : (c : ℕ → Bool) (fs : List (List ℕ)) → length fs ≤ 256
      → tally (λ m. runs_up (c (face_of m)) m) (marks_from i j 0 fs) ≡ runs i j (reversed_by c fs)
  marks_up c fs h = ups_from c c 0 fs (omega arith) (λ k. let e : k ≡ 0 + k = omega arith in ap c e)

  pub marks_down : (c : ℕ → Bool) (fs : List (List ℕ)) → length fs ≤ 256
      → tally (λ m. not (runs_up (c (face_of m)) m)) (marks_from i j 0 fs) ≡ runs j i (reversed_by c fs)
  marks_down c fs h = downs_from c c 0 fs (omega arith) (λ k. let e : k ≡ 0 + k = omega arith in ap c e)

  -- ---- those of one face: w is of how many of its marks the test q holds
  module _ (q : ℕ → Bool) (w : List ℕ → ℕ) (none : w [] ≡ 0)
      (one : (f : ℕ) (face : List ℕ) → f < 256 → tally q (marks_in i j f (sides face)) ≡ w face) where
    abbrev of_face : ℕ → ℕ → Bool
    of_face g m = eqb (face_of m) g && q m

    same_face : (f g : ℕ) (face : List ℕ) → f < 256 → g ≡ f → tally (of_face g) (marks_in i j f (sides face)) ≡ w face
    same_face f g face h e =
        tally_in (of_face g) apart f (sides face)
        ∙ rw (face_of_mark f false h, face_of_mark f true h, eq-eqb f g (sym e)) (sym (tally_in q apart f (sides face)) ∙ one f face h)

    other_face : (f g : ℕ) (face : List ℕ) → f < 256 → f ≢ g → tally (of_face g) (marks_in i j f (sides face)) ≡ 0
    other_face f g face h n =
        tally_in (of_face g) apart f (sides face) ∙ rw (face_of_mark f false h, face_of_mark f true h, ne_eqb f g n) (omega arith)

    later_faces : (f g : ℕ) (fs : List (List ℕ)) → f + length fs ≤ 256 → g < f → tally (of_face g) (marks_from i j f fs) ≡ 0
    later_faces f g [] h l = refl
    later_faces f g (face ∷ fs) h l = omega (
      arith,
      tally_append (of_face g) (marks_in i j f (sides face)) (marks_from i j (suc f) fs),
      other_face f g face (omega arith) (λ e. absurd (omega arith)),
      later_faces (suc f) g fs (omega arith) (omega arith),
    )

    at_number : (f g n : ℕ) (fs : List (List ℕ)) → f + length fs ≤ 256 → g ≡ f + n
        → tally (of_face g) (marks_from i j f fs) ≡ w (get_or fs n [])
    at_number f g n [] h e = sym none
    at_number f g zero (face ∷ fs) h e = omega (
      arith,
      tally_append (of_face g) (marks_in i j f (sides face)) (marks_from i j (suc f) fs),
      same_face f g face (omega arith) (omega arith),
      later_faces (suc f) g fs (omega arith) (omega arith),
    )
    at_number f g (suc n) (face ∷ fs) h e = omega (
      arith,
      tally_append (of_face g) (marks_in i j f (sides face)) (marks_from i j (suc f) fs),
      other_face f g face (omega arith) (λ z. absurd (omega arith)),
      at_number (suc f) g n fs (omega arith) (omega arith),
    )

  and_true : (b : Bool) → b && true ≡ b
  and_true true = refl
  and_true false = refl

  pub marks_has : (g : ℕ) (fs : List (List ℕ)) → length fs ≤ 256
      → tally (λ m. eqb (face_of m) g) (marks_from i j 0 fs) ≡ has i j (get_or fs g [])
  marks_has g fs h =
      tally_same (λ m. eqb (face_of m) g) (λ m. eqb (face_of m) g && true) (marks_from i j 0 fs) (λ m. sym (and_true (eqb (face_of m) g)))
      ∙ at_number (λ m. true) (has i j) refl (λ f face l. tally_in (λ m. true) apart f (sides face)) 0 g g fs (omega arith) (omega arith)

  pub marks_run : (g : ℕ) (back : Bool) (fs : List (List ℕ)) → length fs ≤ 256
      → tally (λ m. eqb (face_of m) g && runs_up back m) (marks_from i j 0 fs) ≡ count i j (sides (face_by back (get_or fs g [])))
  marks_run g back fs h =
      at_number (runs_up back) (λ face. count i j (sides (face_by back face))) (none back) (ups_in (λ k. back)) 0 g g fs (omega arith)
      (omega arith)
    where
      none : (b : Bool) → count i j (sides (face_by b [])) ≡ 0
      none true = refl
      none false = refl

  -- ---- two marks
  pub two_marks : (fs : List (List ℕ)) (x y : ℕ) → 0 < x → 0 < y → length fs ≤ 256 → marks_from i j 0 fs ≡ x ∷ y ∷ [] → Pair fs i j x y
  two_marks fs x y hx hy h e =
      record {
        first_above = hx;
        second_above = hy;
        first = in_range i j fs (face_of x) (omega (arith, has_of (face_of x), ap one_if (eq-eqb (face_of x) (face_of x) refl)));
        second = in_range i j fs (face_of y) (omega (arith, has_of (face_of y), ap one_if (eq-eqb (face_of y) (face_of y) refl)));
        has_is = has_of;
        up_is = λ g back. sym (marks_run g back fs h) ∙ two (λ m. eqb (face_of m) g && runs_up back m);
        ups = λ c. sym (marks_up c fs h) ∙ two (λ m. runs_up (c (face_of m)) m);
        downs = λ c. sym (marks_down c fs h) ∙ two (λ m. not (runs_up (c (face_of m)) m));
      }
    where
      two : (p : ℕ → Bool) → tally p (marks_from i j 0 fs) ≡ one_if (p x) + one_if (p y)
      two p = rw e (omega arith)

      has_of : (g : ℕ) → has i j (get_or fs g []) ≡ one_if (eqb (face_of x) g) + one_if (eqb (face_of y) g)
      has_of g = sym (marks_has g fs h) ∙ two (λ m. eqb (face_of m) g)
