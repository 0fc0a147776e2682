-- Counts of sides: of a face reversed, of the faces after a choice, of one face and of two.
-- A face reversed runs each of its sides the other way, so a choice moves counts of sides i to j over to j to i, and leaves their sum.
use mathlib.Core.Path.{◌≡◌, refl, sym, ◌∙◌, ap}
use mathlib.Core.Logic.{◌≢◌, by_cases}
use mathlib.Core.Bool.{Bool, true, false, not}
use mathlib.Core.List.{List, [], ◌∷◌, ◌++◌, reverse, reverse-cons}
use Prim.Native.Nat.{ℕ, zero, suc, ◌+◌, ◌<◌, ◌≤◌}
use native.Mathlib.Decide.{dec_lt}
use native.Mathlib.Omega.{arith}
use lib.Dec.{eqb}
use lib.ListN.{length, get_or, length-reverse}
use Rattle.places.specs.Ring.{walk, sides}
use Rattle.places.specs.Loops.{one_if}
use Rattle.exact.specs.Sides.{all_sides, count, runs}
use Rattle.exact.specs.Facing.{face_by, reversed_by, occurs, has}
use Rattle.exact.proofs.Balance.{and_comm}

pub count_append : (i j : ℕ) (l m : List (ℕ × ℕ)) → count i j (l ++ m) ≡ count i j l + count i j m
count_append i j [] m = omega arith
count_append i j (e ∷ l) m = omega (arith, count_append i j l m)

-- ---- a face reversed
walk_split : (a : ℕ) (l : List ℕ) (b : ℕ) (m : List ℕ) (z : ℕ) → walk a (l ++ b ∷ m) z ≡ walk a l b ++ walk b m z
walk_split a [] b m z = refl
walk_split a (x ∷ l) b m z = ap (λ w. (a, x) ∷ w) (walk_split x l b m z)

walk_back : (i j a : ℕ) (l : List ℕ) (z : ℕ) → count i j (walk z (reverse l) a) ≡ count j i (walk a l z)
walk_back i j a [] z = rw (and_comm (eqb z i) (eqb a j))
walk_back i j a (b ∷ l) z =
    rw (reverse-cons b l, walk_split z (reverse l) b [] a, count_append i j (walk z (reverse l) b) (walk b [] a))
    (omega (arith, walk_back i j b l z, ap one_if (and_comm (eqb b i) (eqb a j))))

-- a face that ends in a has the sides of the walk from a to a
around : (i j a : ℕ) (m : List ℕ) → count i j (sides (m ++ a ∷ [])) ≡ count i j (walk a m a)
around i j a [] = refl
around i j a (c ∷ m) = rw (walk_split c m a [] c, count_append i j (walk c m a) (walk a [] c)) (omega arith)

pub sides_back : (i j : ℕ) (f : List ℕ) → count i j (sides (reverse f)) ≡ count j i (sides f)
sides_back i j [] = refl
sides_back i j (a ∷ l) = rw (reverse-cons a l) (around i j a (reverse l) ∙ walk_back i j a l a)

pub by_has : (i j : ℕ) (b : Bool) (f : List ℕ) → has i j (face_by b f) ≡ has i j f
by_has i j true f = omega (arith, sides_back i j f, sides_back j i f)
by_has i j false f = refl

-- the other way round, each side runs the other way
pub by_not : (i j : ℕ) (b : Bool) (f : List ℕ) → count i j (sides (face_by (not b) f)) ≡ count j i (sides (face_by b f))
by_not i j true f = sym (sides_back j i f)
by_not i j false f = sides_back i j f

pub length_by : (b : Bool) (f : List ℕ) → length (face_by b f) ≡ length f
length_by true f = length-reverse f
length_by false f = refl

-- ---- all faces
pub runs_none : (i j : ℕ) → runs i j [] ≡ 0
unfolding runs
runs_none i j = refl

pub runs_cons : (i j : ℕ) (f : List ℕ) (fs : List (List ℕ)) → runs i j (f ∷ fs) ≡ count i j (sides f) + runs i j fs
unfolding runs
runs_cons i j f fs = count_append i j (sides f) (all_sides fs)

pub runs_one : (i j : ℕ) (f : List ℕ) → runs i j (f ∷ []) ≡ count i j (sides f)
runs_one i j f = omega (arith, runs_cons i j f [], runs_none i j)

pub runs_last : (i j : ℕ) (fs : List (List ℕ)) (f : List ℕ) → runs i j (fs ++ f ∷ []) ≡ runs i j fs + count i j (sides f)
runs_last i j [] f = omega (arith, runs_one i j f, runs_none i j)
runs_last i j (g ∷ fs) f = omega (arith, runs_cons i j g (fs ++ f ∷ []), runs_cons i j g fs, runs_last i j fs f)

-- a choice leaves how often a side without direction occurs
pub occurs_by : (i j : ℕ) (c : ℕ → Bool) (fs : List (List ℕ)) → occurs i j (reversed_by c fs) ≡ occurs i j fs
occurs_by i j c [] = refl
occurs_by i j c (f ∷ fs) =
    let d : ℕ → Bool = λ k. c (suc k) in
    omega (
      arith,
      occurs_by i j d fs,
      by_has i j (c 0) f,
      runs_cons i j f fs,
      runs_cons j i f fs,
      runs_cons i j (face_by (c 0) f) (reversed_by d fs),
      runs_cons j i (face_by (c 0) f) (reversed_by d fs),
    )

-- the face at k after a choice; past the last there is none, reversed or not
pub face_by_lem : (c : ℕ → Bool) (fs : List (List ℕ)) (k : ℕ) → get_or (reversed_by c fs) k [] ≡ face_by (c k) (get_or fs k [])
face_by_lem c [] k = go (c k)
  where
    go : (b : Bool) → ◌≡◌ {A = List ℕ} [] (face_by b [])
    go true = refl
    go false = refl
face_by_lem c (f ∷ fs) zero = refl
face_by_lem c (f ∷ fs) (suc k) = face_by_lem (λ n. c (suc n)) fs k

-- a choice matters only at the numbers of the faces
pub same_faces : (fs : List (List ℕ)) (c d : ℕ → Bool) → ((k : ℕ) → k < length fs → c k ≡ d k) → reversed_by c fs ≡ reversed_by d fs
same_faces [] c d h = refl
same_faces (f ∷ fs) c d h = rw (h 0 (omega arith), same_faces fs (λ k. c (suc k)) (λ k. d (suc k)) (λ k l. h (suc k) (omega arith)))

-- ---- one face, or two, have no more sides from i to j than all
pub one_of : (i j : ℕ) (fs : List (List ℕ)) (k : ℕ) → count i j (sides (get_or fs k [])) ≤ runs i j fs
one_of i j [] k = omega arith
one_of i j (f ∷ fs) zero = omega (arith, runs_cons i j f fs)
one_of i j (f ∷ fs) (suc k) = omega (arith, runs_cons i j f fs, one_of i j fs k)

pub two_of : (i j : ℕ) (fs : List (List ℕ)) (f g : ℕ) → f ≢ g
    → count i j (sides (get_or fs f [])) + count i j (sides (get_or fs g [])) ≤ runs i j fs
two_of i j [] f g n = omega arith
two_of i j (x ∷ fs) zero zero n = absurd (n refl)
two_of i j (x ∷ fs) zero (suc g) n = omega (arith, runs_cons i j x fs, one_of i j fs g)
two_of i j (x ∷ fs) (suc f) zero n = omega (arith, runs_cons i j x fs, one_of i j fs f)
two_of i j (x ∷ fs) (suc f) (suc g) n = omega (arith, runs_cons i j x fs, two_of i j fs f g (λ e. n (ap suc e)))

-- a face that has a side is one of the faces
pub in_range : (i j : ℕ) (fs : List (List ℕ)) (k : ℕ) → 0 < has i j (get_or fs k []) → k < length fs
in_range i j [] k h = absurd (omega arith)
in_range i j (f ∷ fs) zero h = omega arith
in_range i j (f ∷ fs) (suc k) h = omega (arith, in_range i j fs k h)

-- a face that has the side between i and j, if there is one
pub record User (i j : ℕ) (fs : List (List ℕ)) : Type 0 where
  pub k : ℕ
  pub so : 0 < has i j (get_or fs k [])

pub user : (i j : ℕ) (fs : List (List ℕ)) → 0 < occurs i j fs → User i j fs
user i j [] h = absurd (omega (arith, runs_none i j, runs_none j i))
user i j (f ∷ fs) h = by_cases (dec_lt 0 (has i j f)) (λ p. record { k = 0; so = p }) (λ n.
    let r = user i j fs (omega (arith, runs_cons i j f fs, runs_cons j i f fs)) in
    record { k = suc r.k; so = r.so })
