-- The sides at one place, for `paired_at`, and at all, for `paired`: those that leave the place a go to the places after the corners at a,
-- and the face's backward side to the place before a; those that come to it, from the places before these corners and from the place after
-- a. So the stamps tell whether the place is paired.
use mathlib.Core.Path.{◌≡◌, refl, sym, ◌∙◌}
use mathlib.Core.Logic.Iff
use mathlib.Core.Logic.{◌↔◌, ◌≢◌, by_cases}
use mathlib.Core.Bool.{Bool, true, false, false≢true, ◌&&◌, cond}
use mathlib.Core.List.{List, [], ◌∷◌, ◌++◌, map}
use Prim.Native.Nat.{ℕ, zero, suc, ◌+◌, ◌<◌, ◌≤◌}
use native.Mathlib.Decide.{ℕ_discrete}
use native.Mathlib.Omega.{arith}
use lib.Dec.{eqb, ltb}
use lib.ListN.{length, get_or, set}
use borrow.Author.Tests.{eqb-true, ltb-true, eq-eqb, ne_eqb, lt-ltb}
use Rattle.places.specs.Lists.{Each}
use Rattle.places.specs.Ring.{next_of, prev_of}
use Rattle.places.specs.Steps.{Fresh}
use Rattle.places.specs.Stored.{in_threes}
use Rattle.places.proofs.Lists.{each_nil, each_cons, each_append}
use Rattle.places.proofs.Rings.{next_below, prev_below, next_prev, prev_next}
use Rattle.places.proofs.Stamps.{fresh_more}
use Rattle.cut_check.specs.CutCheck.{face_side}
use Rattle.cut_check.specs.Steps.{runs_beside, PairedAt, PairedBelow, Paired, place_after, place_before, corners_at, times}
use Rattle.cut_check.specs.Steps.{CheckedCorners, set_all, taken, Took}
use Rattle.cut_check.proofs.Corners.{after_place, before_place, times_last, runs_after, runs_before}
use Rattle.cut_check.proofs.Stamps.{length_all, all_last, fresh_all, stamped_where, taken_last, taken_is}

-- ---- the face's sides at a place
-- the side that comes to the place a comes from the place before it, and the one that leaves it goes to the place after it
face_to : (n j a : ℕ) → a < n → face_side n j a ≡ eqb (prev_of a n) j
unfolding face_side
face_to n j a h = by_cases (ℕ_discrete (prev_of a n) j) one (λ e. other e (ltb j n) refl (eqb (next_of j n) a) refl)
  where
    one : prev_of a n ≡ j → (ltb j n && eqb (next_of j n) a) ≡ eqb (prev_of a n) j
    one e =
        rw (
          ← e,
          lt-ltb (prev_of a n) n (prev_below a n h),
          eq-eqb (next_of (prev_of a n) n) a (next_prev a n h),
          eq-eqb (prev_of a n) (prev_of a n) refl,
        )

    other : prev_of a n ≢ j → (p : Bool) → ltb j n ≡ p → (q : Bool) → eqb (next_of j n) a ≡ q → (p && q) ≡ eqb (prev_of a n) j
    other e true f true g =
        let back : prev_of (next_of j n) n ≡ j = prev_next j n (ltb-true j n f) in
        absurd (e (rw (eqb-true (next_of j n) a g) at back))
    other e true f false g = rw (ne_eqb (prev_of a n) j e)
    other e false f q g = rw (ne_eqb (prev_of a n) j e)

face_from : (n a j : ℕ) → a < n → face_side n a j ≡ eqb (next_of a n) j
unfolding face_side
face_from n a j h = rw (lt-ltb a n h)

-- ---- the places to which sides go from a, and those from which they come: of the triangles, and of all
abbrev leaving : List ℕ → ℕ → List ℕ
leaving c a = map (place_after c) (corners_at a c (length c))

abbrev coming : List ℕ → ℕ → List ℕ
coming c a = map (place_before c) (corners_at a c (length c))

abbrev goes_to : ℕ → List ℕ → ℕ → List ℕ
goes_to n c a = leaving c a ++ prev_of a n ∷ []

abbrev comes_from : ℕ → List ℕ → ℕ → List ℕ
comes_from n c a = coming c a ++ next_of a n ∷ []

-- what f gives of each of the first s corners has P, so what it gives of those at the place a has
each_corner : {P : ℕ → Type 0} (f : ℕ → ℕ) (a : ℕ) (c : List ℕ) (s : ℕ) → ((p : ℕ) → p < s → P (f p)) → Each 0 P (map f (corners_at a c s))
unfolding corners_at
each_corner f a c zero h = each_nil
each_corner {P} f a c (suc s) h = go (eqb (get_or c s 0) a) (each_corner f a c s (λ p g. h p (omega arith)))
  where
    go : (b : Bool) → Each 0 P (map f (corners_at a c s)) → Each 0 P (map f (cond b (s ∷ corners_at a c s) (corners_at a c s)))
    go true e = each_cons (h s (omega arith)) e
    go false e = e

-- once the stamps are taken off, as r says: what stands at the place p decides, and the stamp of the place after a is still to come
pub record Decided (n : ℕ) (c : List ℕ) (a p : ℕ) (stamp : List ℕ) (r : Bool) : Type 0 where
  pub answer : ((r && eqb (get_or stamp p 0) (a + 1)) ≡ true) ↔ PairedAt n (in_threes c) a
  pub fresh : r ≡ true → Fresh (a + 1 + 1) stamp

module _ {n : ℕ} {c : List ℕ} {a p : ℕ} {stamp : List ℕ} {r : Bool} (d : Decided n c a p stamp r) where
  pub decided_no : r ≡ false → (false ≡ true) ↔ PairedAt n (in_threes c) a
  decided_no e = rw e at d.answer

  pub decided_last : r ≡ true → (eqb (get_or stamp p 0) (a + 1) ≡ true) ↔ PairedAt n (in_threes c) a
  decided_last e = rw e at d.answer

module _ {n : ℕ} {c : List ℕ} (k : CheckedCorners n c) {a : ℕ} (h : a < n) where
  goes_below : Each 0 (λ b. b < n) (goes_to n c a)
  goes_below =
      each_append (leaving c a) (prev_of a n ∷ [])
      (each_corner (place_after c) a c (length c) (λ p g. after_place p k g refl))
      (each_cons (prev_below a n h) each_nil)

  comes_below : Each 0 (λ b. b < n) (comes_from n c a)
  comes_below =
      each_append (coming c a) (next_of a n ∷ [])
      (each_corner (place_before c) a c (length c) (λ p g. before_place p k g refl))
      (each_cons (next_below a n h) each_nil)

  times_goes : (j : ℕ) → times j (goes_to n c a) ≡ runs_beside n (in_threes c) a j
  unfolding runs_beside
  times_goes j =
      rw (face_to n j a h, runs_after c a j k.threes) (times_last j (leaving c a) (prev_of a n))

  times_comes : (j : ℕ) → times j (comes_from n c a) ≡ runs_beside n (in_threes c) j a
  unfolding runs_beside
  times_comes j =
      rw (face_from n a j h, runs_before c a j k.threes) (times_last j (coming c a) (next_of a n))

  -- all stamps that were written can be taken off exactly where the place is paired
  taken_paired : {stamp : List ℕ} → length stamp ≡ n → Fresh (a + 1) stamp
      → (taken (a + 1) (goes_to n c a) (set_all (a + 1) (comes_from n c a) stamp) ≡ true) ↔ PairedAt n (in_threes c) a
  taken_paired {stamp} e m =
      Iff.trans
      (taken_is (a + 1) (goes_to n c a) (set_all (a + 1) (comes_from n c a) stamp) (omega arith)
      (rw (length_all (a + 1) (comes_from n c a) stamp, e) goes_below)) (
        λ t. record { pairs = λ j. rw (same j, times_goes j, times_comes j) at (t j) },
        λ p j. rw (same j, times_goes j, times_comes j) (p.pairs j),
      )
    where
      same : (j : ℕ) → eqb (get_or (set_all (a + 1) (comes_from n c a) stamp) j 0) (a + 1) ≡ ltb 0 (times j (comes_from n c a))
      same j = stamped_where (a + 1) (comes_from n c a) stamp j (rw e comes_below) m

  -- the stamps are written, then taken off; the last that is asked for is that of the place before a
  module _ {stamp stamp' stamp'' : List ℕ} {q : ℕ} {r : Bool} (e : length stamp ≡ n) (m : Fresh (a + 1) stamp)
      (w : stamp' ≡ set_all (a + 1) (coming c a) stamp) (f : q ≡ next_of a n)
      (t : Took (a + 1) (leaving c a) (set stamp' q (a + 1)) stamp'' r) where
    all_written : set stamp' q (a + 1) ≡ set_all (a + 1) (comes_from n c a) stamp
    all_written = rw (w, f) (sym (all_last (a + 1) (coming c a) (next_of a n) stamp))

    pub decide : {p : ℕ} → p ≡ prev_of a n → Decided n c a p stamp'' r
    decide {p} g = record {
      answer = rw (whole r t.answer t.off) (rw (← all_written) at (taken_paired e m));
      fresh = λ z.
          rw (t.off z, all_written)
          (fresh_all 0 (leaving c a) (omega arith) (fresh_all (a + 1) (comes_from n c a) (omega arith) (fresh_more m)));
    }
      where
        last : taken (a + 1) (goes_to n c a) (set stamp' q (a + 1))
            ≡ (taken (a + 1) (leaving c a) (set stamp' q (a + 1))
            && eqb (get_or (set_all 0 (leaving c a) (set stamp' q (a + 1))) (prev_of a n) 0) (a + 1))
        last = taken_last (a + 1) (leaving c a) (prev_of a n) (set stamp' q (a + 1))

        whole : (b : Bool) → b ≡ taken (a + 1) (leaving c a) (set stamp' q (a + 1))
            → (b ≡ true → stamp'' ≡ set_all 0 (leaving c a) (set stamp' q (a + 1)))
            → (b && eqb (get_or stamp'' p 0) (a + 1)) ≡ taken (a + 1) (goes_to n c a) (set stamp' q (a + 1))
        whole true x y = sym (last ∙ rw (← x, ← y refl, g))
        whole false x y = sym (last ∙ rw (← x))

-- ---- all places
module _ {n : ℕ} {ts : List (List ℕ)} where
  pub below_none : PairedBelow n ts 0
  below_none = record { paired = λ i h. absurd (omega arith) }

  pub below_more : {a : ℕ} → PairedBelow n ts a → PairedAt n ts a → PairedBelow n ts (a + 1)
  below_more {a} b p = record { paired = λ i h. by_cases (ℕ_discrete i a) (λ e. rw e p) (λ e. b.paired i (omega arith)) }

  pub below_all : {a : ℕ} → PairedBelow n ts a → n ≤ a → (true ≡ true) ↔ Paired n ts
  below_all b h = (λ e. record { paired = λ i g. b.paired i (omega arith) }, λ p. refl)

  -- a place that is not paired
  pub not_paired : {a : ℕ} {r : Bool} → a < n → (r ≡ true) ↔ PairedAt n ts a → r ≡ false → (false ≡ true) ↔ Paired n ts
  not_paired {a} h i e = (λ z. absurd (false≢true z), λ p. sym e ∙ i.1 (p.paired a h))
