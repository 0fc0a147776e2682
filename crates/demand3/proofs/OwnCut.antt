-- Our own cut of a face is accepted. While a ring of different places shrinks, the corner that is cut off is on no later triangle, and the
-- new side is run by the ring that is left, so that no later triangle runs it back: every side occurs at most once in each direction.
use mathlib.Core.Path.{◌≡◌, refl, sym, ◌∙◌, ap}
use mathlib.Core.Logic.{◌≢◌, by_cases}
use mathlib.Core.List.{List, [], ◌∷◌, append-nil}
use Prim.Native.Nat.{ℕ, zero, suc, ◌+◌, ◌<◌, ◌≤◌}
use native.Mathlib.Decide.{dec_lt}
use native.Mathlib.Omega.{arith}
use borrow.Author.Tests.{ne_eqb}
use lib.ListN.{length, get_or}
use Rattle.places.specs.Lists.{Each, without}
use Rattle.places.specs.Ring.{sides, next_of, prev_of, before, after, places_below, ear_of}
use Rattle.places.proofs.Lists.{length_without, each_nil, each_cons, each_without}
use Rattle.places.proofs.Rings.{prev_below, next_below, next_apart, next_next, next_thrice, next_prev, each_ear, length_places}
use Rattle.exact.specs.Sides.{count, runs}
use Rattle.exact.specs.Facing.{Single}
use Rattle.exact.proofs.Reversed.{runs_cons, runs_one}
use Rattle.exact.proofs.Conditions.{single_cons}
use Rattle.exact.proofs.Balance.{sum_append, bit_self}
use Rattle.exact.proofs.Ears.{cut_one}
use Rattle.exact.proofs.Alike.{Alike, alike_runs}
use Rattle.flat.specs.Points.{Point}
use Rattle.cut.specs.Cut.{cut_of}
use Rattle.cut.proofs.Facts.{Ends, few, full, short, choice, cut_all, cut_ends}
use Rattle.cut_check.specs.CutCheck.{Different, IsCut}
use Rattle.cut_check.specs.Steps.{runs_beside}
use Rattle.exact.proofs.RingSides.{SideOf, side_of_lem, no_side, no_start, no_end, one_place, once_round, not_back}
use Rattle.cut_check.proofs.FaceSides.{single_places, count_face}
use Rattle.cut_check.proofs.Pairs.{OnceEachWay, even_cut}

-- ---- a ring of different places without one of them
single_without : (k : ℕ) (r : List ℕ) → Single r → Single (without k r)
unfolding without
single_without k [] s = s
single_without zero (x ∷ r) s = ((single_cons x r).1 s).1
single_without (suc k) (x ∷ r) s =
    let p = (single_cons x r).1 s in
    (single_cons x (without k r)).0 (each_without k r p.0, single_without k r p.1)

away_without : (k : ℕ) (r : List ℕ) → k < length r → Single r → Each 0 (λ x. x ≢ get_or r k 0) (without k r)
unfolding without
away_without k [] h s = absurd (omega arith)
away_without zero (x ∷ r) h s = record { holds = λ p l e. s 0 (suc p) (omega arith) (omega arith) (sym e) }
away_without (suc k) (x ∷ r) h s =
    each_cons (s 0 (suc k) (omega arith) h) (away_without k r (omega arith) ((single_cons x r).1 s).1)

-- ---- the triangle that is cut off
different_three : (a b c : ℕ) → a ≢ b → a ≢ c → b ≢ c → Different (a ∷ b ∷ c ∷ [])
different_three a b c p q s =
    let last : Single (c ∷ []) = λ k m h l e. omega arith in
    let two = (single_cons b (c ∷ [])).0 (each_cons (ne_eqb b c s) each_nil, last) in
    record { three = refl; single = (single_cons a (b ∷ c ∷ [])).0 (each_cons (ne_eqb a b p) (each_cons (ne_eqb a c q) each_nil), two) }

-- the triangle and the ring without its corner run each side as often as the ring does, the runs back taken off
ear_alike : (k : ℕ) (r : List ℕ) → k < length r → 2 ≤ length r → Alike (ear_of k r ∷ without k r ∷ []) (r ∷ [])
ear_alike k r l h = record {
  sums = λ w anti. rw (append-nil (sides (without k r)), append-nil (sides r), sum_append w (sides (ear_of k r)) (sides (without k r)))
      (cut_one w anti k r l h);
}

ear_even : (k : ℕ) (r : List ℕ) → k < length r → 2 ≤ length r → (i j : ℕ)
    → count i j (sides (ear_of k r)) + count i j (sides (without k r)) + count j i (sides r)
    ≡ count j i (sides (ear_of k r)) + count j i (sides (without k r)) + count i j (sides r)
ear_even k r l h i j =
    let ear = ear_of k r in
    let rest = without k r in
    omega (
      arith,
      alike_runs (ear ∷ rest ∷ []) (r ∷ []) (ear_alike k r l h) i j,
      runs_cons i j ear (rest ∷ []),
      runs_cons j i ear (rest ∷ []),
      runs_one i j rest,
      runs_one j i rest,
      runs_one i j r,
      runs_one j i r,
    )

module _ (k : ℕ) (r : List ℕ) (s : Single r) (l : k < length r) (h : 4 ≤ length r) where
  at_prev : prev_of k (length r) < length r
  at_prev = prev_below k (length r) l

  at_next : next_of k (length r) < length r
  at_next = next_below k (length r) l

  -- the ring holds different numbers at different places
  places_differ : (p q : ℕ) → p < length r → q < length r → p ≢ q → get_or r p 0 ≢ get_or r q 0
  places_differ p q a b n e = n (one_place r s p q a b e)

  ear_different : Different (ear_of k r)
  unfolding ear_of
  ear_different =
      let n = length r in
      let q = prev_of k n in
      let back = next_prev k n l in
      different_three (before 0 k r) (get_or r k 0) (after 0 k r)
      (places_differ q k at_prev l (λ e. next_apart q n at_prev (omega arith) (back ∙ sym e)))
      (places_differ q (next_of k n) at_prev at_next (λ e. next_next q n at_prev (omega arith) (rw back (sym e))))
      (places_differ k (next_of k n) l at_next (λ e. next_apart k n l (omega arith) (sym e)))

  -- the ring has not the side from the corner after to the corner before
  not_across : count (after 0 k r) (before 0 k r) (sides r) ≡ 0
  not_across = no_side (after 0 k r) (before 0 k r) r (λ t.
      let n = length r in
      let there = one_place r s t.k (next_of k n) t.below at_next t.start in
      let home = one_place r s (next_of t.k n) (prev_of k n) (next_below t.k n t.below) at_prev t.end in
      next_thrice (prev_of k n) n at_prev h (rw (next_prev k n l, ← there) home))

  -- the triangle that is cut off has the side from the corner after to the corner before
  across : 0 < count (after 0 k r) (before 0 k r) (sides (ear_of k r))
  unfolding ear_of
  across = omega (arith, bit_self (after 0 k r) (before 0 k r))

  -- what is left of the ring has the side from the corner before to the corner after once, and not its back
  new_side :
      let rest = sides (without k r) in
      (count (before 0 k r) (after 0 k r) rest ≡ 1) × (count (after 0 k r) (before 0 k r) rest ≡ 0)
  new_side =
      let a = before 0 k r in
      let c = after 0 k r in
      let d = ear_different in
      let rest = single_without k r s in
      let away = not_back (ear_of k r) d.single (omega arith) c a across in
      let back : 0 < count a c (sides (without k r)) = omega (arith, ear_even k r l (omega arith) c a, not_across, across) in
      let three : 3 ≤ length (without k r) = omega (arith, length_without k r l) in
      (omega (arith, once_round (without k r) rest a c), not_back (without k r) rest three a c back)

-- ---- the triangles of a ring of different places that is cut to its end
record CutToEnd (r : List ℕ) (ts : List (List ℕ)) : Type 0 where
  different : Each [] Different ts
  -- the triangles have no place that the ring has not
  absent : (v : ℕ) → Each 0 (λ x. x ≢ v) r → (j : ℕ) → (runs v j ts ≡ 0) × (runs j v ts ≡ 0)
  -- the triangles run each side as often as the ring does, the runs back taken off
  even : (i j : ℕ) → runs i j ts + count j i (sides r) ≡ runs j i ts + count i j (sides r)
  -- the triangles run no side twice in the same direction
  once : (i j : ℕ) → runs i j ts ≤ 1

module _ (k : ℕ) (r : List ℕ) (ts : List (List ℕ)) (s : Single r) (l : k < length r) (h : 4 ≤ length r)
    (g : CutToEnd (without k r) ts) where
  -- a side of the triangle that is cut off is on none of the others: two of its sides are at the corner that is gone, and the third is run
  -- back by what is left of the ring, once
  on_ear : (i j : ℕ) → SideOf i j (ear_of k r) → runs i j ts ≡ 0
  unfolding ear_of next_of
  on_ear i j t = go t.k t.below t.start t.end
    where
      corner : (j : ℕ) → (runs (get_or r k 0) j ts ≡ 0) × (runs j (get_or r k 0) ts ≡ 0)
      corner = g.absent (get_or r k 0) (away_without k r l s)

      go : (m : ℕ) → m < 3 → get_or (ear_of k r) m 0 ≡ i → get_or (ear_of k r) (next_of m 3) 0 ≡ j → runs i j ts ≡ 0
      go zero q a b = rw (← b) (corner i).1
      go (suc zero) q a b = rw (← a) (corner j).0
      go (suc (suc zero)) q a b =
          let new = new_side k r s l h in
          rw (← a, ← b) (omega (arith, g.even (after 0 k r) (before 0 k r), g.once (before 0 k r) (after 0 k r)))
      go (suc (suc (suc m))) q a b = absurd (omega arith)

  once_more : (i j : ℕ) → count i j (sides (ear_of k r)) + runs i j ts ≤ 1
  once_more i j = by_cases (dec_lt 0 (count i j (sides (ear_of k r))))
      (λ o. omega (arith, on_ear i j (side_of_lem i j (ear_of k r) o), once_round (ear_of k r) (ear_different k r s l h).single i j))
      (λ o. omega (arith, g.once i j))

  clip_to_end : CutToEnd r (ear_of k r ∷ ts)
  clip_to_end = record {
    different = each_cons (ear_different k r s l h) g.different;
    absent = λ v e j.
        let ear = each_ear k r l e in
        let rest = g.absent v (each_without k r e) j in (
          omega (arith, runs_cons v j (ear_of k r) ts, no_start v j (ear_of k r) ear),
          omega (arith, runs_cons j v (ear_of k r) ts, no_end j v (ear_of k r) ear),
        );
    even = λ i j.
        omega (arith, runs_cons i j (ear_of k r) ts, runs_cons j i (ear_of k r) ts, g.even i j, ear_even k r l (omega arith) i j);
    once = λ i j. omega (arith, runs_cons i j (ear_of k r) ts, once_more i j);
  }

three_to_end : (r : List ℕ) → length r ≡ 3 → Single r → CutToEnd r (r ∷ [])
three_to_end r h s = record {
  different = each_cons (record { three = h; single = s }) each_nil;
  absent = λ v e j. (runs_one v j r ∙ no_start v j r e, runs_one j v r ∙ no_end j v r e);
  even = λ i j. omega (arith, runs_one i j r, runs_one j i r);
  once = λ i j. omega (arith, runs_one i j r, once_round r s i j);
}

cut_to_end : (vs : List Point) (face : List ℕ) → 3 ≤ length face → Single face → (cut_of vs face).left ≡ []
    → CutToEnd face (cut_of vs face).triangles
cut_to_end vs face = cut_all vs face (λ r c. 3 ≤ length r → Single r → c.left ≡ [] → CutToEnd r c.triangles) (record {
  small = λ r l h s e. absurd (omega arith);
  three = λ r l h s e. three_to_end r l s;
  stop = λ r l n h s e. absurd (omega (arith, ap length e));
  clip = λ k r c m l q h s e.
      clip_to_end k r c.triangles s l m (q (omega (arith, length_without k r l)) (single_without k r s) e);
})

-- ---- a face that is cut to its end
once_each_way : (n : ℕ) (ts : List (List ℕ)) → 3 ≤ n → CutToEnd (places_below n) ts → OnceEachWay n ts
unfolding runs_beside
once_each_way n ts h g = record {
  back = λ i j. omega (arith, g.even i j, count_face n i j, count_face n j i);
  once = λ i j.
      let back = count_face n j i in
      by_cases (dec_lt 0 (count j i (sides (places_below n))))
      (λ o.
      let away = not_back (places_below n) (single_places n) (omega (arith, length_places n)) j i o in
      omega (arith, g.even i j, g.once j i, once_round (places_below n) (single_places n) j i))
      (λ o. omega (arith, g.once i j));
}

pub own_cut : (vs : List Point) (n : ℕ) → 3 ≤ n → (cut_of vs (places_below n)).left ≡ [] → IsCut n (cut_of vs (places_below n)).triangles
own_cut vs n h e =
    let many = length_places n in
    let whole = cut_to_end vs (places_below n) (omega arith) (single_places n) e in
    even_cut n (cut_of vs (places_below n)).triangles h (number (cut_ends vs (places_below n))) whole.different (once_each_way n _ h whole)
  where
    number : Ends (choice vs (places_below n)) (places_below n) (cut_of vs (places_below n))
        → length (cut_of vs (places_below n)).triangles + 2 ≡ n
    number (few a b c) = absurd (omega (arith, length_places n))
    number (full a b) = omega (arith, length_places n)
    number (short a b c) = absurd (omega (arith, ap length e))
