-- Numbers that follow a list of vertices follow it with one more vertex mentioned: one that has a number is in the list, so the list
-- stays; one that has none is not in it, so it comes to the end, and k is its number.
use mathlib.Core.Path.{◌≡◌, refl, sym, ◌∙◌, ap}
use mathlib.Core.Logic.{◌≢◌}
use mathlib.Core.Bool.{Bool, true, false, cond}
use mathlib.Core.List.{List, [], ◌∷◌, ◌++◌}
use Prim.Native.Nat.{ℕ, zero, suc, ◌+◌, ◌<◌}
use native.Mathlib.Decide.{ℕ_discrete}
use native.Mathlib.Omega.{arith}
use lib.Dec.{eqb}
use lib.ListN.{length, get_or, set, length-append, get_or-append}
use lib.Seq.{get_or-set_same, get_or-set_other, get_or_at}
use borrow.Author.Tests.{eq-eqb, ne_eqb}
use Rattle.places.specs.Loops.{any_of}
use Rattle.side_table.specs.Numbers.{Numbering, mention, Follows}

-- ---- whether a vertex is in a list
pub in_list : (x : ℕ) (vs : List ℕ) (i : ℕ) → i < length vs → x ≡ get_or vs i 0 → any_of (eqb x) vs ≡ true
unfolding any_of
in_list x [] i h e = absurd (omega arith)
in_list x (v ∷ vs) zero h e = rw (eq-eqb x v e)
in_list x (v ∷ vs) (suc i) h e = rw (in_list x vs i (omega arith) e) (either (eqb x v))
  where
    either : (b : Bool) → cond b true true ≡ true
    either true = refl
    either false = refl

pub not_in_list : (x : ℕ) (vs : List ℕ) → ((i : ℕ) → i < length vs → x ≢ get_or vs i 0) → any_of (eqb x) vs ≡ false
unfolding any_of
not_in_list x [] n = refl
not_in_list x (v ∷ vs) n = rw (ne_eqb x v (n 0 (omega arith))) (not_in_list x vs (λ i h. n (suc i) (omega arith)))

module _ {number : List ℕ} {k x : ℕ} (g : Numbering number k) (h : x < 256) {vs : List ℕ} (f : Follows number k vs) where
  -- the vertex has a number
  pub follows_still : get_or number x 0 ≢ 256 → Follows number k (mention x vs)
  follows_still n =
      let there = in_list x vs (get_or number x 0) (omega (arith, g.told x h n, f.count)) (sym (f.told x h n)) in
      rw there f

  -- the vertex has none, and gets k
  module _ (e : get_or number x 0 ≡ 256) (few : k < 256) where
    apart : (i : ℕ) → i < length vs → x ≢ get_or vs i 0
    apart i q p = absurd (omega (arith, f.count, f.placed i (omega (arith, f.count)), e, ap (λ y. get_or number y 0) p))

    absent : any_of (eqb x) vs ≡ false
    absent = not_in_list x vs apart

    last : get_or (vs ++ x ∷ []) k 0 ≡ x
    last = get_or_at vs x [] 0 k (sym f.count)

    here : get_or (set number x k) x 0 ≡ k
    here = get_or-set_same number x k 0 (omega (arith, g.size))

    other : (y : ℕ) → y ≢ x → get_or (set number x k) y 0 ≡ get_or number y 0
    other y n = get_or-set_other number x y k 0 n

    before : (i : ℕ) → i < k → get_or (vs ++ x ∷ []) i 0 ≡ get_or vs i 0
    before i q = get_or-append vs (x ∷ []) 0 i (omega (arith, f.count))

    placed' : (i : ℕ) → i < k + 1 → Dec (i ≡ k) → get_or (set number x k) (get_or (vs ++ x ∷ []) i 0) 0 ≡ i
    placed' i q (yes p) = rw (p, last) here
    placed' i q (no n) =
        let early : i < k = omega arith in
        rw (before i early) (other (get_or vs i 0) (λ p. apart i (omega (arith, f.count)) (sym p)) ∙ f.placed i early)

    told' : (y : ℕ) → y < 256 → get_or (set number x k) y 0 ≢ 256 → Dec (y ≡ x) → get_or (vs ++ x ∷ []) (get_or (set number x k) y 0) 0 ≡ y
    told' y q n (yes p) = rw (p, here) last
    told' y q n (no r) =
        let named = rw (other y r) at n in
        rw (other y r) (before (get_or number y 0) (g.told y q named) ∙ f.told y q named)

    pub follows_more : Follows (set number x k) (k + 1) (mention x vs)
    follows_more = rw absent record {
      count = omega (arith, f.count, length-append vs (x ∷ []));
      placed = λ i q. placed' i q (ℕ_discrete i k);
      told = λ y q n. told' y q n (ℕ_discrete y x);
    }

-- no number follows the list of nobody
pub follows_nobody : {number : List ℕ} → Numbering number 0 → Follows number 0 []
follows_nobody g = record {
  count = refl;
  placed = λ i h. absurd (omega arith);
  told = λ x h n. absurd (omega (arith, g.told x h n));
}
