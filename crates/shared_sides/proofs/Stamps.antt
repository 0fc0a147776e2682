-- Stamps: the corners passed have the face's own stamp, so that a corner that has it already is one that comes twice.
use mathlib.Core.Path.{◌≡◌, refl, sym, ◌∙◌}
use mathlib.Core.Bool.{Bool, true, false, ◌||◌, cond}
use mathlib.Core.List.{List, [], ◌∷◌}
use Prim.Native.Nat.{ℕ, ◌+◌, ◌<◌, ◌≤◌, zero-le}
use native.Mathlib.Decide.{ℕ_discrete}
use native.Mathlib.Omega.{arith}
use lib.Dec.{eqb}
use lib.ListN.{length, get_or, set, drop, drop_of_length-le}
use lib.Seq.{get_or-set_same, get_or-set_other}
use borrow.Author.Tests.{eq-eqb, ne_eqb}
use Rattle.places.specs.Loops.{any_of}
use Rattle.places.specs.Steps.{Fresh}
use Rattle.places.proofs.Loops.{drop_more}
use Rattle.places.proofs.Stamps.{fresh_more, fresh_set}
use Rattle.exact.specs.Facing.{doubled}

-- whether x has the stamp
abbrev pub stamped : List ℕ → ℕ → ℕ → Bool
stamped stamp own x = eqb (get_or stamp x 0) own

none_of : {A : Type 0} (test : A → Bool) (l : List A) → ((x : A) → test x ≡ false) → any_of test l ≡ false
unfolding any_of
none_of test [] h = refl
none_of test (x ∷ l) h = rw (h x, none_of test l h)

-- one more has the stamp
stamped_one : (stamp : List ℕ) (own x y : ℕ) → x < length stamp → stamped (set stamp x own) own y ≡ (eqb x y || stamped stamp own y)
stamped_one stamp own x y h = go (ℕ_discrete x y)
  where
    go : Dec (x ≡ y) → eqb (get_or (set stamp x own) y 0) own ≡ (eqb x y || eqb (get_or stamp y 0) own)
    go (yes p) = rw (← p, get_or-set_same stamp x own 0 h, eq-eqb own own refl, eq-eqb x x refl)
    go (no p) = rw (get_or-set_other stamp x y own 0 (λ e. p (sym e)), ne_eqb x y p)

any_either : {A : Type 0} (p q s : A → Bool) (l : List A) → ((x : A) → p x ≡ (q x || s x)) → any_of p l ≡ (any_of s l || any_of q l)
unfolding any_of
any_either p q s [] h = refl
any_either p q s (x ∷ l) h = rw (h x, any_either p q s l h) (go (q x) (s x) (any_of q l) (any_of s l))
  where
    go : (a b c d : Bool) → cond (a || b) true (d || c) ≡ (cond b true d || cond a true c)
    go true true c d = refl
    go true false c true = refl
    go true false c false = refl
    go false true c d = refl
    go false false c d = refl

-- ---- a loop that stamps: the face holds a vertex twice exactly where a corner left has the stamp already, or comes twice among them
pub record Stamping (stamp : List ℕ) (own : ℕ) (face : List ℕ) (whole : Bool) (i : ℕ) : Type 0 where
  pub within : i ≤ length face
  pub fresh : Fresh (own + 1) stamp
  pub so : (any_of (stamped stamp own) (drop i face) || doubled (drop i face)) ≡ whole

pub stamp_start : {stamp : List ℕ} {own : ℕ} (face : List ℕ) → Fresh own stamp → Stamping stamp own face (doubled face) 0
stamp_start {stamp} {own} face f = record {
  within = zero-le;
  fresh = fresh_more f;
  so = rw (none_of (stamped stamp own) face (λ x. ne_eqb (get_or stamp x 0) own (λ e. absurd (omega (arith, f.below x)))));
}

module _ {stamp : List ℕ} {own : ℕ} {face : List ℕ} {whole : Bool} {i : ℕ} (s : Stamping stamp own face whole i) where
  module _ {x : ℕ} (h : i < length face) (e : x ≡ get_or face i 0) where
    pub stamp_yes : get_or stamp x 0 ≡ own → true ≡ whole
    unfolding any_of doubled
    stamp_yes q = sym (rw (drop_more face i 0 h, ← e, eq-eqb (get_or stamp x 0) own q)) ∙ s.so

    pub stamp_no : x < length stamp → (get_or stamp x 0 ≡ own → ⊥) → Stamping (set stamp x own) own face whole (i + 1)
    unfolding any_of doubled
    stamp_no b n = record {
      within = omega arith;
      fresh = fresh_set own x (omega arith) s.fresh;
      so =
          rw (any_either (stamped (set stamp x own) own) (eqb x) (stamped stamp own) (drop (i + 1) face) (λ y. stamped_one stamp own x y b))
          (assoc (any_of (stamped stamp own) (drop (i + 1) face)) (any_of (eqb x) (drop (i + 1) face)) (doubled (drop (i + 1) face))
          ∙ sym (rw (drop_more face i 0 h, ← e, ne_eqb (get_or stamp x 0) own n)) ∙ s.so);
    }
      where
        assoc : (a b c : Bool) → ((a || b) || c) ≡ (a || (b || c))
        assoc true b c = refl
        assoc false b c = refl

  pub stamp_end : length face ≤ i → false ≡ whole
  unfolding any_of doubled
  stamp_end h = sym (rw (drop_of_length-le face h)) ∙ s.so
