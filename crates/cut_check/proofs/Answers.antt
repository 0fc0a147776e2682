-- The answer of `is_cut`: where the number of triangles or the places of one are wrong the test is no, since it asks for both first; where
-- both are right the triangles are a cut exactly where each place is paired, and two answers that are yes in the same cases are the same.
use mathlib.Core.Path.{◌≡◌, refl, sym, ◌∙◌}
use mathlib.Core.Logic.Iff
use mathlib.Core.Logic.{◌↔◌}
use mathlib.Core.Bool.{Bool, true, false, ◌&&◌}
use mathlib.Core.List.{List, []}
use Prim.Native.Nat.{ℕ, ◌+◌, ◌/◌, ◌≤◌}
use native.Mathlib.Omega.{arith}
use lib.Dec.{eqb}
use lib.ListN.{length, get_or}
use borrow.Author.Tests.{ne_eqb}
use Rattle.places.specs.Lists.{Each}
use Rattle.places.specs.Loops.{any_of}
use Rattle.places.specs.Stored.{in_threes}
use Rattle.places.proofs.Stored.{length_threes, each_threes}
use Rattle.exact.proofs.Conditions.{none_each}
use Rattle.cut_check.specs.CutCheck.{Different, not_different, is_cut_of}
use Rattle.cut_check.specs.Steps.{Paired, CheckedCorners}
use Rattle.cut_check.proofs.Test.{different_is, cut_test}
use Rattle.cut_check.proofs.Pairs.{paired_cut}

-- ---- no, before the sides are looked at
-- where the number of triangles is wrong
pub wrong_number : (n : ℕ) (c : List ℕ) → (length c / 3 + 2 ≡ n → ⊥) → false ≡ is_cut_of n (in_threes c)
unfolding is_cut_of
wrong_number n c h = rw (ne_eqb (length (in_threes c) + 2) n (λ e. h (omega (arith, length_threes c))))

-- where a triangle has not three different places
pub not_different_lem : (n : ℕ) (c : List ℕ) {r : Bool} → r ≡ any_of not_different (in_threes c) → r ≡ true
    → false ≡ is_cut_of n (in_threes c)
unfolding is_cut_of
not_different_lem n c e q = rw (← e, q) (go (eqb (length (in_threes c) + 2) n) _)
  where
    go : (b s : Bool) → false ≡ ((b && false) && s)
    go true s = refl
    go false s = refl

-- ---- yes or no by the sides
-- two answers that are yes in the same cases are the same
same_answer : (a b : Bool) → ((a ≡ true) ↔ (b ≡ true)) → a ≡ b
same_answer true b i = sym (i.0 refl)
same_answer false true i = i.1 refl
same_answer false false i = refl

pub paired_is_cut : {n : ℕ} {c : List ℕ} {r s : Bool} → 3 ≤ n → CheckedCorners n c → length c / 3 + 2 ≡ n
    → s ≡ any_of not_different (in_threes c) → s ≡ false → ((r ≡ true) ↔ Paired n (in_threes c)) → r ≡ is_cut_of n (in_threes c)
paired_is_cut {n} {c} {r} h k e q f i =
    let each = (none_each not_different [] (in_threes c)).0 (sym q ∙ f) in
    let apart : Each [] Different (in_threes c) = record { holds = λ j g. (different_is (get_or (in_threes c) j [])).0 (each.holds j g) } in
    let cut = paired_cut n (in_threes c) h (each_threes c k.below) (omega (arith, length_threes c)) apart in
    let test = cut_test n (in_threes c) in
    same_answer r (is_cut_of n (in_threes c)) (Iff.trans i (Iff.trans cut (test.1, test.0)))
