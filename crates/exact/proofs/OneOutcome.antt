-- What a doubter asks of the promise of specs/Facing.antt: it allows one outcome, it leaves a closed cell as it is, a second pass reverses
-- nothing, and two choices that close differ on whole groups. The choice is unique (Forced.antt), and reversals keep both conditions.
use mathlib.Core.Path.{◌≡◌, refl, sym, ◌∙◌, ap}
use mathlib.Core.Logic.{◌⊎◌, inl, inr}
use mathlib.Core.Bool.{Bool, true, false, not, cond}
use mathlib.Core.List.{List, [], ◌∷◌}
use Prim.Native.Nat.{ℕ, zero, suc, ◌-◌}
use native.Mathlib.Omega.{arith}
use lib.ListN.{length, get_or, length-reverse}
use Rattle.places.specs.Stored.{joined}
use Rattle.places.proofs.Reversal.{reverse_at}
use Rattle.exact.specs.Sides.{Closed}
use Rattle.std.specs.Prelude.{Ok, Err, is_ok}
use Rattle.places.specs.Refusals.{Check, no_refusal}
use Rattle.exact.specs.Facing.{face_by, reversed_by, how_many, Twice, Single, Fit, Group, Made, Reversed}
use Rattle.exact.proofs.Reversed.{occurs_by, face_by_lem}
use Rattle.exact.proofs.Forced.{differ, differ_tells, over_group, unique, same_choice}

-- ---- one outcome
pub one_outcome : (check : Check) (fs : List (List ℕ)) (c d : ℕ → Bool) (before after after' : List ℕ) → (check ≡ no_refusal → Twice fs)
    → Reversed check fs c before after → Reversed check fs d before after'
    → (after ≡ after') × (check ≡ no_refusal → how_many c (length fs) ≡ how_many d (length fs))
one_outcome check fs c d before after after' tw t u = (t.list ∙ go check refl ∙ sym u.list, λ z. (same z).1)
  where
    same : check ≡ no_refusal → (reversed_by c fs ≡ reversed_by d fs) × (how_many c (length fs) ≡ how_many d (length fs))
    same z = same_choice fs (length fs) c d (unique fs (tw z) c d (t.made z) (u.made z))

    go : (r : Check) → check ≡ r → cond (is_ok r) (joined (reversed_by c fs)) before ≡ cond (is_ok r) (joined (reversed_by d fs)) before
    go (Ok _) e = ap (λ x. joined x) (same e).0
    go (Err why) e = refl

-- ---- the choice that reverses nothing
pub nothing_faces : (fs : List (List ℕ)) → reversed_by (λ k. false) fs ≡ fs
nothing_faces [] = refl
nothing_faces (f ∷ fs) = ap (λ x. f ∷ x) (nothing_faces fs)

pub nothing_many : (n : ℕ) → how_many (λ k. false) n ≡ 0
nothing_many zero = refl
nothing_many (suc n) = omega (arith, nothing_many n)

-- is made where the cell is closed already
pub already : (fs : List (List ℕ)) → Closed fs → Made fs (λ k. false)
already fs h = record { closes = rw (nothing_faces fs) h; keeps = λ f low. refl }

-- ---- a second pass
single_by : (b : Bool) (face : List ℕ) → Single face → Single (face_by b face)
single_by false face s p q a b e = s p q a b e
single_by true face s p q a b e =
    let n = length-reverse face in
    s (length face - 1 - q) (length face - 1 - p) (omega arith) (omega arith)
    (sym (reverse_at 0 face q (omega arith)) ∙ sym e ∙ reverse_at 0 face p (omega arith))

-- finds both conditions as they were, and reverses nothing
pub again : (fs : List (List ℕ)) (c : ℕ → Bool) → Fit fs → Made fs c → Fit (reversed_by c fs) × Made (reversed_by c fs) (λ k. false)
again fs c f m = (
  record {
    twice = λ i j n h. occurs_by i j c fs ∙ f.twice i j n (omega (arith, occurs_by i j c fs));
    single = λ k. rw (face_by_lem c fs k) (single_by (c k) (get_or fs k []) (f.single k));
  },
  already (reversed_by c fs) m.closes,
)

-- ---- two choices that close agree on a whole group, or differ on all of it
pub whole_group : (fs : List (List ℕ)) → Twice fs → (c d : ℕ → Bool) → Closed (reversed_by c fs) → Closed (reversed_by d fs) → (f : ℕ)
    → ((g : ℕ) → Group fs f g → c g ≡ d g) ⊎ ((g : ℕ) → Group fs f g → c g ≡ not (d g))
whole_group fs tw c d hc hd f = go (differ (c f) (d f)) refl
  where
    go : (b : Bool) → differ (c f) (d f) ≡ b → ((g : ℕ) → Group fs f g → c g ≡ d g) ⊎ ((g : ℕ) → Group fs f g → c g ≡ not (d g))
    go false e = inl (λ g p. differ_tells (c g) (d g) false (sym (over_group fs tw c d hc hd p) ∙ e))
    go true e = inr (λ g p. differ_tells (c g) (d g) true (sym (over_group fs tw c d hc hd p) ∙ e))
