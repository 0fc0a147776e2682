-- The lowest face of each group keeps its direction, told by a test: of each face that is reversed a path over shared sides is given, to a
-- face with a lower number, and the test follows it.
use mathlib.Core.Path.{◌≡◌, refl}
use mathlib.Core.Logic.{by_cases}
use mathlib.Core.Bool.{Bool, true, false, not, ◌&&◌, ◌||◌}
use mathlib.Core.List.{List, [], ◌∷◌}
use Prim.Native.Nat.{ℕ, zero, suc, ◌<◌}
use native.Mathlib.Decide.{ℕ_discrete, dec_lt}
use native.Mathlib.Omega.{arith}
use borrow.Author.Tests.{ltb-true, eqb-false, not-true}
use lib.Dec.{eqb, ltb}
use lib.ListN.{length, get_or, get_or-eq_default}
use Rattle.places.specs.Loops.{any_of}
use Rattle.places.specs.Ring.{sides}
use Rattle.exact.specs.Facing.{choice_of, has, Share, Group, itself, over, Lowest}
use Rattle.demand3.proofs.Refused.{Hit, hit}

both : (a b : Bool) → (a && b) ≡ true → (a ≡ true) × (b ≡ true)
both true b e = (refl, e)
both false b e = (cc, cc)

-- ---- the test
-- whether the faces with the numbers f and g share the side e, and whether they share one
abbrev shares_at : List (List ℕ) → ℕ → ℕ → ℕ × ℕ → Bool
shares_at fs f g e =
    not (eqb e.0 e.1) && (ltb 0 (has e.0 e.1 (get_or fs f [])) && ltb 0 (has e.0 e.1 (get_or fs g [])))

unfoldable pub shares : List (List ℕ) → ℕ → ℕ → Bool
shares fs f g = any_of (shares_at fs f g) (sides (get_or fs f []))

-- whether a path leads from the face f over shared sides to one with a number below `top`
unfoldable pub leads : List (List ℕ) → ℕ → ℕ → List ℕ → Bool
leads fs top f [] = ltb f top
leads fs top f (g ∷ path) = shares fs f g && leads fs top g path

-- whether each of the first n faces that is reversed has such a path
unfoldable pub kept : List (List ℕ) → List Bool → List (List ℕ) → ℕ → Bool
kept fs marks paths zero = true
kept fs marks paths (suc n) = (not (choice_of marks n) || leads fs n n (get_or paths n [])) && kept fs marks paths n

-- ---- what it says
share : (fs : List (List ℕ)) (f g : ℕ) → shares fs f g ≡ true → Share fs f g
unfolding shares
share fs f g e = go (hit (shares_at fs f g) (sides (get_or fs f [])) e)
  where
    go : Hit (shares_at fs f g) → Share fs f g
    go h =
        let s = both _ _ h.so in
        let t = both _ _ s.1 in
        record {
          i = h.it.0;
          j = h.it.1;
          apart = eqb-false h.it.0 h.it.1 (not-true _ s.0);
          one = ltb-true 0 _ t.0;
          other = ltb-true 0 _ t.1;
        }

-- a face of the group with a number below `top`
record Below (fs : List (List ℕ)) (top f : ℕ) : Type 0 where
  g : ℕ
  less : g < top
  way : Group fs f g

below : (fs : List (List ℕ)) (top f : ℕ) (path : List ℕ) → leads fs top f path ≡ true → Below fs top f
unfolding leads
below fs top f [] e = record { g = f; less = ltb-true f top e; way = itself }
below fs top f (g ∷ path) e =
    let s = both (shares fs f g) (leads fs top g path) e in
    let b = below fs top g path s.1 in
    record { g = b.g; less = b.less; way = over (share fs f g s.0) b.way }

module _ (fs : List (List ℕ)) (marks : List Bool) (paths : List (List ℕ)) where
  at : (n f : ℕ) → f < n → kept fs marks paths n ≡ true → (not (choice_of marks f) || leads fs f f (get_or paths f [])) ≡ true
  unfolding kept
  at zero f h e = absurd (omega arith)
  at (suc n) f h e =
      let s = both _ _ e in
      by_cases (ℕ_discrete f n) (λ q. rw q s.0) (λ q. at n f (omega arith) s.1)

  pub kept_by : kept fs marks paths (length marks) ≡ true → (f : ℕ) → Lowest fs f → choice_of marks f ≡ false
  kept_by e f low =
      by_cases (dec_lt f (length marks)) (λ h. go (choice_of marks f) (at (length marks) f h e))
      (λ n. get_or-eq_default marks false {n = f} (omega arith))
    where
      go : (b : Bool) → (not b || leads fs f f (get_or paths f [])) ≡ true → b ≡ false
      go true q = let b = below fs f f (get_or paths f []) q in absurd (low b.g b.less b.way)
      go false q = refl
