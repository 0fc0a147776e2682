-- Faces in one list with marks: what stands before the first mark is a face, and the rest of the list has the other faces, so that the loop
-- of `point_in_phed`, which splits the list at its marks, takes in one face after the other.
use mathlib.Core.Path.{◌≡◌, sym, ◌∙◌, subst}
use mathlib.Core.Logic.{◌≢◌}
use mathlib.Core.Bool.{Bool, true, false, true≢false, cond}
use mathlib.Core.List.{List, [], ◌∷◌, ◌++◌, append-nil, append_assoc}
use Prim.Native.Nat.{ℕ, suc, ◌+◌, ◌<◌, ◌≤◌, zero-le}
use native.Mathlib.Omega.{arith}
use lib.Dec.{eqb}
use lib.ListN.{length, get_or, drop, length-append, drop_of_length-le, length-drop}
use borrow.Author.Tests.{eq-eqb, ne_eqb, eqb-false}
use Rattle.std.proofs.Common.{Bor, Some}
use Rattle.std.specs.Bool.{MatchBool}
use Rattle.std.specs.Fn.{ComputesKey, Mut}
use Rattle.std.specs.List.{AllWithin, HoldsAt, IsFirstMatchOrLen}
use Rattle.std.specs.Slice.Iter.{split_rest, split_done, split_callee, split_steps}
use Rattle.std.specs.declared.slice.Split.{Split}
use Rattle.places.specs.Lists.{Each}
use Rattle.places.specs.Loops.{fold_list}
use Rattle.places.proofs.Loops.{drop_more}
use Rattle.places.proofs.Lists.{each_nil, each_cons, each_head, each_tail}
use Rattle.flat.specs.Points.{Point}
use Rattle.flat.specs.Steps.{Inside}
use Rattle.inside.specs.Inside.{face_end, marked_from, marked_faces, cross_marked, phed_contains_of}
use Rattle.inside.specs.Steps.{MarkedInside}

-- the test for a mark
abbrev pub mark : ℕ → Bool
mark c = eqb c face_end

-- ---- what stands before the first mark, and the mark
abbrev Unmarked : List ℕ → Type 0
Unmarked xs = Each 0 (λ c. mark c ≡ false) xs

front : (xs l : List ℕ) → AllWithin (λ c. mark c ≡ false) (xs ++ l) 0 (length xs) → Unmarked xs
front [] l h = each_nil
front (x ∷ xs) l h = each_cons (h 0 0 zero-le (omega arith)) (front xs l (λ k d a b. h (suc k) d zero-le (omega arith)))

ended : (xs l : List ℕ) (y : ℕ) → HoldsAt (λ c. mark c ≡ true) (xs ++ y ∷ l) (length xs) → mark y ≡ true
ended [] l y h = h 0
ended (x ∷ xs) l y h = ended xs l y h

unmarked : (face xs l : List ℕ) → Unmarked xs → marked_from face (xs ++ l) ≡ marked_from (face ++ xs) l
unfolding marked_from
unmarked face [] l h = rw (append-nil face)
unmarked face (x ∷ xs) l h = rw (each_head h) (unmarked (face ++ x ∷ []) xs l (each_tail h) ∙ rw append_assoc)

-- ---- a loop that takes in these faces: what is left of the list, if anything is, makes with the state s the whole
pub record Splitting (vs : List Point) (p : Point) (whole : Bool) (it : Split ℕ (Unit {0})) (s : Bool) : Type 0 where
  pub inside : split_done it ≡ false → MarkedInside vs (split_rest it)
  pub more : split_done it ≡ false → fold_list (cross_marked vs p) (marked_faces (split_rest it)) s ≡ whole
  pub done : split_done it ≡ true → s ≡ whole

module _ (vs : List Point) where
  inside_front : (xs l : List ℕ) → Unmarked xs → MarkedInside vs (xs ++ l) → Inside vs xs
  inside_front [] l u m = each_nil
  inside_front (x ∷ xs) l u m =
      each_cons (each_head m (eqb-false x face_end (each_head u))) (inside_front xs l (each_tail u) (each_tail m))

  inside_after : (xs l : List ℕ) (y : ℕ) → MarkedInside vs (xs ++ y ∷ l) → MarkedInside vs l
  inside_after [] l y m = each_tail m
  inside_after (x ∷ xs) l y m = inside_after xs l y (each_tail m)

  -- the part xs that comes off the list l, and what is left: nothing where it was the last one
  record Part (l xs : List ℕ) (last : Bool) (left : List ℕ) : Type 0 where
    pub inside : Inside vs xs
    pub rest : last ≡ false → MarkedInside vs left
    pub only : last ≡ true → marked_faces l ≡ xs ∷ []
    pub more : last ≡ false → marked_faces l ≡ xs ∷ marked_faces left

  last_part : (xs left : List ℕ) → IsFirstMatchOrLen mark xs (length xs) → MarkedInside vs xs → Part xs xs true left
  unfolding marked_from
  last_part xs left f m =
      let u : Unmarked xs = front xs [] (rw (append-nil xs) f.0) in
      let all : marked_from [] (xs ++ []) ≡ xs ∷ [] = unmarked [] xs [] u in
      record {
        inside = inside_front xs [] u (rw (append-nil xs) m);
        rest = λ e. absurd (true≢false e);
        only = λ e. rw append-nil at all;
        more = λ e. absurd (true≢false e);
      }

  next_part : (xs left : List ℕ) (y : ℕ) → IsFirstMatchOrLen mark (xs ++ y ∷ left) (length xs) → MarkedInside vs (xs ++ y ∷ left)
      → Part (xs ++ y ∷ left) xs false left
  unfolding marked_from
  next_part xs left y f m =
      let u : Unmarked xs = front xs (y ∷ left) f.0 in
      let t : mark y ≡ true = ended xs left y (f.1 (omega (arith, length-append xs (y ∷ left)))) in
      record {
        inside = inside_front xs (y ∷ left) u m;
        rest = λ e. inside_after xs left y m;
        only = λ e. absurd (true≢false (sym e));
        more = λ e. unmarked [] xs (y ∷ left) u ∙ rw t;
      }

  part : (last : Bool) (l xs left : List ℕ) → MatchBool last (l ≡ xs) ((y : ℕ) × (l ≡ xs ++ y ∷ left))
      → IsFirstMatchOrLen mark l (length xs) → MarkedInside vs l → Part l xs last left
  part true l xs left e f m =
      subst (λ (l : List ℕ). IsFirstMatchOrLen mark l (length xs) → MarkedInside vs l → Part l xs true left) (sym e) (last_part xs left) f m
  part false l xs left (y, e) f m =
      subst (λ (l : List ℕ). IsFirstMatchOrLen mark l (length xs) → MarkedInside vs l → Part l xs false left) (sym e)
      (next_part xs left y) f m

module _ {vs : List Point} {p : Point} {it : Split ℕ (Unit {0})} where
  pub split_start : {cs : List ℕ} → split_rest it ≡ cs → split_done it ≡ false → MarkedInside vs cs
      → Splitting vs p (phed_contains_of vs p cs) it false
  unfolding phed_contains_of
  split_start r d m = record { inside = λ e. rw r m; more = λ e. rw r; done = λ e. absurd (true≢false (sym e ∙ d)) }

  module _ {whole s : Bool} (it' : Split ℕ (Unit {0})) (face : Bor (List ℕ)) {g : Mut (Unit {0}) (Bor ℕ × Unit {0}) Bool}
      (m : Splitting vs p whole it s) (step : split_steps g it (Some face) it') (key : ComputesKey g mark (split_callee it)) where
    off : Part vs (split_rest it) face.now (split_done it') (split_rest it')
    off = part vs (split_done it') (split_rest it) face.now (split_rest it') step.1 (step.2 mark key).1 (m.inside step.0)

    pub split_inside : Inside vs face.now
    split_inside = off.inside

    pub split_next : {s' : Bool} → s' ≡ cross_marked vs p face.now s → Splitting vs p whole it' s'
    unfolding fold_list
    split_next {s'} h =
        let q = off in
        let before = m.more step.0 in
        record {
          inside = λ e. q.rest e;
          more = λ e. rw h (rw (q.more e) at before);
          done = λ e. rw h (rw (q.only e) at before);
        }

-- ---- how many corners stand before the first mark
unfoldable pub before_mark : List ℕ → ℕ
before_mark [] = 0
before_mark (c ∷ cs) = cond (eqb c face_end) 0 (suc (before_mark cs))

-- from place i on
module _ (cs : List ℕ) (i : ℕ) where
  pub before_mark_lem : i < length cs → get_or cs i 0 ≡ face_end → before_mark (drop i cs) ≡ 0
  unfolding before_mark
  before_mark_lem h q = rw (drop_more cs i 0 h, eq-eqb (get_or cs i 0) face_end q)

  pub before_corner : i < length cs → get_or cs i 0 ≢ face_end → before_mark (drop i cs) ≡ suc (before_mark (drop (i + 1) cs))
  unfolding before_mark
  before_corner h q = rw (drop_more cs i 0 h, ne_eqb (get_or cs i 0) face_end q)

  pub before_none : length cs ≤ i → before_mark (drop i cs) ≡ 0
  unfolding before_mark
  before_none h = rw (drop_of_length-le cs h)

before_below : (l : List ℕ) → before_mark l ≤ length l
unfolding before_mark
before_below [] = omega arith
before_below (c ∷ cs) = go (eqb c face_end) (before_below cs)
  where
    go : (b : Bool) → before_mark cs ≤ length cs → cond b 0 (suc (before_mark cs)) ≤ suc (length cs)
    go true h = omega arith
    go false h = omega arith

-- the face from place s on ends in the list
pub end_within : (cs : List ℕ) (s : ℕ) → s ≤ length cs → s + before_mark (drop s cs) ≤ length cs
end_within cs s h = omega (arith, before_below (drop s cs), length-drop s cs)
