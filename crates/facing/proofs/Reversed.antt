-- What the corner list after a choice of reversals has to do with the list before: as many corners, the same faces reversed by the choice,
-- and no corner that was not there. So a cell that is not refused stays so.
use mathlib.Core.Path.{◌≡◌, refl, sym, ◌∙◌}
use mathlib.Core.Bool.{Bool, true, false}
use mathlib.Core.List.{List, [], ◌∷◌, ◌++◌, reverse, append_assoc}
use Prim.Native.Nat.{ℕ, suc, ◌-◌, ◌<◌}
use native.Mathlib.Nat.{sub-zero}
use native.Mathlib.Omega.{arith}
use lib.Dec.{T, eqb→eq}
use lib.ListN.{length, get_or, take, drop, length-append, length-reverse, take-append-drop, drop_of_length-le}
use lib.Seq.{slice, length-slice, length-take-le, take_at, drop_at, drop-append-le}
use lib.Ieee.{Float}
use borrow.Author.Tests.{not-false}
use Rattle.places.specs.Refusals.{no_refusal}
use Rattle.places.specs.Lists.{Each}
use Rattle.places.specs.Stored.{joined}
use Rattle.places.proofs.Lists.{each_nil, each_append, each_slice}
use Rattle.places.proofs.Reversal.{reverse_at}
use Rattle.exact.specs.Facing.{face_by, reversed_by}
use Rattle.exact.proofs.Reversed.{length_by}
use Rattle.exact.proofs.Conditions.{none_each}
use Rattle.flat.specs.Points.{vertices_of}
use Rattle.cell.specs.Faces.{faces_from, faces_of, rises}
use Rattle.cell.specs.Refusals.{not_below, size_refused, ends_refused, index_refused, refusal_of}
use Rattle.cell.proofs.Faces.{Step, rises_more}
use Rattle.cell.proofs.Refusals.{Accepted, accepted, accepts}

-- ---- one face
-- what holds of its corners holds of them in either direction
each_by : {P : ℕ → Type 0} (b : Bool) (face : List ℕ) → Each 0 P face → Each 0 P (face_by b face)
each_by {P} true face h = record { holds = back }
  where
    back : (k : ℕ) → k < length (reverse face) → P (get_or (reverse face) k 0)
    back k g =
        let n : length (reverse face) ≡ length face = length-reverse face in
        rw (reverse_at 0 face k (omega arith)) (h.holds (length face - 1 - k) (omega arith))
each_by false face h = h

-- ---- the faces of the corners c from p on, reversed by a choice, one after the other
module _ (c : List ℕ) where
  length_from : (choice : ℕ → Bool) (p : ℕ) (es : List ℕ) → T (rises p es (length c))
      → length (joined (reversed_by choice (faces_from p c es))) ≡ length c - p
  unfolding joined
  length_from choice p [] t = omega (arith, eqb→eq p (length c) t)
  length_from choice p (e ∷ es) t =
      let s : Step p (e ∷ es) (length c) 0 e = rises_more p (e ∷ es) (length c) 0 e (omega arith) refl t in
      rw (
        length-append,
        length_by (choice 0) (slice p e c),
        length-slice p e c s.upto,
        length_from (λ k. choice (suc k)) e es s.rest,
      ) (omega arith)

  -- after the corners `done`, up to p, they are the faces from p on of the whole list
  faces_from_lem : (choice : ℕ → Bool) (done : List ℕ) (p : ℕ) (es : List ℕ) → length done ≡ p → T (rises p es (length c))
      → faces_from p (done ++ joined (reversed_by choice (faces_from p c es))) es ≡ reversed_by choice (faces_from p c es)
  unfolding joined
  faces_from_lem choice done p [] n t = refl
  faces_from_lem choice done p (e ∷ es) n t =
      let s : Step p (e ∷ es) (length c) 0 e = rises_more p (e ∷ es) (length c) 0 e (omega arith) refl t in
      let face = face_by (choice 0) (slice p e c) in
      let rest = joined (reversed_by (λ k. choice (suc k)) (faces_from e c es)) in
      let m : length (done ++ face) ≡ e =
      rw (length-append, length_by (choice 0) (slice p e c), length-slice p e c s.upto) (omega arith) in
      rw (
        ← append_assoc done face rest,
        take_at (done ++ face) rest e m,
        drop_at done face p n,
        faces_from_lem (λ k. choice (suc k)) (done ++ face) e es m s.rest,
      )

  each_from : {P : ℕ → Type 0} → Each 0 P c → (choice : ℕ → Bool) (p : ℕ) (es : List ℕ)
      → Each 0 P (joined (reversed_by choice (faces_from p c es)))
  unfolding joined
  each_from h choice p [] = each_nil
  each_from h choice p (e ∷ es) =
      each_append (face_by (choice 0) (slice p e c)) (joined (reversed_by (λ k. choice (suc k)) (faces_from e c es)))
      (each_by (choice 0) (slice p e c) (each_slice p e c h)) (each_from h (λ k. choice (suc k)) e es)

-- ---- nothing reversed, the faces one after the other are the list
joined_from : (c : List ℕ) (p : ℕ) (es : List ℕ) → T (rises p es (length c)) → joined (faces_from p c es) ≡ drop p c
unfolding joined
joined_from c p [] t = sym (drop_of_length-le c {i = p} (omega (arith, eqb→eq p (length c) t)))
joined_from c p (e ∷ es) t =
    let s : Step p (e ∷ es) (length c) 0 e = rises_more p (e ∷ es) (length c) 0 e (omega arith) refl t in
    let n : length (take e c) ≡ e = length-take-le e c s.upto in
    let from = s.from in
    rw (joined_from c e es s.rest, ← drop-append-le p (take e c) (drop e c) (omega arith), take-append-drop e c)

pub joined_faces : (c es : List ℕ) → T (rises 0 es (length c)) → joined (faces_of c es) ≡ c
unfolding faces_of
joined_faces c es t = joined_from c 0 es t

-- ---- the turned list
module _ (choice : ℕ → Bool) (c es : List ℕ) (ordered : T (rises 0 es (length c))) where
  -- the turned list has as many corners as before
  pub length_reversed : length (joined (reversed_by choice (faces_of c es))) ≡ length c
  unfolding faces_of
  length_reversed = length_from c choice 0 es ordered ∙ sub-zero (length c)

  -- the faces of the turned list, cut at the same ends, are the faces before, reversed by the choice
  pub faces_reversed : faces_of (joined (reversed_by choice (faces_of c es))) es ≡ reversed_by choice (faces_of c es)
  unfolding faces_of
  faces_reversed = faces_from_lem c choice [] 0 es refl ordered

-- what holds of all corners holds of the turned list's
pub each_reversed : {P : ℕ → Type 0} (choice : ℕ → Bool) (c es : List ℕ) → Each 0 P c
    → Each 0 P (joined (reversed_by choice (faces_of c es)))
unfolding faces_of
each_reversed choice c es h = each_from c h choice 0 es

-- a cell that is not refused is not refused with the turned list
pub accepted_reversed : (choice : ℕ → Bool) (coords : List Float) (c es : List ℕ) (query : List Float) (asked : List ℕ)
    → refusal_of coords c es query asked ≡ no_refusal
    → refusal_of coords (joined (reversed_by choice (faces_of c es))) es query asked ≡ no_refusal
unfolding size_refused ends_refused index_refused
accepted_reversed choice coords c es query asked e =
    let a : Accepted coords c es query asked = accepted coords c es query asked e in
    let ordered : T (rises 0 es (length c)) = rw (not-false (rises 0 es (length c)) a.ordered) tt in
    let n : length (joined (reversed_by choice (faces_of c es))) ≡ length c = length_reversed choice c es ordered in
    let below = none_each (not_below (length (vertices_of coords))) 0 in
    accepts coords (joined (reversed_by choice (faces_of c es))) es query asked (record {
      size = rw n a.size;
      numbers = a.numbers;
      queried = a.queried;
      ordered = rw n a.ordered;
      inside = (below (joined (reversed_by choice (faces_of c es)))).1 (each_reversed choice c es ((below c).0 a.inside));
      known = a.known;
    })
