-- Loops over the faces of a cell that keep the previous end (`Facing`, `FaceAsking`, `Falling`), for every room that goes over the faces;
-- and faces by their number.
use mathlib.Core.Path.{◌≡◌, refl, sym, ◌∙◌, ap}
use mathlib.Core.Bool.{Bool, true, false, not, ◌&&◌, ◌||◌}
use mathlib.Core.List.{List, [], ◌∷◌}
use Prim.Native.Nat.{ℕ, zero, suc, ◌+◌, ◌-◌, ◌<◌, ◌≤◌, zero-le}
use native.Mathlib.Numerals.{add-one}
use native.Mathlib.Nat.{lt_of_not-le}
use native.Mathlib.Decide.{dec_le}
use native.Mathlib.Omega.{arith}
use lib.Dec.{T, leb, ltb, eqb, leb→le, eqb→eq}
use lib.ListN.{length, get_or, take, drop, drop_of_length-le}
use lib.Seq.{slice, drop-cons}
use lib.Ieee.Fits.{and_l, and_r}
use borrow.Author.Tests.{le-leb, lt-leb, lt-ltb, le-ltb}
use Rattle.places.specs.Loops.{fold_list, any_of}
use Rattle.cell.specs.Faces.{faces_from, faces_of, rises}

-- ---- at face k, with the previous end p
pub faces_more : (p : ℕ) (c es : List ℕ) (k : ℕ) → k < length es
    → faces_from p c (drop k es) ≡ slice p (get_or es k 0) c ∷ faces_from (get_or es k 0) c (drop (k + 1) es)
faces_more p c es k h = rw (add-one, drop-cons es k 0 h)

pub faces_none : (p : ℕ) (c es : List ℕ) (k : ℕ) → length es ≤ k → faces_from p c (drop k es) ≡ []
faces_none p c es k h = rw (drop_of_length-le es h)

pub rises_le : (p : ℕ) (es : List ℕ) (n : ℕ) → T (rises p es n) → p ≤ n
rises_le p [] n h = omega (arith, eqb→eq p n h)
rises_le p (e ∷ es) n h = omega (arith, leb→le p e (and_l (leb p e) (rises e es n) h), rises_le e es n (and_r (leb p e) (rises e es n) h))

-- the face k runs from p up to e, and the ends after it are in order from there
pub record Step (p : ℕ) (es : List ℕ) (n k e : ℕ) : Type 0 where
  pub from : p ≤ e
  pub upto : e ≤ n
  pub rest : T (rises e (drop (k + 1) es) n)

pub rises_more : (p : ℕ) (es : List ℕ) (n k e : ℕ) → k < length es → e ≡ get_or es k 0 → T (rises p (drop k es) n) → Step p es n k e
rises_more p es n k e h q t =
    let u : T (leb p e && rises e (drop (suc k) es) n) = rw q (rw (drop-cons es k 0 h) at t) in
    let r : T (rises e (drop (suc k) es) n) = and_r (leb p e) (rises e (drop (suc k) es) n) u in
    record {
      from = leb→le p e (and_l (leb p e) (rises e (drop (suc k) es) n) u);
      upto = rises_le e (drop (suc k) es) n r;
      rest = rw add-one r;
    }

-- ---- a loop that takes in the faces: from face k, the previous end p and the state s on it comes to `whole`
pub record Facing {S : Type 0} (f : List ℕ → S → S) (c es : List ℕ) (whole : S) (p k : ℕ) (s : S) : Type 0 where
  pub within : k ≤ length es
  pub ordered : T (rises p (drop k es) (length c))
  pub so : fold_list f (faces_from p c (drop k es)) s ≡ whole

module _ {S : Type 0} {f : List ℕ → S → S} {c es : List ℕ} {whole : S} where
  pub face_start : {s : S} → T (rises 0 es (length c)) → fold_list f (faces_of c es) s ≡ whole → Facing f c es whole 0 0 s
  unfolding faces_of
  face_start t e = record { within = zero-le; ordered = t; so = e }

  -- where the face k stands
  pub face_step : {p k : ℕ} {s : S} {e : ℕ} → Facing f c es whole p k s → k < length es → e ≡ get_or es k 0 → Step p es (length c) k e
  face_step {p} {k} {s} {e} l h q = rises_more p es (length c) k e h q l.ordered

  pub face_next : {p k : ℕ} {s s' : S} {e : ℕ} → Facing f c es whole p k s → k < length es → e ≡ get_or es k 0 → s' ≡ f (slice p e c) s
      → Facing f c es whole e (k + 1) s'
  unfolding fold_list
  face_next {p} {k} {s} {s'} {e} l h q g =
      record { within = omega arith; ordered = (face_step l h q).rest; so = rw (g, q) (sym (rw (faces_more p c es k h)) ∙ l.so) }

  pub face_end_lem : {p k : ℕ} {s : S} → Facing f c es whole p k s → length es ≤ k → s ≡ whole
  unfolding fold_list
  face_end_lem {p} {k} {s} l h = sym (rw (faces_none p c es k h)) ∙ l.so

-- ---- a loop that asks whether the test holds of a face
pub record FaceAsking (test : List ℕ → Bool) (c es : List ℕ) (whole : Bool) (p k : ℕ) : Type 0 where
  pub within : k ≤ length es
  pub ordered : T (rises p (drop k es) (length c))
  pub so : any_of test (faces_from p c (drop k es)) ≡ whole

module _ {test : List ℕ → Bool} {c es : List ℕ} {whole : Bool} where
  pub faces_start : T (rises 0 es (length c)) → any_of test (faces_of c es) ≡ whole → FaceAsking test c es whole 0 0
  unfolding faces_of
  faces_start t e = record { within = zero-le; ordered = t; so = e }

  pub faces_step : {p k e : ℕ} → FaceAsking test c es whole p k → k < length es → e ≡ get_or es k 0 → Step p es (length c) k e
  faces_step {p} {k} {e} l h q = rises_more p es (length c) k e h q l.ordered

  pub faces_yes : {p k e : ℕ} → FaceAsking test c es whole p k → k < length es → e ≡ get_or es k 0 → test (slice p e c) ≡ true
      → true ≡ whole
  unfolding any_of
  faces_yes {p} {k} {e} l h q g = sym (rw (faces_more p c es k h, ← q, g)) ∙ l.so

  pub faces_no : {p k e : ℕ} → FaceAsking test c es whole p k → k < length es → e ≡ get_or es k 0 → test (slice p e c) ≡ false
      → FaceAsking test c es whole e (k + 1)
  unfolding any_of
  faces_no {p} {k} {e} l h q g =
      record { within = omega arith; ordered = (faces_step l h q).rest; so = sym (rw (faces_more p c es k h, ← q, g)) ∙ l.so }

  pub faces_end : {p k : ℕ} → FaceAsking test c es whole p k → length es ≤ k → false ≡ whole
  unfolding any_of
  faces_end {p} {k} l h = sym (rw (faces_none p c es k h)) ∙ l.so

-- ---- a loop that tests the ends: `fall` says whether one of those before face k falls, and with the ends from there and from the
-- previous one p on it comes to `refused`
pub record Falling (es : List ℕ) (n : ℕ) (refused : Bool) (fall : Bool) (p k : ℕ) : Type 0 where
  pub within : k ≤ length es
  pub so : fall || not (rises p (drop k es) n) ≡ refused

module _ {es : List ℕ} {n : ℕ} {refused : Bool} where
  pub falls_start : not (rises 0 es n) ≡ refused → Falling es n refused false 0 0
  falls_start e = record { within = zero-le; so = e }

  pub falls_next : {fall fall' : Bool} {p k e : ℕ} → Falling es n refused fall p k → k < length es → e ≡ get_or es k 0
      → fall' ≡ fall || ltb e p → Falling es n refused fall' e (k + 1)
  falls_next {fall} {fall'} {p} {k} {e} l h q f =
      let all : fall || not (leb p e && rises e (drop (k + 1) es) n) ≡ refused = rw (q, add-one) (rw (drop-cons es k 0 h) at l.so) in
      record { within = omega arith; so = rw f (one_more fall (rises e (drop (k + 1) es) n) (dec_le p e) ∙ all) }
    where
      one_more : (a b : Bool) → Dec (p ≤ e) → (a || ltb e p) || not b ≡ a || not (leb p e && b)
      one_more true b d = refl
      one_more false b (yes g) = rw (le-ltb e p g, le-leb p e g)
      one_more false b (no g) = rw (lt-ltb e p (lt_of_not-le g), lt-leb p e (lt_of_not-le g))

  pub falls_end : {fall r : Bool} {p k : ℕ} → Falling es n refused fall p k → length es ≤ k → r ≡ fall || not (eqb p n) → r ≡ refused
  falls_end l h e = e ∙ rw (drop_of_length-le es h) at l.so

-- ---- faces by their number
pub faces_length : (p : ℕ) (c es : List ℕ) → length (faces_from p c es) ≡ length es
faces_length p c [] = refl
faces_length p c (e ∷ es) = ap suc (faces_length e c es)

pub length_faces : (c es : List ℕ) → length (faces_of c es) ≡ length es
unfolding faces_of
length_faces c es = faces_length 0 c es

from_at : (p : ℕ) (c es : List ℕ) (k : ℕ) → k < length es → get_or (faces_from p c es) k [] ≡ slice (get_or (p ∷ es) k 0) (get_or es k 0) c
from_at p c [] k h = absurd (omega arith)
from_at p c (e ∷ es) zero h = refl
from_at p c (e ∷ es) (suc k) h = from_at e c es k (omega arith)

-- the end before face k
pub start_at : (es : List ℕ) (k : ℕ) → 1 ≤ k → get_or (0 ∷ es) k 0 ≡ get_or es (k - 1) 0
start_at es zero h = absurd (omega arith)
start_at es (suc k) h = let q : suc k - 1 ≡ k = omega arith in rw q

-- face k runs from the end before it, 0 for the first, up to its own
pub face_at : (c es : List ℕ) (k : ℕ) → k < length es → get_or (faces_of c es) k [] ≡ slice (get_or (0 ∷ es) k 0) (get_or es k 0) c
unfolding faces_of
face_at c es k h = from_at 0 c es k h

pub rises_at : (p : ℕ) (es : List ℕ) (n k : ℕ) → k < length es → T (rises p es n)
    → (get_or (p ∷ es) k 0 ≤ get_or es k 0) × (get_or es k 0 ≤ n)
rises_at p [] n k h t = absurd (omega arith)
rises_at p (e ∷ es) n zero h t = (leb→le p e (and_l (leb p e) (rises e es n) t), rises_le e es n (and_r (leb p e) (rises e es n) t))
rises_at p (e ∷ es) n (suc k) h t = rises_at e es n k (omega arith) (and_r (leb p e) (rises e es n) t)

-- what a part of the corners, as it is lent, has to do with the face: they are the same
pub part_is : {A : Type 0} (s e : ℕ) (c : List A) → s ≤ e → take (e - s) (drop s c) ≡ slice s e c
part_is zero e c h = let q : e - 0 ≡ e = omega arith in rw q
part_is (suc s) zero c h = absurd (omega arith)
part_is {A} (suc s) (suc e) [] h = let q : suc e - suc s ≡ e - s = omega arith in rw q (nothing (e - s))
  where
    nothing : (n : ℕ) → ◌≡◌ {A = List A} (take n []) []
    nothing zero = refl
    nothing (suc n) = refl
part_is (suc s) (suc e) (x ∷ c) h = let q : suc e - suc s ≡ e - s = omega arith in rw q (part_is s e c (omega arith))
