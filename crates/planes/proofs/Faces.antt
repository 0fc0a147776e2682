-- Loops over the faces of a cell: `planes` lays down the planes of those that have area, `no_area_faces` a number for each, and
-- `no_area_count` counts. In each, what the faces before face k gave and what those from it on will give are together the whole.
use mathlib.Core.Path.{◌≡◌, refl, sym, ap, ◌∙◌}
use mathlib.Core.Bool.{Bool, true, false}
use mathlib.Core.List.{List, [], ◌∷◌, ◌++◌, map, append_assoc, append-nil}
use Prim.Native.Nat.{ℕ, ◌+◌, ◌<◌, ◌≤◌, zero-le}
use native.Mathlib.Numerals.{add-one}
use native.Mathlib.Nat.{zero-add}
use native.Mathlib.Omega.{arith}
use lib.Dec.{T}
use mir.Val.{bool_byte}
use lib.ListN.{length, get_or, set, take, drop, length-set, length-take}
use lib.Seq.{slice, take_all, take-suc-set}
use borrow.Author.Tests.{eqb-false}
use Rattle.places.specs.Loops.{one_if, count_of}
use Rattle.std.proofs.Common.{Some, None}
use Rattle.flat.specs.Points.{Point, corners_of}
use Rattle.cell.specs.Faces.{faces_from, faces_of, rises}
use Rattle.cell.specs.Refusals.{is_empty, empty_refused}
use Rattle.cell.proofs.Faces.{Step, FaceAsking, faces_start, faces_step, faces_yes, faces_no, faces_more, faces_none, rises_more}
use Rattle.planes.specs.declared.Plane.{Plane}
use Rattle.planes.specs.Planes.{PlaneOrNoArea, no_area, has_plane, has_no_area, newell_plane, plane_of, planes_of, no_area_count}
use Rattle.planes.specs.Steps.{plane_if}

-- and as it is answered
pub answered_plane : (x : PlaneOrNoArea) {p : Plane} → Some p ≡ plane_if x → x ≡ has_plane p
answered_plane no_area e = cc
answered_plane (has_plane p) e = ap has_plane (cc)

pub answered_no_area : (x : PlaneOrNoArea) → None ≡ plane_if x → x ≡ no_area
answered_no_area no_area e = refl
answered_no_area (has_plane p) e = cc

-- ---- a face by its points
pub plane_with_area : (ps : List Point) → has_no_area ps ≡ false → plane_of ps ≡ has_plane (newell_plane ps)
unfolding plane_of
plane_with_area ps e = rw e

pub plane_without_area : (ps : List Point) → has_no_area ps ≡ true → plane_of ps ≡ no_area
unfolding plane_of
plane_without_area ps e = rw e

-- every face has a plane or no area
pub planes_count : (vs : List Point) (faces : List (List ℕ)) → length (planes_of vs faces) + no_area_count vs faces ≡ length faces
unfolding planes_of no_area_count count_of
planes_count vs [] = refl
planes_count vs (face ∷ faces) = go (has_no_area (corners_of vs face)) refl (planes_count vs faces)
  where
    go : (b : Bool) → has_no_area (corners_of vs face) ≡ b → length (planes_of vs faces) + no_area_count vs faces ≡ length faces
        → length (planes_of vs (face ∷ faces)) + no_area_count vs (face ∷ faces) ≡ length (face ∷ faces)
    go true e h = rw (plane_without_area (corners_of vs face) e, e) (omega arith)
    go false e h = rw (plane_with_area (corners_of vs face) e, e) (omega arith)

-- ---- a face that is not empty has a first corner
pub has_corner_lem : (face : List ℕ) → is_empty face ≡ false → 0 < length face
unfolding is_empty
has_corner_lem face e = let h : length face ≡ 0 → ⊥ = eqb-false (length face) 0 e in omega arith

-- ---- the planes: m are laid down at the front of `out`, and with those of the faces from k on, with the previous end p, they are `whole`
pub record Gathering (vs : List Point) (c es : List ℕ) (whole : List Plane) (p k m : ℕ) (out : List Plane) : Type 0 where
  pub solid : FaceAsking is_empty c es false p k
  pub few : m ≤ k
  pub room : length es ≤ length out
  pub so : take m out ++ planes_of vs (faces_from p c (drop k es)) ≡ whole

module _ {vs : List Point} {c es : List ℕ} where
  pub gather_start : {out : List Plane} → T (rises 0 es (length c)) → empty_refused c es ≡ false → length es ≤ length out
      → Gathering vs c es (planes_of vs (faces_of c es)) 0 0 0 out
  unfolding empty_refused faces_of
  gather_start t e r = record { solid = faces_start t e; few = zero-le; room = r; so = refl }

module _ {vs : List Point} {c es : List ℕ} {whole out : List Plane} {p k m e : ℕ}
    (g : Gathering vs c es whole p k m out) (h : k < length es) (q : e ≡ get_or es k 0) where
  -- where the face k stands, and that it has a corner
  pub gather_step : Step p es (length c) k e
  gather_step = faces_step g.solid h q

  gather_solid : is_empty (slice p e c) ≡ false
  gather_solid = go (is_empty (slice p e c)) refl
    where
      go : (b : Bool) → is_empty (slice p e c) ≡ b → b ≡ false
      go true t = faces_yes g.solid h q t
      go false t = refl

  pub gather_corner : 0 < length (slice p e c)
  gather_corner = has_corner_lem (slice p e c) gather_solid

  -- it has no area, or its plane is laid down
  pub gather_none : plane_of (corners_of vs (slice p e c)) ≡ no_area → Gathering vs c es whole e (k + 1) m out
  unfolding planes_of
  gather_none f =
      record {
        solid = faces_no g.solid h q gather_solid;
        few = omega (arith, g.few);
        room = g.room;
        so = sym (rw (faces_more p c es k h, ← q, f)) ∙ g.so;
      }

  pub gather_one : {x : Plane} {out' : List Plane} → plane_of (corners_of vs (slice p e c)) ≡ has_plane x → out' ≡ set out m x
      → Gathering vs c es whole e (k + 1) (m + 1) out'
  unfolding planes_of
  gather_one {x} {out'} f w =
      let one_more = take-suc-set out m x (omega (arith, g.few, g.room)) in
      record {
        solid = faces_no g.solid h q gather_solid;
        few = omega (arith, g.few);
        room = rw (w, length-set) g.room;
        so = rw (w, add-one m, one_more, append_assoc) (sym (rw (faces_more p c es k h, ← q, f)) ∙ g.so);
      }

pub gather_end : {vs : List Point} {c es : List ℕ} {whole out : List Plane} {p k m : ℕ} → Gathering vs c es whole p k m out → length es ≤ k
    → k ≤ length es → (m ≡ length whole) × (take m out ≡ whole)
unfolding planes_of
gather_end {c = c} {es = es} {out = out} {p = p} {k = k} {m = m} g h l =
    let all : take m out ≡ _ = sym (append-nil (take m out)) ∙ sym (rw (faces_none p c es k h)) ∙ g.so in
    (omega (arith, length-take m out, ap length all, g.few, g.room), all)

-- a test as the number that is laid down or counted
pub counted : (b : Bool) → bool_byte b ≡ one_if b
counted true = refl
counted false = refl

-- ---- a number for each face: k are laid down, and with those of the faces from k on they are `whole`
pub record Laying {A : Type 0} (f : List ℕ → A) (c es : List ℕ) (whole : List A) (p k : ℕ) (out : List A) : Type 0 where
  pub ordered : T (rises p (drop k es) (length c))
  pub room : length out ≡ length es
  pub so : take k out ++ map f (faces_from p c (drop k es)) ≡ whole

module _ {A : Type 0} {f : List ℕ → A} {c es : List ℕ} where
  pub lay_start : {out : List A} → T (rises 0 es (length c)) → length out ≡ length es → Laying f c es (map f (faces_of c es)) 0 0 out
  unfolding faces_of
  lay_start t r = record { ordered = t; room = r; so = refl }

module _ {A : Type 0} {f : List ℕ → A} {c es : List ℕ} {whole out : List A} {p k : ℕ} where
  pub lay_step : {e : ℕ} → Laying f c es whole p k out → k < length es → e ≡ get_or es k 0 → Step p es (length c) k e
  lay_step {e} l h q = rises_more p es (length c) k e h q l.ordered

  pub lay_next : {e : ℕ} {out' : List A} → Laying f c es whole p k out → k < length es → e ≡ get_or es k 0
      → out' ≡ set out k (f (slice p e c)) → Laying f c es whole e (k + 1) out'
  lay_next {e} {out'} l h q g =
      let one_more = take-suc-set out k (f (slice p e c)) (omega (arith, l.room)) in
      record {
        ordered = (lay_step l h q).rest;
        room = rw (g, length-set) l.room;
        so = rw (g, add-one k, one_more, append_assoc, ← add-one k, q) (sym (rw (faces_more p c es k h)) ∙ l.so);
      }

  pub lay_end : Laying f c es whole p k out → length es ≤ k → out ≡ whole
  lay_end l h = sym (rw (faces_none p c es k h) (append-nil (take k out) ∙ take_all k out (omega (arith, l.room)))) ∙ l.so

-- ---- a count: n of the faces before k pass the test, and with those from k on there are `whole`
pub record Counting (test : List ℕ → Bool) (c es : List ℕ) (whole p k n : ℕ) : Type 0 where
  pub ordered : T (rises p (drop k es) (length c))
  pub few : n ≤ k
  pub so : n + count_of test (faces_from p c (drop k es)) ≡ whole

module _ {test : List ℕ → Bool} {c es : List ℕ} where
  pub count_start : T (rises 0 es (length c)) → Counting test c es (count_of test (faces_of c es)) 0 0 0
  unfolding faces_of
  count_start t = record { ordered = t; few = zero-le; so = zero-add _ }

module _ {test : List ℕ → Bool} {c es : List ℕ} {whole p k n : ℕ} where
  pub count_step : {e : ℕ} → Counting test c es whole p k n → k < length es → e ≡ get_or es k 0 → Step p es (length c) k e
  count_step {e} l h q = rises_more p es (length c) k e h q l.ordered

  pub count_next : {e n' : ℕ} → Counting test c es whole p k n → k < length es → e ≡ get_or es k 0
      → n' ≡ n + one_if (test (slice p e c)) → Counting test c es whole e (k + 1) n'
  unfolding count_of
  count_next {e} {n'} l h q g =
      record {
        ordered = (count_step l h q).rest;
        few = rw g (one_at_most (test (slice p e c)));
        so =
            let all : n + (one_if (test (slice p e c)) + count_of test (faces_from e c (drop (k + 1) es))) ≡ whole =
            sym (rw (faces_more p c es k h, ← q)) ∙ l.so in
            rw g (omega arith);
      }
    where
      one_at_most : (b : Bool) → n + one_if b ≤ k + 1
      one_at_most true = omega (arith, l.few)
      one_at_most false = omega (arith, l.few)

  pub count_end : Counting test c es whole p k n → length es ≤ k → n ≡ whole
  unfolding count_of
  count_end l h =
      let all : n + 0 ≡ whole = sym (rw (faces_none p c es k h)) ∙ l.so in
      omega arith
