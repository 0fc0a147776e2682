-- The planes of a cell's faces in a list, in the order of the faces, those of no area left out: the next plane is the next face's own if
-- that face has area, and where there are as many planes as faces, every face has.
use mathlib.Core.Path.{◌≡◌, refl, sym, ap, ◌∙◌}
use mathlib.Core.Bool.{Bool, true, false}
use mathlib.Core.List.{List, ◌∷◌}
use Prim.Native.Nat.{ℕ, ◌+◌, ◌<◌, ◌≤◌, zero-le}
use native.Mathlib.Omega.{arith}
use lib.ListN.{length, get_or, drop, length-drop}
use lib.Seq.{slice}
use Rattle.std.specs.Prelude.{Option, Some, None, is_some}
use Rattle.places.specs.Loops.{one_if, count_of}
use Rattle.places.proofs.Loops.{drop_more}
use Rattle.flat.specs.Points.{Point, corners_of}
use Rattle.cell.specs.Faces.{faces_from, faces_of}
use Rattle.cell.proofs.Faces.{faces_more, faces_length}
use Rattle.planes.specs.declared.Plane.{Plane}
use Rattle.planes.specs.Planes.{has_plane, has_no_area, newell_plane, plane_of, planes_of, no_area_count}
use Rattle.planes.specs.Steps.{plane_if}
use Rattle.planes.proofs.Faces.{answered_plane, answered_no_area, plane_with_area, planes_count}
use Rattle.overlap.specs.Steps.{Next}

-- ---- the face that comes next
module _ {vs : List Point} {face : List ℕ} {own : List Plane} {j : ℕ} {all : Bool} (next : Next vs face own j all) where
  -- where as many planes follow as faces
  pub next_full : all ≡ true → has_no_area (corners_of vs face) ≡ false
  unfolding no_area_count count_of
  next_full t = go (has_no_area (corners_of vs face)) refl
    where
      both : length (drop j own) + no_area_count vs (face ∷ next.later) ≡ length (face ∷ next.later)
      both = rw next.so (planes_count vs (face ∷ next.later))

      go : (b : Bool) → has_no_area (corners_of vs face) ≡ b → b ≡ false
      go true e =
          let one : no_area_count vs (face ∷ next.later) ≡ 1 + count_of (λ f. has_no_area (corners_of vs f)) next.later = rw e in
          absurd (omega (arith, both, next.as_many t))
      go false e = refl

  -- where it has area
  module _ (some : has_no_area (corners_of vs face) ≡ false) where
    first : drop j own ≡ newell_plane (corners_of vs face) ∷ planes_of vs next.later
    unfolding planes_of
    first = next.so ∙ rw (plane_with_area (corners_of vs face) some)

    pub next_there : j < length own
    next_there = omega (arith, length-drop j own, ap length first)

    pub next_plane : (d : Plane) → plane_of (corners_of vs face) ≡ has_plane (get_or own j d)
    next_plane d =
        let both : get_or own j d ∷ drop (j + 1) own ≡ newell_plane (corners_of vs face) ∷ planes_of vs next.later =
        sym (drop_more own j d next_there) ∙ first in
        rw (plane_with_area (corners_of vs face) some) (ap has_plane (sym (cc)))

-- what follows the first of the elements from place j on
drop_one : {A : Type 0} (l : List A) (j : ℕ) {x : A} {rest : List A} → drop j l ≡ x ∷ rest → drop (j + 1) l ≡ rest
drop_one l j {x} {rest} e =
    let some : j < length l = omega (arith, length-drop j l, ap length e) in
    let both : get_or l j x ∷ drop (j + 1) l ≡ x ∷ rest = sym (drop_more l j x some) ∙ e in
    cc

-- ---- the planes from place j on are those of the faces from k on, with the previous end p
pub record Beside (vs : List Point) (c es : List ℕ) (own : List Plane) (p k j : ℕ) : Type 0 where
  pub within : j ≤ length own
  pub so : drop j own ≡ planes_of vs (faces_from p c (drop k es))

pub beside_start : {vs : List Point} {c es : List ℕ} {own : List Plane} → own ≡ planes_of vs (faces_of c es) → Beside vs c es own 0 0 0
unfolding faces_of
beside_start e = record { within = zero-le; so = e }

module _ {vs : List Point} {c es : List ℕ} {own : List Plane} {p k j e : ℕ}
    (b : Beside vs c es own p k j) (h : k < length es) (q : e ≡ get_or es k 0) where
  -- the face k and those after it
  here : drop j own ≡ planes_of vs (slice p e c ∷ faces_from e c (drop (k + 1) es))
  here = b.so ∙ rw (faces_more p c es k h, q)

  -- where there are as many planes as faces, and no more are passed than faces, as many follow
  pub beside_next_face : {face : List ℕ} {all : Bool} → (all ≡ true → length own ≡ length es) → j ≤ k → face ≡ slice p e c
      → Next vs face own j all
  beside_next_face full few f =
      rw f
      (record {
        later = faces_from e c (drop (k + 1) es);
        so = here;
        as_many = λ t.
            let later = faces_from e c (drop (k + 1) es) in
            let both : length (drop j own) + no_area_count vs (slice p e c ∷ later) ≡ length (slice p e c ∷ later) =
            rw here (planes_count vs (slice p e c ∷ later)) in
            omega (arith, full t, length-drop j own, faces_length e c (drop (k + 1) es), length-drop (k + 1) es);
      })

  -- one more plane is passed where the face has area
  pub beside_next : {face : List ℕ} {found : Option Plane} {n : ℕ} → face ≡ slice p e c → found ≡ plane_if (plane_of (corners_of vs face))
      → n ≡ one_if (is_some found) → Beside vs c es own e (k + 1) (j + n)
  unfolding planes_of
  beside_next {face} {found} {n} s f g = go found f g
    where
      all : drop j own ≡ planes_of vs (face ∷ faces_from e c (drop (k + 1) es))
      all = here ∙ rw s

      go : (o : Option Plane) → o ≡ plane_if (plane_of (corners_of vs face)) → n ≡ one_if (is_some o)
          → Beside vs c es own e (k + 1) (j + n)
      go (Some q) t one =
          let is : plane_of (corners_of vs face) ≡ has_plane q = answered_plane (plane_of (corners_of vs face)) t in
          let more : drop j own ≡ q ∷ planes_of vs (faces_from e c (drop (k + 1) es)) = rw is at all in
          rw one (record { within = omega (arith, length-drop j own, ap length more); so = drop_one own j more })
      go None t one =
          let is = answered_no_area (plane_of (corners_of vs face)) t in
          let same : j + n ≡ j = omega (arith, one) in
          rw same (record { within = b.within; so = rw is at all })
