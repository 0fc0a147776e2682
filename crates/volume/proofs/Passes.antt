-- A pass over the faces, a face at a time, comes to what the definitions say of all triangles; and what the list that is lent for one face
-- holds at its front after a cut.
use mathlib.Core.Path.{◌≡◌, refl, sym, ◌∙◌}
use mathlib.Core.List.{List, [], ◌∷◌}
use Prim.Native.Nat.{ℕ, ◌+◌, ◌-◌, ◌≤◌}
use native.Mathlib.Nat.{zero-add}
use native.Mathlib.Omega.{arith}
use lib.ListN.{length, take, drop, length-append}
use lib.Seq.{take_at}
use Rattle.places.specs.Lists.{Each}
use Rattle.places.specs.Loops.{one_if, fold_list, count_of}
use Rattle.places.proofs.Loops.{one_at_most, fold_append}
use Rattle.floats.specs.F64.{zero64}
use Rattle.flat.specs.Points.{Point, centroid_of}
use Rattle.flat.specs.Steps.{Inside}
use Rattle.cut.specs.Cut.{cut_of}
use Rattle.cut.specs.Steps.{Shown}
use Rattle.cut.specs.declared.Counts.{Counts}
use Rattle.cut.proofs.Facts.{cut_room, cut_inside}
use Rattle.volume.specs.Triangles.{triangles_of, is_short, short_of}
use Rattle.volume.specs.Volume.{add_triple, sum_about, v6_of, add_moment, no_moments, moments_of}
use Rattle.volume.specs.Steps.{measured_of, add_face, add_face_moments}
use Rattle.volume.specs.declared.Measured.{Measured}
use Rattle.volume.specs.declared.Moments.{Moments}

module _ (vs : List Point) (ref : Point) where
  -- the pass from any state on
  measured_from : (fs : List (List ℕ)) (m : Measured)
      → fold_list (add_face vs ref) fs m ≡ record {
        v6 = fold_list (add_triple vs ref) (triangles_of vs fs) m.v6;
        triangles = m.triangles + length (triangles_of vs fs);
        short = m.short + short_of vs fs;
      }
  unfolding fold_list triangles_of short_of count_of add_face
  measured_from [] m = let a : m.triangles + 0 ≡ m.triangles = omega arith in let b : m.short + 0 ≡ m.short = omega arith in rw (a, b)
  measured_from (f ∷ fs) m =
      let ts = (cut_of vs f).triangles in
      let rest = triangles_of vs fs in
      let one : ℕ = one_if (is_short vs f) in
      let a : m.triangles + length ts + length rest ≡ m.triangles + (length ts + length rest) = omega arith in
      let b : m.short + one + count_of (is_short vs) fs ≡ m.short + (one + count_of (is_short vs) fs) = omega arith in
      measured_from fs (add_face vs ref f m) ∙ rw (a, b, fold_append (add_triple vs ref) ts rest m.v6, length-append ts rest)

  -- a fold over the faces, each by a fold over its triangles, is one fold over all triangles
  moments_from : (fs : List (List ℕ)) (m : Moments)
      → fold_list (add_face_moments vs ref) fs m ≡ fold_list (add_moment vs ref) (triangles_of vs fs) m
  unfolding fold_list triangles_of add_face_moments
  moments_from [] m = refl
  moments_from (f ∷ fs) m =
      moments_from fs (add_face_moments vs ref f m)
      ∙ sym (fold_append (add_moment vs ref) (cut_of vs f).triangles (triangles_of vs fs) m)

module _ (vs : List Point) (fs : List (List ℕ)) where
  pub measured_all : fold_list (add_face vs (centroid_of 3 vs)) fs (record { v6 = zero64; triangles = 0; short = 0 }) ≡ measured_of vs fs
  unfolding measured_of v6_of sum_about
  measured_all =
      measured_from vs (centroid_of 3 vs) fs (record { v6 = zero64; triangles = 0; short = 0 })
      ∙ rw (zero-add (length (triangles_of vs fs)), zero-add (short_of vs fs))

  pub moments_all : fold_list (add_face_moments vs (centroid_of 3 vs)) fs no_moments ≡ moments_of vs fs
  unfolding moments_of
  moments_all = moments_from vs (centroid_of 3 vs) fs no_moments

-- after the cut of the face f its triangles, `count` of them, stand at the front of the list that was lent for them
pub record Front (vs : List Point) (f : List ℕ) (count : ℕ) (out' : List (List ℕ)) : Type 0 where
  pub few : count ≤ length f - 2
  pub within : count ≤ length out'
  pub shown : take count out' ≡ (cut_of vs f).triangles
  pub inside : Each [] (Inside vs) (take count out')

pub cut_front : (vs : List Point) (f : List ℕ) {r : Counts} {out out' : List (List ℕ)} → Inside vs f → length f - 2 ≤ length out
    → length out' ≡ length out → Shown (cut_of vs f) r out out' → Front vs f r.triangles out'
cut_front vs f {r} {out} {out'} inside room kept s =
    let n = r.triangles in
    let few : n ≤ length f - 2 = omega (arith, cut_room vs f, s.count) in
    let shown : take n out' ≡ (cut_of vs f).triangles = rw s.written (take_at (cut_of vs f).triangles (drop n out) n (sym s.count)) in
    record { few = few; within = omega arith; shown = shown; inside = rw shown (cut_inside vs f inside) }

-- a face adds at most as many triangles as it has corners, and is short at most once
pub added : (vs : List Point) (ref : Point) (f : List ℕ) (m r : Measured) → r ≡ add_face vs ref f m
    → (r.triangles ≤ m.triangles + length f) × (r.short ≤ m.short + 1)
unfolding add_face
added vs ref f m r e = rw e (omega (arith, cut_room vs f), omega (arith, one_at_most (is_short vs f)))
