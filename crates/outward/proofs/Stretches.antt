-- The loop that turns the faces of a cell, each in its own stretch of the corner list, by its start, its next face and its end; it is that
-- of `into_ccw`.
use mathlib.Core.Path.{◌≡◌, refl, sym, ◌∙◌}
use mathlib.Core.Bool.{true, false}
use mathlib.Core.List.{List, [], ◌++◌, map, append_assoc, append-nil}
use Prim.Native.Nat.{ℕ, ◌+◌, ◌-◌, ◌<◌, ◌≤◌}
use native.Mathlib.Omega.{arith}
use lib.Dec.{T, eqb→eq}
use lib.ListN.{length, get_or, take, drop, drop_of_length-le}
use lib.Seq.{slice, length-slice, take_all}
use borrow.Rule.Slice.PartMut.{put_mid}
use Rattle.places.specs.Stored.{joined}
use Rattle.places.proofs.Stretch.{lay}
use Rattle.cell.specs.Faces.{faces_from, faces_of, rises}
use Rattle.cell.specs.Refusals.{is_empty, empty_refused}
use Rattle.cell.proofs.Faces.{Step, FaceAsking, faces_start, faces_step, faces_yes, faces_no, faces_more, part_is}
use Rattle.cell.proofs.Refusals.{empty_yes, empty_no}

-- ---- a loop that turns faces by f: from face k on, which starts at p, the corners c
-- come to `whole`. From p on they are still the first ones, c₀.
pub record Stretches (f : List ℕ → List ℕ) (c₀ es whole : List ℕ) (p k : ℕ) (c : List ℕ) : Type 0 where
  pub faces : FaceAsking is_empty c₀ es false p k
  pub long : length c ≡ length c₀
  pub ahead : drop p c ≡ drop p c₀
  pub so : take p c ++ joined (map f (faces_from p c₀ (drop k es))) ≡ whole

module _ {f : List ℕ → List ℕ} {c₀ es whole : List ℕ} where
  pub stretch_start : T (rises 0 es (length c₀)) → empty_refused c₀ es ≡ false → joined (map f (faces_of c₀ es)) ≡ whole
      → Stretches f c₀ es whole 0 0 c₀
  unfolding empty_refused faces_of
  stretch_start t n e = record { faces = faces_start t n; long = refl; ahead = refl; so = e }

  module _ {p k e : ℕ} {c : List ℕ} (t : Stretches f c₀ es whole p k c) (h : k < length es) (q : e ≡ get_or es k 0) where
    pub stretch_step : Step p es (length c₀) k e
    stretch_step = faces_step t.faces h q

    -- no face is empty
    apart : p ≡ e → ⊥
    apart g = let z : true ≡ false = faces_yes t.faces h q (empty_yes p e c₀ g) in absurd (let w : ◌≡◌ {A = ℕ} 0 1 = cc in omega arith)

    -- what is lent of the corners is the face as it was
    pub stretch_part : take (e - p) (drop p c) ≡ slice p e c₀
    stretch_part = rw t.ahead (part_is p e c₀ stretch_step.from)

    pub stretch_some : 0 < length (take (e - p) (drop p c))
    stretch_some =
        rw (stretch_part, length-slice p e c₀ stretch_step.upto) (let s = stretch_step in let n : p ≡ e → ⊥ = apart in omega arith)

    -- the face is turned in its stretch, and the corners before and after it stay
    pub stretch_next : {turned : List ℕ} → ((l : List ℕ) → length (f l) ≡ length l) → turned ≡ f (take (e - p) (drop p c))
        → Stretches f c₀ es whole e (k + 1) (put_mid p (e - p) c turned)
    unfolding joined
    stretch_next {turned} keeps g =
        let s = stretch_step in
        let z = t.long in
        let m : length turned ≡ length (take (e - p) (drop p c)) = rw g (keeps (take (e - p) (drop p c))) in
        let l : length turned ≡ e - p = m ∙ rw stretch_part (length-slice p e c₀ s.upto) in
        let u = s.upto in
        let laid = lay p e c₀ c turned s.from (omega arith) l t.ahead in
        record {
          faces = faces_no t.faces h q (empty_no p e c₀ s.from s.upto apart);
          long = laid.long ∙ z;
          ahead = laid.ahead;
          so = rw (laid.front, append_assoc, g, stretch_part, q) (sym (rw (faces_more p c₀ es k h)) ∙ t.so);
        }

  pub stretch_end : {p k : ℕ} {c : List ℕ} → Stretches f c₀ es whole p k c → length es ≤ k → c ≡ whole
  unfolding joined
  stretch_end {p} {k} {c} t h =
      let d : drop k es ≡ [] = drop_of_length-le es h in
      let n : p ≡ length c₀ = eqb→eq p (length c₀) (rw d at t.faces.ordered) in
      let z = t.long in
      sym (rw (d, append-nil (take p c), take_all p c (omega arith))) ∙ t.so
