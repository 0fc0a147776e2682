-- The loop that reverses faces by their codes, each in its own stretch of the corner list, and counts those that it reverses:
-- with the corners before the face k and the faces from k on, as their codes have them, the list is the whole one.
use mathlib.Core.Path.{◌≡◌, refl, sym, ◌∙◌, ap}
use mathlib.Core.List.{List, [], ◌∷◌, ◌++◌, append_assoc, append-nil}
use Prim.Native.Nat.{ℕ, suc, ◌+◌, ◌-◌, ◌<◌, ◌≤◌}
use native.Mathlib.Omega.{arith}
use lib.Dec.{T, eqb, eqb→eq}
use lib.ListN.{length, get_or, take, drop, drop_of_length-le}
use lib.Seq.{slice, length-slice, take_all}
use borrow.Rule.Slice.PartMut.{put_mid}
use Rattle.places.specs.Stored.{joined}
use Rattle.places.proofs.Loops.{drop_more, one_at_most}
use Rattle.places.proofs.Stretch.{lay}
use Rattle.places.specs.Loops.{one_if}
use Rattle.exact.specs.Facing.{face_by, reversed_by, how_many}
use Rattle.exact.proofs.Reversed.{length_by}
use Rattle.cell.specs.Faces.{faces_from, faces_of, rises}
use Rattle.cell.proofs.Faces.{Step, rises_more, faces_more, part_is}
use Rattle.facing.specs.Steps.{code_choice}

pub record Reversing (c₀ es t whole : List ℕ) (many p k n : ℕ) (c : List ℕ) : Type 0 where
  pub within : k ≤ length es
  pub ordered : T (rises p (drop k es) (length c₀))
  pub long : length c ≡ length c₀
  pub ahead : drop p c ≡ drop p c₀
  pub few : n ≤ k
  pub counted : n + how_many (code_choice (drop k t)) (length es - k) ≡ many
  pub so : take p c ++ joined (reversed_by (code_choice (drop k t)) (faces_from p c₀ (drop k es))) ≡ whole

module _ {c₀ es t : List ℕ} where
  pub reverse_start : T (rises 0 es (length c₀))
      → Reversing c₀ es t (joined (reversed_by (code_choice t) (faces_of c₀ es))) (how_many (code_choice t) (length es)) 0 0 0 c₀
  unfolding faces_of
  reverse_start r =
      let z : length es - 0 ≡ length es = omega arith in
      record { within = omega arith; ordered = r; long = refl; ahead = refl; few = omega arith; counted = rw z (omega arith); so = refl }

  module _ {whole : List ℕ} {many p k n e : ℕ} {c : List ℕ} (r : Reversing c₀ es t whole many p k n c) (h : k < length es)
      (q : e ≡ get_or es k 0) where
    pub reverse_step : Step p es (length c₀) k e
    reverse_step = rises_more p es (length c₀) k e h q r.ordered

    -- what is lent of the corners is the face as it was
    lent : take (e - p) (drop p c) ≡ slice p e c₀
    lent = rw r.ahead (part_is p e c₀ reverse_step.from)

    pub reverse_next : {w : ℕ} {part : List ℕ} {n' : ℕ} → length t ≡ length es → w ≡ get_or t k 0
        → part ≡ face_by (eqb w 2) (take (e - p) (drop p c)) → n' ≡ n + one_if (eqb w 2)
        → Reversing c₀ es t whole many e (k + 1) n' (put_mid p (e - p) c part)
    unfolding joined
    reverse_next {w} {part} {n'} lt ew g m =
        let s = reverse_step in
        let sf = s.from in
        let su = s.upto in
        let z = r.long in
        let is : part ≡ face_by (eqb w 2) (slice p e c₀) = g ∙ ap (face_by (eqb w 2)) lent in
        let l : length part ≡ e - p = ap length is ∙ length_by (eqb w 2) (slice p e c₀) ∙ length-slice p e c₀ su in
        let laid = lay p e c₀ c part sf (omega arith) l r.ahead in
        let left : length es - k ≡ suc (length es - (k + 1)) = omega arith in
        let codes : drop k t ≡ w ∷ drop (k + 1) t = rw ew (drop_more t k 0 (omega arith)) in
        record {
          within = omega arith;
          ordered = s.rest;
          long = laid.long ∙ z;
          ahead = laid.ahead;
          few = omega (arith, r.few, one_at_most (eqb w 2));
          counted = omega (arith, rw (left, codes) at r.counted);
          so = rw (laid.front, append_assoc, is, q) (rw (codes, faces_more p c₀ es k h) at r.so);
        }

  pub reverse_end : {whole : List ℕ} {many p k n : ℕ} {c : List ℕ} → Reversing c₀ es t whole many p k n c → length es ≤ k
      → (c ≡ whole) × (n ≡ many)
  unfolding joined
  reverse_end {whole} {many} {p} {k} {n} {c} r h =
      let d : drop k es ≡ [] = drop_of_length-le es h in
      let e : p ≡ length c₀ = eqb→eq p (length c₀) (rw d at r.ordered) in
      let z = r.long in
      let left : length es - k ≡ 0 = omega arith in
      (sym (rw (d, append-nil (take p c), take_all p c (omega arith))) ∙ r.so, omega (arith, rw left at r.counted))
