-- The loop of `contribution`: a fan of triangles from the first point of an outline, in which each point is taken from the reference once
-- and is the next triangle's too.
use mathlib.Core.Path.{◌≡◌, refl, sym, ◌∙◌}
use mathlib.Core.List.{List, [], ◌∷◌}
use Prim.Native.Nat.{ℕ, zero, suc, ◌+◌, ◌-◌, ◌<◌, ◌≤◌}
use native.Mathlib.Omega.{arith}
use lib.ListN.{length, get_or, drop}
use lib.Ieee.{Float, of_bits, div}
use Rattle.places.specs.Ring.{fold_pairs}
use Rattle.places.specs.Loops.{fold_list}
use Rattle.places.proofs.Loops.{drop_more}
use Rattle.floats.specs.F64.{◌+f◌, ◌/f◌, zero64, six64}
use Rattle.flat.specs.Points.{Point, minus_of}
use Rattle.volume.specs.Volume.{triple_of}
use Rattle.overlap.specs.Overlap.{steps, add_fan, contribution_of}

-- the steps of a list from a place on
steps_more : (l : List Point) (j : ℕ) (d : Point) → j + 1 < length l
    → steps (drop j l) ≡ (get_or l j d, get_or l (j + 1) d) ∷ steps (drop (j + 1) l)
steps_more l j d h = rw (drop_more l j d (omega arith), drop_more l (j + 1) d h)

steps_last : (l : List Point) (j : ℕ) → length l ≤ j + 1 → steps (drop j l) ≡ []
steps_last [] zero h = refl
steps_last [] (suc j) h = refl
steps_last (a ∷ []) zero h = refl
steps_last (a ∷ b ∷ l) zero h = absurd (omega arith)
steps_last (a ∷ l) (suc j) h = steps_last l j (omega arith)

-- from place i on, with the point before it taken from the reference, the sum v comes to `whole`
pub record Fanning (ref p : Point) (ps : List Point) (whole : Float) (i : ℕ) (a : Point) (v : Float) : Type 0 where
  pub some : 1 ≤ i
  pub within : i ≤ length ps
  pub last : a ≡ minus_of 3 (get_or ps (i - 1) []) ref
  pub so : fold_pairs (add_fan ref p) (steps (drop (i - 1) ps)) v ≡ whole

-- the sum of a fan
abbrev pub fan_of : Point → List Point → Float
fan_of ref ps = fold_pairs (add_fan ref (get_or ps 0 [])) (steps (drop 1 ps)) zero64

module _ {ref : Point} {ps : List Point} where
  pub fan_start : {a : Point} → 2 ≤ length ps → a ≡ minus_of 3 (get_or ps 1 []) ref
      → Fanning ref (get_or ps 0 []) ps (fan_of ref ps) 2 a zero64
  fan_start h q = record { some = omega arith; within = h; last = q; so = refl }

  pub fan_next : {p : Point} {whole : Float} {i : ℕ} {a b : Point} {v w : Float} → Fanning ref p ps whole i a v → i < length ps
      → b ≡ minus_of 3 (get_or ps i []) ref → w ≡ v +f triple_of (minus_of 3 p ref) a b → Fanning ref p ps whole (i + 1) b w
  unfolding fold_list add_fan
  fan_next {p} {i = i} {v = v} l h q e =
      let back : i - 1 + 1 ≡ i = omega (arith, l.some) in
      let on : i + 1 - 1 ≡ i = omega arith in
      record {
        some = omega arith;
        within = omega arith;
        last = rw on q;
        so = rw (on, e, l.last, q) (sym (rw (steps_more ps (i - 1) [] (omega (arith, l.some)), back)) ∙ l.so);
      }

  pub fan_end : {p : Point} {whole : Float} {i : ℕ} {a : Point} {v : Float} → Fanning ref p ps whole i a v → length ps ≤ i → v ≡ whole
  unfolding fold_list
  fan_end {i = i} l h = sym (rw (steps_last ps (i - 1) (omega (arith, l.some)))) ∙ l.so

-- ---- what the sum says of the contribution
pub contribution_is : (ref : Point) (ps : List Point) → 3 ≤ length ps → fan_of ref ps /f six64 ≡ contribution_of ref ps
unfolding contribution_of
contribution_is ref [] h = absurd (omega arith)
contribution_is ref (p ∷ ps) h = refl

-- an outline under 3 points has no triangle
pub contribution_none : (ref : Point) (ps : List Point) → length ps < 3 → zero64 ≡ contribution_of ref ps
unfolding contribution_of fold_list of_bits div
contribution_none ref [] h = refl
contribution_none ref (a ∷ []) h = refl
contribution_none ref (a ∷ b ∷ []) h = refl
contribution_none ref (a ∷ b ∷ c ∷ ps) h = absurd (omega arith)
