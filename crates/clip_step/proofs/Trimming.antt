-- The loop that trims an outline, by whatever keeps a point and wherever a side crosses.
-- Its invariant says: what the sides that are left leave makes, with what was laid down, the whole.
use mathlib.Core.Path.{◌≡◌, sym, ◌∙◌}
use mathlib.Core.Bool.{Bool, true, false}
use mathlib.Core.List.{List, [], ◌∷◌, ◌++◌}
use Prim.Native.Nat.{ℕ, ◌+◌, ◌-◌, ◌*◌, ◌<◌, ◌≤◌, zero-le}
use native.Mathlib.Omega.{arith}
use lib.ListN.{length, get_or, drop, drop_of_length-le, length-append, get_or-append}
use lib.Ieee.{Float}
use lib.Seq.{get_or_at}
use native.Mathlib.Nat.{not-suc-le-zero}
use Rattle.flat.specs.Flat.{crossing_of}
use Rattle.places.proofs.Loops.{drop_more}
use Rattle.flat.specs.Points.{Point}
use Rattle.planes.specs.declared.Plane.{Plane}
use Rattle.work_lists.specs.Steps.{Filled}
use Rattle.work_lists.proofs.Filling.{Rest, rest_start, rest_more, rest_end}
use Rattle.clip_step.specs.ClipStep.{side_leaves, trim_from, within, cross_plane, trimmed_by, on_left, trimmed_at}

-- a side leaves at most two points
side_few : (s t : Bool) (x b : Point) → length (side_leaves s t x b) ≤ 2
side_few true true x b = omega arith
side_few true false x b = omega arith
side_few false true x b = omega arith
side_few false false x b = omega arith

-- the sides from a through the points from place i on are left, and m points were laid down
pub record Trimming (keep : Point → Bool) (cross : Point → Point → Point) (ps all before : List Point)
    (a : Point) (i m : ℕ) (l : List Point) : Type 0 where
  pub within : i ≤ length ps
  pub few : m ≤ 2 * i
  pub rest : Rest all before m (trim_from keep cross a (drop i ps)) l

module _ {keep : Point → Bool} {cross : Point → Point → Point} {ps all before : List Point} {a : Point} {i : ℕ} where
  pub trimming_start : i ≤ length ps → all ≡ trim_from keep cross a (drop i ps) → Trimming keep cross ps all before a i 0 before
  trimming_start h e = record { within = h; few = zero-le; rest = rw e rest_start }

  pub trimming_more : {b : Point} {m r : ℕ} {l l' : List Point} → Trimming keep cross ps all before a i m l
      → i < length ps → b ≡ get_or ps i [] → Filled (side_leaves (keep a) (keep b) (cross a b) b) m l r l'
      → Trimming keep cross ps all before b (i + 1) r l'
  unfolding trim_from
  trimming_more {b} p h e f =
      record {
        within = omega arith;
        few = omega (arith, p.few, f.count, side_few (keep a) (keep b) (cross a b) b);
        rest = rest_more (rw (drop_more ps i [] h, ← e) at p.rest) f;
      }

  pub trimming_end : {m : ℕ} {l : List Point} → Trimming keep cross ps all before a i m l → length ps ≤ i → Filled all 0 before m l
  unfolding trim_from
  trimming_end p h = rest_end (rw (drop_of_length-le ps h) at p.rest)

-- ---- a plane takes the sides from the last point on
pub trimmed_last : (plane : Plane) (eps : Float) (ps : List Point) {a : Point} → a ≡ get_or ps (length ps - 1) []
    → trimmed_by plane eps ps ≡ trim_from (within plane eps) (cross_plane plane) a ps
unfolding trimmed_by
trimmed_last plane eps ps e = rw e

-- ---- an edge takes them in order, the last to the first point: through the outline with its first point once more
abbrev pub ringed : List Point → List Point
ringed ps = ps ++ get_or ps 0 [] ∷ []

pub trimmed_ringed : (a b : Point) (ps : List Point) {p : Point} → 0 < length ps → p ≡ get_or ps 0 []
    → trimmed_at a b ps ≡ trim_from (on_left a b) (crossing_of a b) p (drop 1 (ringed ps))
unfolding trimmed_at
trimmed_ringed a b [] h e = absurd (not-suc-le-zero h)
trimmed_ringed a b (p ∷ ps) h e = rw e

pub length_ringed : (ps : List Point) → length (ringed ps) ≡ length ps + 1
length_ringed ps = length-append ps (get_or ps 0 [] ∷ [])

module _ (ps : List Point) {keep : Point → Bool} {cross : Point → Point → Point} {all before : List Point} {a b : Point} {i m r : ℕ}
    {l l' : List Point} (t : Trimming keep cross (ringed ps) all before a i m l) where
  pub ringed_more : i < length ps → b ≡ get_or ps i [] → Filled (side_leaves (keep a) (keep b) (cross a b) b) m l r l'
      → Trimming keep cross (ringed ps) all before b (i + 1) r l'
  ringed_more h e f = trimming_more t (omega (arith, length_ringed ps)) (e ∙ sym (get_or-append ps (get_or ps 0 [] ∷ []) [] i h)) f

  -- the last side, at the place after the outline's own
  pub ringed_end : i ≡ length ps → b ≡ get_or ps 0 [] → Filled (side_leaves (keep a) (keep b) (cross a b) b) m l r l'
      → Filled all 0 before r l'
  ringed_end h e f =
      let closes = e ∙ sym (get_or_at ps (get_or ps 0 []) [] [] i (sym h)) in
      trimming_end (trimming_more t (omega (arith, length_ringed ps)) closes f) (omega (arith, length_ringed ps))
