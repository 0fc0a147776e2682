-- The loop over the vertices that remembers on which sides of a plane it has seen one, and passes over the corners of a face: its start,
-- its two ways on and its end, for `plane_parts`.
use mathlib.Core.Path.{◌≡◌, refl, sym, ◌∙◌}
use mathlib.Core.Bool.{Bool, true, false, ◌&&◌, cond}
use mathlib.Core.List.{List, [], ◌∷◌}
use Prim.Native.Nat.{ℕ, ◌+◌, ◌<◌, ◌≤◌, zero-le}
use native.Mathlib.Omega.{arith}
use lib.ListN.{length, drop, drop_of_length-le}
use lib.Ieee.{Float}
use Rattle.places.specs.Loops.{any_of}
use Rattle.places.proofs.Loops.{drop_more}
use Rattle.flat.specs.Points.{Point, vertex_of}
use Rattle.outward.specs.Convexity.{above, below, has_corner, other_vertices_from, other_vertices, plane_parts}
use Rattle.outward.specs.Steps.{see_of}
use Rattle.outward.specs.declared.Seen.{Seen}

-- whether both sides are seen once the points `ps` are looked at besides
abbrev pub seen_after : Point → Float → Float → Seen → List Point → Bool
seen_after n d eps seen ps = cond seen.above true (any_of (above n d eps) ps) && cond seen.below true (any_of (below n d eps) ps)

-- from the vertex v and what was seen on the answer is `whole`, and both sides were not seen yet
pub record Parting (n : Point) (d eps : Float) (face : List ℕ) (vs : List Point) (whole : Bool) (v : ℕ) (seen : Seen) : Type 0 where
  pub within : v ≤ length vs
  pub yet : seen.above && seen.below ≡ false
  pub so : seen_after n d eps seen (other_vertices_from face v (drop v vs)) ≡ whole

-- ---- what was seen before and what is seen now
seen_or : (a b r : Bool) → cond (cond b true a) true r ≡ cond a true (cond b true r)
seen_or true true r = refl
seen_or true false r = refl
seen_or false true r = refl
seen_or false false r = refl

both_seen : (a b x y : Bool) → a && b ≡ true → true ≡ cond a true x && cond b true y
both_seen true true x y e = refl
both_seen true false x y e = cc
both_seen false b x y e = cc

none_left : (a b : Bool) → cond a true false && cond b true false ≡ a && b
none_left true true = refl
none_left true false = refl
none_left false b = refl

module _ (n : Point) (d eps : Float) where
  sees : (p : Point) (ps : List Point) (seen : Seen) → seen_after n d eps (see_of n d eps p seen) ps ≡ seen_after n d eps seen (p ∷ ps)
  unfolding any_of see_of
  sees p ps seen =
      rw (
        seen_or seen.above (above n d eps p) (any_of (above n d eps) ps),
        seen_or seen.below (below n d eps p) (any_of (below n d eps) ps),
      )

  -- the vertex v is looked at, or passed over
  looked : (face : List ℕ) (vs : List Point) (v : ℕ) (seen : Seen) → v < length vs
      → seen_after n d eps (cond (has_corner face v) seen (see_of n d eps (vertex_of vs v) seen))
      (other_vertices_from face (v + 1) (drop (v + 1) vs))
      ≡ seen_after n d eps seen (other_vertices_from face v (drop v vs))
  unfolding other_vertices_from
  looked face vs v seen h = rw (drop_more vs v [] h) (go (has_corner face v) (other_vertices_from face (v + 1) (drop (v + 1) vs)))
    where
      go : (b : Bool) (rest : List Point)
          → seen_after n d eps (cond b seen (see_of n d eps (vertex_of vs v) seen)) rest
          ≡ seen_after n d eps seen (cond b rest (vertex_of vs v ∷ rest))
      go true rest = refl
      go false rest = sees (vertex_of vs v) rest seen

module _ {n : Point} {d eps : Float} {face : List ℕ} {vs : List Point} where
  pub part_start : Parting n d eps face vs (plane_parts n d eps (other_vertices vs face)) 0 (record { above = false; below = false })
  unfolding plane_parts
  part_start = record { within = zero-le; yet = refl; so = refl }

  module _ {whole : Bool} {v : ℕ} {seen seen' : Seen} where
    -- the next turn comes to the same
    onward : Parting n d eps face vs whole v seen → v < length vs
        → seen' ≡ cond (has_corner face v) seen (see_of n d eps (vertex_of vs v) seen)
        → seen_after n d eps seen' (other_vertices_from face (v + 1) (drop (v + 1) vs)) ≡ whole
    onward p h e = rw e (looked n d eps face vs v seen h) ∙ p.so

    pub part_yes : Parting n d eps face vs whole v seen → v < length vs
        → seen' ≡ cond (has_corner face v) seen (see_of n d eps (vertex_of vs v) seen)
        → seen'.above && seen'.below ≡ true → true ≡ whole
    part_yes p h e g = both_seen seen'.above seen'.below _ _ g ∙ onward p h e

    pub part_no : Parting n d eps face vs whole v seen → v < length vs
        → seen' ≡ cond (has_corner face v) seen (see_of n d eps (vertex_of vs v) seen)
        → seen'.above && seen'.below ≡ false → Parting n d eps face vs whole (v + 1) seen'
    part_no p h e g = record { within = omega arith; yet = g; so = onward p h e }

  pub part_end : {whole : Bool} {v : ℕ} {seen : Seen} → Parting n d eps face vs whole v seen → length vs ≤ v → false ≡ whole
  unfolding other_vertices_from any_of
  part_end {whole} {v} {seen} p h = sym p.yet ∙ sym (none_left seen.above seen.below) ∙ sym (rw (drop_of_length-le vs h)) ∙ p.so
