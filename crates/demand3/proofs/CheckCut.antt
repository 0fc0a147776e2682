-- Request 9 holds: our own cut by place is a cut (OwnCut.antt), nothing of it is refused, and `check_cut` says yes exactly for cuts;
-- whatever is a cut has the sides of the face, a side and its back taken off, and so the face's doubled area vector.
use mathlib.Core.Path.{◌≡◌, refl, sym, ◌∙◌, ap}
use mathlib.Core.Logic.{◌↔◌}
use mathlib.Core.Bool.{true}
use mathlib.Core.List.{List, [], ◌∷◌, map}
use Prim.Native.Nat.{ℕ, ◌-◌, ◌<◌, ◌≤◌}
use native.Mathlib.Omega.{arith}
use lib.ListN.{length, get_or, take}
use Rattle.std.specs.Prelude.{Ok}
use Rattle.geometry.specs.Answers.{Answer}
use Rattle.places.specs.Lists.{Each}
use Rattle.places.specs.Ring.{walk, places_below}
use Rattle.places.specs.Stored.{in_threes, joined}
use Rattle.places.proofs.Rings.{length_places, places_below_lem}
use Rattle.places.proofs.Stored.{each_joined, threes_joined, length_joined}
use Rattle.exact.specs.Space.{V3, vector_sum, cross, area, areas}
use Rattle.exact.proofs.Volume.{Three}
use Rattle.flat.specs.Points.{Point, vertices_of, corners_of}
use Rattle.cut.specs.Cut.{cut_of, cut_by_place, ring_at}
use Rattle.cut.proofs.Facts.{cut_room, cut_threes, cut_each}
use Rattle.cut.proofs.ByPlace.{by_place, places_ring, by_place_long, by_place_left}
use Rattle.cut_check.specs.CutCheck.{IsCut}
use Rattle.cut_check.proofs.Accepted.{accepted_area}
use Rattle.refusals.proofs.Refusals.{Checked, check_passes}
use Rattle.geometry.specs.declared.CutCounts.{CutCounts}
use Rattle.geometry.specs.Cells.{face_numbered, triangles_answer, triangle_places_answer}
use Rattle.geometry.specs.CheckCut.{check_cut_answer, YesForCuts}
use Rattle.geometry.proofs.OneFace.{cut_written}
use Rattle.geometry.proofs.CheckCut.{yes_for_cuts, same_counts}
use Rattle.demand3.specs.Demand3.{Full, place_of}
use Rattle.demand3.specs.CheckCut.{SameTriangles, OwnCut, OwnEntry, AcceptedArea, AcceptedFace}
use Rattle.demand3.proofs.Demand3.{full_left}
use Rattle.demand3.proofs.OwnCut.{own_cut}

-- what `check_cut` answers, as an equivalence
yes_is : (n : ℕ) (places : List ℕ) → YesForCuts n places (check_cut_answer n places)
yes_is n places = yes_for_cuts n places refl

-- ---- our own cut is not refused
module _ (vs : List Point) (face : List ℕ) (low : 3 ≤ length face) (high : length face ≤ 256) where
  abbrev ours : List (List ℕ)
  ours = (cut_by_place vs face).triangles

  our_threes : Each [] Three ours
  unfolding cut_by_place
  our_threes = cut_threes (corners_of vs face) (places_below (length face))

  our_places : Each [] (Each 0 (λ p. p < length face)) ours
  unfolding cut_by_place
  our_places = cut_each (corners_of vs face) (places_below (length face)) (places_below_lem (length face))

  our_room : length ours ≤ length face - 2
  unfolding cut_by_place
  our_room = omega (arith, cut_room (corners_of vs face) (places_below (length face)), length_places (length face))

  our_list : in_threes (joined ours) ≡ ours
  our_list = threes_joined ours our_threes

  passes : Checked (length face) (joined ours)
  passes =
      let long = length_joined ours our_threes in
      record { low = low; high = high; threes = omega arith; few = omega (arith, our_room); below = each_joined ours our_places }

  ours_is_cut : Full vs face → IsCut (length face) ours
  unfolding cut_by_place
  ours_is_cut f = own_cut (corners_of vs face) (length face) low (by_place_left vs face (full_left vs face f))

  accepted_is_full : (check_cut_answer (length face) (joined ours) ≡ Ok true) ↔ Full vs face
  accepted_is_full =
      let yes = yes_is (length face) (joined ours) in (
        λ e _. omega (arith, (rw our_list at (yes.0 e).1).number, by_place_long vs face),
        λ f. yes.1 (check_passes (length face) (joined ours) passes, rw our_list (ours_is_cut f)),
      )

pub own_cut_accepted : OwnCut
own_cut_accepted vs face low high = accepted_is_full vs face low high

-- ---- what the two entries write
-- they answer alike, and the cut by place is the one cut
pub same_triangles : SameTriangles
unfolding triangles_answer triangle_places_answer
same_triangles coords corners ends k out numbers places r s e f = (alike, looked)
  where
    alike : r ≡ s
    alike =
        let counts : Answer CutCounts × List (List ℕ) → Answer CutCounts = λ x. x.0 in
        ap counts e ∙ sym (same_counts coords corners ends k out) ∙ sym (ap counts f)

    looked : (c : CutCounts) → r ≡ Ok c
        → take c.triangles numbers ≡ map (ring_at (face_numbered corners ends k)) (take c.triangles places)
    looked c q =
        let vs = vertices_of coords in
        let face = face_numbered corners ends k in
        let one = cut_written (cut_of vs face) coords corners ends k out numbers c (rw q at e) in
        let other = cut_written (cut_by_place vs face) coords corners ends k out places c (rw (← alike, q) at f) in
        rw (one.1, other.1) (ap (λ c. c.triangles) (by_place vs face))

pub own_entry : OwnEntry
unfolding triangle_places_answer
own_entry coords corners ends k out after c e low high =
    let vs = vertices_of coords in
    let face = face_numbered corners ends k in
    let w = cut_written (cut_by_place vs face) coords corners ends k out after c e in
    let counted : c.triangles ≡ length (cut_by_place vs face).triangles = ap (λ (x : CutCounts). x.triangles) w.0 in
    let full = accepted_is_full vs face low high in
    let many = by_place_long vs face in
    rw w.1 (λ y. omega (arith, full.0 y low), λ n. full.1 (λ _. omega arith))

-- ---- what is accepted has the face's area
pub accepted_has_area : AcceptedArea
accepted_has_area n places e = accepted_area n (in_threes places) ((yes_is n places).0 e).1

-- a ring of places has the doubled area vector of the ring of vertices that stand there
module _ (at : ℕ → V3) (face : List ℕ) where
  abbrev look : ℕ → ℕ
  look k = get_or face k 0

  walk_looked : (a : ℕ) (l : List ℕ) (z : ℕ)
      → map (λ e. cross (at (look e.0)) (at (look e.1))) (walk a l z)
      ≡ map (λ e. cross (at e.0) (at e.1)) (walk (look a) (map look l) (look z))
  walk_looked a [] z = refl
  walk_looked a (b ∷ l) z = ap (λ x. cross (at (look a)) (at (look b)) ∷ x) (walk_looked b l z)

  area_looked : (ring : List ℕ) → area (λ k. at (look k)) ring ≡ area at (ring_at face ring)
  unfolding area ring_at
  area_looked [] = refl
  area_looked (a ∷ l) = ap vector_sum (walk_looked a l a)

  areas_looked : (rs : List (List ℕ)) → areas (λ k. at (look k)) rs ≡ areas at (map (ring_at face) rs)
  unfolding areas
  areas_looked [] = refl
  areas_looked (r ∷ rs) = rw (area_looked r, areas_looked rs)

pub accepted_face : AcceptedFace
accepted_face vs face places e =
    let at = place_of vs in
    sym (areas_looked at face (in_threes places)) ∙ accepted_has_area (length face) places e (λ k. at (get_or face k 0))
    ∙ area_looked at face (places_below (length face)) ∙ ap (area at) (places_ring vs face)
