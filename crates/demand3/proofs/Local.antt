-- `to_local` takes one vector of whole numbers off every vertex and refuses where a difference would be rounded. So in whole numbers every
-- vertex moves by exactly that vector, and what is made of differences alone, triple products and area vectors, stays as it is.
use mathlib.Core.Path.{◌≡◌, refl, sym, ap, ◌∙◌, subst}
use mathlib.Core.Logic.{◌≢◌}
use mathlib.Core.Bool.{Bool, true, false, true≢false}
use mathlib.Core.List.{List, [], ◌∷◌}
use Prim.Native.Nat.{ℕ, zero, suc, ◌+◌, ◌*◌, ◌/◌, ◌^◌, ◌<◌, ◌≤◌}
use native.Mathlib.Omega.{arith}
use lib.Dec.{T}
use lib.ListN.{length, get_or, length-map}
use lib.IntN.{ℤ, pos, nat_abs, ◌-ℤ◌, ◌*ℤ◌, -ℤ-+ℤ_cancel}
use lib.Ieee.{Float, nan, binary64, fits, of_bits}
use lib.Ieee.Fits.{sub-fits, of_int-fits}
use lib.Ieee.Scale.{finite}
use Rattle.std.specs.Prelude.{Ok, Err}
use Rattle.places.specs.declared.refusal.Refusal.TheVariants.{Size, Number, Inexact}
use Rattle.places.specs.Refusals.{no_refusal}
use Rattle.places.specs.Lists.{Each}
use Rattle.places.specs.Loops.{any_of}
use Rattle.places.specs.Stored.{joined}
use Rattle.places.proofs.Lists.{map_at, map_still, each_nil, each_head, each_tail, each_append}
use Rattle.places.proofs.Stored.{length_threes, threes_at, threes_joined, length_joined}
use Rattle.floats.specs.F64.{◌-f◌, zero64}
use Rattle.floats.proofs.Within.{within_sub, within_finite}
use Rattle.exact.specs.Scaled.{signed, exact_in, exact_of}
use Rattle.exact.specs.Space.{V3, less, plus, area, triples}
use Rattle.exact.proofs.Poly.{var, con, ◌⊕◌, ⊖, ring}
use Rattle.exact.proofs.Conditions.{none_each}
use Rattle.exact.proofs.Moved.{MovesBy, TriangleMoves, moved_triples, moved_area}
use Rattle.flat.specs.Points.{Point, at, point_by, vertices_of, vertex_of, minus_of}
use Rattle.flat.specs.Steps.{Inside}
use Rattle.cut.specs.Cut.{cut_of}
use Rattle.cut.proofs.Facts.{cut_inside}
use Rattle.cell.specs.Refusals.{first_row, points_refused, size_refused, number_refused, out_of_range, refusal_of}
use Rattle.cell.proofs.Refusals.{or_none, any_none, all_in_range, tame_within, counted}
use Rattle.local.specs.Local.{whole_of, origin_of, moved_by, lost_of, inexact, stays_behind, move_refused}
use Rattle.local.specs.Steps.{Whole}
use Rattle.local.proofs.Exact.{whole_is, whole_near, whole_small, not_lost, less_zero_moves_nothing, moved_exactly}
use Rattle.volume.specs.Triangles.{triangles_of}
use Rattle.refusals.specs.Refusals.{first_refusal, list_refusal, local_refusal, cell_refusal}
use Rattle.refusals.proofs.Refusals.{list_points, list_counted, list_numbers, local_zero}
use Rattle.geometry.specs.Answers.{named3}
use Rattle.geometry.specs.Cells.{closed_answer}
use Rattle.geometry.specs.Points.{to_local_answer}
use Rattle.demand3.specs.Demand3.{exact_point, place_of, Premises}
use Rattle.demand3.specs.Local.{unmoved, moved, vector, F64s, Corners, ToLocalMoves, EntryMoves, MovedTwice, MovedBeyond, ClosedAlike}
use Rattle.demand3.specs.Local.{AllExact, Fifteen}
use Rattle.demand3.proofs.Demand3.{same_sum}
use Rattle.demand3.proofs.Refused.{second}
use Rattle.demand3.proofs.Exact.{signed_times}

-- ---- points of three coordinates
-- what holds of the numbers 0, 1 and 2 holds of each below 3
of_three : (P : ℕ → Type 0) → P 0 → P 1 → P 2 → (k : ℕ) → k < 3 → P k
of_three P a b c zero h = a
of_three P a b c (suc zero) h = b
of_three P a b c (suc (suc zero)) h = c
of_three P a b c (suc (suc (suc k))) h = absurd (omega arith)

-- what holds of every number of a list holds of the coordinates of its points
coordinate : {P : Float → Type 0} (coords : List Float) → Each nan P coords → (v : ℕ) → v < length (vertices_of coords)
    → (k : ℕ) → k < 3 → P (at (vertex_of (vertices_of coords) v) k)
coordinate {P} coords e v h k l =
    let n : v < length coords / 3 = omega (arith, length_threes coords) in
    let p : Point = get_or coords (v * 3) nan ∷ get_or coords (v * 3 + 1) nan ∷ get_or coords (v * 3 + 2) nan ∷ [] in
    rw (threes_at coords v nan n)
    (of_three (λ j. P (at p j)) (e.holds (v * 3) (omega arith)) (e.holds (v * 3 + 1) (omega arith)) (e.holds (v * 3 + 2) (omega arith))
    k l)

-- points whose coordinates are given alike
point_same : (f g : ℕ → Float) → ((k : ℕ) → k < 3 → f k ≡ g k) → point_by 3 f ≡ point_by 3 g
point_same f g h = rw (h 0 (omega arith), h 1 (omega arith), h 2 (omega arith))

-- the vector 0, 0, 0, by which nothing moves
abbrev nowhere : Point
nowhere = point_by 3 (λ k. zero64)

nowhere_at : (k : ℕ) → k < 3 → at nowhere k ≡ zero64
nowhere_at = of_three (λ k. at nowhere k ≡ zero64) refl refl refl

-- a coordinate of a difference
minus_at : (p q : Point) (k : ℕ) → k < 3 → at (minus_of 3 p q) k ≡ at p k -f at q k
unfolding minus_of
minus_at p q = of_three (λ k. at (minus_of 3 p q) k ≡ at p k -f at q k) refl refl refl

-- ---- numbers
zero_exact : exact_of zero64 ≡ pos 0
unfolding exact_of exact_in of_bits
zero_exact = refl

nothing_lost : (x : ℤ) → (x -ℤ pos 0) -ℤ x ≡ pos 0
nothing_lost x = ring (x ∷ []) ((var 0 ⊕ ⊖ (con (pos 0))) ⊕ ⊖ (var 0)) (con (pos 0)) tt

-- a number that stays as it is where 0 is taken off loses nothing by it
less_zero_exact : (x : Float) → x -f zero64 ≡ x → inexact x zero64 ≡ false
unfolding inexact lost_of
less_zero_exact x e = rw (e, zero_exact, nothing_lost)

-- a place moved and moved back
moved_back : (q o : V3) → plus (less q o) o ≡ q
unfolding less plus
moved_back q o = λ i. record { x = -ℤ-+ℤ_cancel q.x o.x i; y = -ℤ-+ℤ_cancel q.y o.y i; z = -ℤ-+ℤ_cancel q.z o.z i }

-- ---- corners that are vertices
-- a corner that a list does not have is read as 0, which is a vertex where there is one
corner_below : (n : ℕ) → 1 ≤ n → (t : List ℕ) → Each 0 (λ v. v < n) t → (j : ℕ) → get_or t j 0 < n
corner_below n h [] e j = h
corner_below n h (v ∷ t) e zero = each_head e
corner_below n h (v ∷ t) e (suc j) = corner_below n h t (each_tail e) j

triangles_inside : (vs : List Point) (fs : List (List ℕ)) → Each [] (Inside vs) fs → Each [] (Inside vs) (triangles_of vs fs)
unfolding triangles_of
triangles_inside vs [] e = each_nil
triangles_inside vs (f ∷ fs) e =
    each_append (cut_of vs f).triangles (triangles_of vs fs) (cut_inside vs f (each_head e)) (triangles_inside vs fs (each_tail e))

-- ---- a list that is not refused
-- the three checks of which none refuses it
record Passes (coords : List Float) : Type 0 where
  points : points_refused coords ≡ false
  numbers : number_refused coords ≡ false
  moves : move_refused (vertices_of coords) ≡ false

passes : (coords : List Float) → local_refusal coords ≡ no_refusal → Passes coords
passes coords e =
    let both = local_zero coords e in
    record { points = list_points coords both.0; numbers = list_numbers coords both.0; moves = both.1 }

not_refused : (coords : List Float) → Passes coords → local_refusal coords ≡ no_refusal
unfolding local_refusal list_refusal first_refusal first_row
not_refused coords p = rw (p.points, p.numbers, p.moves)

-- what the entry answers for such a list, and what stands there afterwards
answer_is : (coords : List Float) → local_refusal coords ≡ no_refusal
    → to_local_answer coords ≡ (Ok (named3 (origin_of (unmoved coords))), joined (moved coords))
unfolding to_local_answer
answer_is coords ok = rw ok

refused_is : (coords : List Float) → local_refusal coords ≡ Err Number → to_local_answer coords ≡ (Err Number, coords)
unfolding to_local_answer
refused_is coords why = rw why

-- a list that passes 1 and 2 has a vertex, and the local origin is of whole numbers
module _ (coords : List Float) (list : list_refusal coords ≡ no_refusal) where
  first : 1 ≤ length (unmoved coords)
  first = (list_counted coords list).some

  tame_at : (v : ℕ) → v < length (unmoved coords) → (k : ℕ) → k < 3 → out_of_range (at (vertex_of (unmoved coords) v) k) ≡ false
  tame_at = coordinate coords (all_in_range coords (list_numbers coords list))

  whole_at : (k : ℕ) → k < 3 → at (origin_of (unmoved coords)) k ≡ whole_of (at (vertex_of (unmoved coords) 0) k)
  unfolding origin_of
  whole_at = of_three (λ k. at (origin_of (unmoved coords)) k ≡ whole_of (at (vertex_of (unmoved coords) 0) k)) refl refl refl

  is_whole : (k : ℕ) → k < 3 → Whole (at (origin_of (unmoved coords)) k)
  is_whole k l = rw (whole_at k l) (whole_is (at (vertex_of (unmoved coords) 0) k) (tame_at 0 first k l))

  -- ---- where no vertex stays behind every difference is an f64
  exact_all : move_refused (unmoved coords) ≡ false → (v : ℕ) → v < length (unmoved coords) → (k : ℕ) → k < 3
      → inexact (at (vertex_of (unmoved coords) v) k) (at (origin_of (unmoved coords)) k) ≡ false
  unfolding move_refused stays_behind
  exact_all e v h =
      let x = or_none _ _ (any_none (stays_behind (origin_of (unmoved coords))) [] (unmoved coords) e v h) in
      let others = or_none _ _ x.1 in
      of_three (λ k. inexact (at (vertex_of (unmoved coords) v) k) (at (origin_of (unmoved coords)) k) ≡ false)
      x.0 others.0 others.1

  all_exact : move_refused (unmoved coords) ≡ false → AllExact coords
  all_exact e = record {
    difference = λ v h k l.
        let x = at (vertex_of (unmoved coords) v) k in
        let o = at (origin_of (unmoved coords)) k in
        (x -f o, sub-fits binary64 x o, not_lost x o (exact_all e v h k l));
  }

  -- ---- and where every difference is an f64 none does
  none_behind : F64s coords → AllExact coords → move_refused (unmoved coords) ≡ false
  unfolding move_refused stays_behind whole_of
  none_behind f64s all =
      (none_each (stays_behind (origin_of (unmoved coords))) [] (unmoved coords)).1
      (record { holds = λ v h. rw (exactly v h 0 (omega arith), exactly v h 1 (omega arith), exactly v h 2 (omega arith)) })
    where
      whole_fits : (k : ℕ) → k < 3 → T (fits binary64 (at (origin_of (unmoved coords)) k))
      whole_fits k l = rw (whole_at k l) (of_int-fits binary64 _)

      exactly : (v : ℕ) → v < length (unmoved coords) → (k : ℕ) → k < 3
          → inexact (at (vertex_of (unmoved coords) v) k) (at (origin_of (unmoved coords)) k) ≡ false
      exactly v h k l =
          let d = all.difference v h k l in
          moved_exactly (at (vertex_of (unmoved coords) v) k) (at (origin_of (unmoved coords)) k) (coordinate coords f64s v h k l)
          (whole_fits k l) (tame_at v h k l) (is_whole k l) d.0 d.1 d.2

module _ (coords : List Float) (ok : local_refusal coords ≡ no_refusal) where
  abbrev vs : List Point
  vs = unmoved coords

  abbrev origin : Point
  origin = origin_of vs

  some : 1 ≤ length vs
  some = first coords (local_zero coords ok).0

  in_range : (v : ℕ) → v < length vs → (k : ℕ) → k < 3 → out_of_range (at (vertex_of vs v) k) ≡ false
  in_range = tame_at coords (local_zero coords ok).0

  origin_at : (k : ℕ) → k < 3 → at origin k ≡ whole_of (at (vertex_of vs 0) k)
  origin_at = whole_at coords (local_zero coords ok).0

  origin_whole : (k : ℕ) → k < 3 → Whole (at origin k)
  origin_whole = is_whole coords (local_zero coords ok).0

  -- ---- the moved vertices
  length_moved : length (moved coords) ≡ length vs
  unfolding moved_by
  length_moved = length-map vs (λ p. minus_of 3 p origin)

  moved_vertex : (v : ℕ) → v < length vs → vertex_of (moved coords) v ≡ minus_of 3 (vertex_of vs v) origin
  unfolding moved_by
  moved_vertex v h = map_at (λ p. minus_of 3 p origin) vs v [] [] h

  moved_at : (v : ℕ) → v < length vs → (k : ℕ) → k < 3 → at (vertex_of (moved coords) v) k ≡ at (vertex_of vs v) k -f at origin k
  moved_at v h k l = rw (moved_vertex v h) (minus_at (vertex_of vs v) origin k l)

  -- no coordinate is rounded
  moved_exact : (v : ℕ) → v < length vs → (k : ℕ) → k < 3
      → exact_of (at (vertex_of (moved coords) v) k) ≡ exact_of (at (vertex_of vs v) k) -ℤ exact_of (at origin k)
  moved_exact v h k l =
      ap exact_of (moved_at v h k l) ∙ not_lost _ _ (exact_all coords (local_zero coords ok).0 (local_zero coords ok).1 v h k l)

  -- so the place of a vertex moves by the vector
  moves : (v : ℕ) → v < length vs → MovesBy (place_of vs) (place_of (moved coords)) (vector coords) v
  unfolding place_of exact_point less
  moves v h = λ i. record {
    x = moved_exact v h 0 (omega arith) i;
    y = moved_exact v h 1 (omega arith) i;
    z = moved_exact v h 2 (omega arith) i;
  }

  -- ---- the sums
  triangle_moves : (t : List ℕ) → Inside vs t → TriangleMoves (place_of vs) (place_of (moved coords)) (vector coords) t
  triangle_moves t i = record {
    first = moves (get_or t 0 0) (corner_below (length vs) some t i 0);
    second = moves (get_or t 1 0) (corner_below (length vs) some t i 1);
    third = moves (get_or t 2 0) (corner_below (length vs) some t i 2);
  }

  same_sums : (ts : List (List ℕ)) → Corners coords ts → (p : V3)
      → triples (place_of (moved coords)) p ts ≡ triples (place_of vs) (plus p (vector coords)) ts
  same_sums ts e p =
      moved_triples (place_of vs) (place_of (moved coords)) (vector coords) p ts
      (record { holds = λ k h. triangle_moves (get_or ts k []) (e.holds k h) })

  same_volume : (fs : List (List ℕ)) → Corners coords fs → Premises vs fs → (p q : V3)
      → triples (place_of (moved coords)) p (triangles_of vs fs) ≡ triples (place_of vs) q (triangles_of vs fs)
  same_volume fs e h p q =
      same_sums (triangles_of vs fs) (triangles_inside vs fs e) p ∙ same_sum vs fs h (plus p (vector coords)) q

  -- the same, where the moved cell is the one that is fully cut: q moved with the vertices, and moved back
  same_volume_after : (fs : List (List ℕ)) → Corners coords fs → Premises (moved coords) fs → (p q : V3)
      → triples (place_of (moved coords)) p (triangles_of (moved coords) fs) ≡ triples (place_of vs) q (triangles_of (moved coords) fs)
  same_volume_after fs e h p q =
      let ts = triangles_of (moved coords) fs in
      same_sum (moved coords) fs h p (less q (vector coords))
      ∙ same_sums ts (subst (Below ts) length_moved (triangles_inside (moved coords) fs (subst (Below fs) (sym length_moved) e)))
      (less q (vector coords))
      ∙ ap (λ r. triples (place_of vs) r ts) (moved_back q (vector coords))
    where
      -- the corners are below n
      Below : List (List ℕ) → ℕ → Type 0
      Below lists n = Each [] (λ l. Each 0 (λ v. v < n) l) lists

  same_areas : (ring : List ℕ) → Inside vs ring → area (place_of (moved coords)) ring ≡ area (place_of vs) ring
  same_areas ring i =
      moved_area (place_of vs) (place_of (moved coords)) (vector coords) ring
      (record { holds = λ k h. moves (get_or ring k 0) (i.holds k h) })

  -- ---- moving once more
  moved_fits : (v : ℕ) → v < length vs → (k : ℕ) → k < 3 → T (fits binary64 (at (vertex_of (moved coords) v) k))
  moved_fits v h k l = rw (moved_at v h k l) (sub-fits binary64 (at (vertex_of vs v) k) (at origin k))

  moved_finite : (v : ℕ) → v < length vs → (k : ℕ) → k < 3 → T (finite (at (vertex_of (moved coords) v) k))
  moved_finite v h k l =
      let x = at (vertex_of vs v) k in
      let o = at origin k in
      let w = within_sub binary64 x o 40 (omega arith) (tame_within x (in_range v h k l)) (tame_within o (origin_whole k l).within) in
      rw (moved_at v h k l) (within_finite (x -f o) 41 w)

  -- where 0 is taken off, a moved coordinate stays bit for bit
  still_at : (v : ℕ) → v < length vs → (k : ℕ) → k < 3 → at (vertex_of (moved coords) v) k -f zero64 ≡ at (vertex_of (moved coords) v) k
  still_at v h k l = less_zero_moves_nothing (at (vertex_of (moved coords) v) k) (moved_fits v h k l) (moved_finite v h k l)

  still_vertex : (v : ℕ) → v < length vs → minus_of 3 (vertex_of (moved coords) v) nowhere ≡ vertex_of (moved coords) v
  unfolding minus_of
  still_vertex v h =
      point_same (λ k. at (vertex_of (moved coords) v) k -f at nowhere k) (λ k. at (vertex_of vs v) k -f at origin k)
      (λ k l. ap (λ z. at (vertex_of (moved coords) v) k -f z) (nowhere_at k l) ∙ still_at v h k l ∙ moved_at v h k l)
      ∙ sym (moved_vertex v h)

  moved_twice : moved_by nowhere (moved coords) ≡ moved coords
  unfolding moved_by
  moved_twice =
      map_still (λ p. minus_of 3 p nowhere) [] (moved coords)
      (record { holds = λ v h. still_vertex v (omega (arith, length_moved)) })

  module _ (f64s : F64s coords) where
    -- ---- the first vertex comes within 1 of the origin
    near_zero : (k : ℕ) → k < 3 → nat_abs (exact_of (at (vertex_of (moved coords) 0) k)) < 2 ^ 1074
    near_zero k l =
        let x = at (vertex_of vs 0) k in
        let e : exact_of (at (vertex_of (moved coords) 0) k) ≡ exact_of x -ℤ exact_of (whole_of x) =
        moved_exact 0 some k l ∙ ap (λ o. exact_of x -ℤ exact_of o) (origin_at k l) in
        rw e (whole_near x (coordinate coords f64s 0 some k l) (in_range 0 some k l))

    -- so its own whole numbers are 0
    still_origin : origin_of (moved coords) ≡ nowhere
    unfolding origin_of
    still_origin =
        point_same (λ k. whole_of (at (vertex_of (moved coords) 0) k)) (λ k. zero64)
        (λ k l. whole_small (at (vertex_of (moved coords) 0) k) (moved_fits 0 some k l) (moved_finite 0 some k l) (near_zero k l))

  -- ---- the list that is stored
  moved_three : Each [] (λ p. length p ≡ 3) (moved coords)
  unfolding minus_of
  moved_three = record { holds = λ v h. ap length (moved_vertex v (omega (arith, length_moved))) }

  vertices_again : vertices_of (joined (moved coords)) ≡ moved coords
  vertices_again = threes_joined (moved coords) moved_three

  length_again : length (joined (moved coords)) ≡ length coords
  length_again =
      omega (
        arith,
        length_joined (moved coords) moved_three,
        length_moved,
        length_threes coords,
        (counted coords (passes coords ok).points).threes,
      )

  points_again : points_refused (joined (moved coords)) ≡ points_refused coords
  unfolding points_refused
  points_again = rw (vertices_again, length_again, length_moved)

  -- ---- that list is given to the entry again
  moves_again : (v : ℕ) → v < length vs → stays_behind nowhere (vertex_of (moved coords) v) ≡ false
  unfolding stays_behind
  moves_again v h = rw (exact_again 0 (omega arith), exact_again 1 (omega arith), exact_again 2 (omega arith))
    where
      exact_again : (k : ℕ) → k < 3 → inexact (at (vertex_of (moved coords) v) k) zero64 ≡ false
      exact_again k l = less_zero_exact (at (vertex_of (moved coords) v) k) (still_at v h k l)

  none_stays_behind : any_of (stays_behind nowhere) (moved coords) ≡ false
  none_stays_behind =
      (none_each (stays_behind nowhere) [] (moved coords)).1 (record { holds = λ v h. moves_again v (omega (arith, length_moved)) })

  passes_again : F64s coords → number_refused (joined (moved coords)) ≡ false → Passes (joined (moved coords))
  unfolding move_refused
  passes_again f64s h = record {
    points = points_again ∙ (passes coords ok).points;
    numbers = h;
    moves = rw (vertices_again, still_origin f64s) none_stays_behind;
  }

  answered_again : F64s coords → number_refused (joined (moved coords)) ≡ false
      → to_local_answer (joined (moved coords)) ≡ (Ok (named3 nowhere), joined (moved coords))
  answered_again f64s h =
      answer_is (joined (moved coords)) (not_refused (joined (moved coords)) (passes_again f64s h))
      ∙ rw (vertices_again, still_origin f64s, moved_twice)

  refused_again : number_refused (joined (moved coords)) ≡ true → local_refusal (joined (moved coords)) ≡ Err Number
  unfolding local_refusal list_refusal first_refusal first_row
  refused_again h = rw (points_again, (passes coords ok).points, h)

  -- ---- a cell with that list is refused as the cell itself is
  cell_again : (corners ends : List ℕ) → number_refused (joined (moved coords)) ≡ false
      → cell_refusal (joined (moved coords)) corners ends ≡ cell_refusal coords corners ends
  unfolding refusal_of size_refused
  cell_again corners ends h = rw (points_again, h, (passes coords ok).numbers, vertices_again, length_moved)

-- ---- the theorems
pub to_local_moves : ToLocalMoves
to_local_moves coords f64s ok = record {
  whole = λ k l. whole_times (at (origin_of (unmoved coords)) k) (origin_whole coords ok k l);
  places = moves coords ok;
  sums = same_sums coords ok;
  volume = same_volume coords ok;
  volume_after = same_volume_after coords ok;
  areas = same_areas coords ok;
  near = near_zero coords ok f64s;
  still = still_origin coords ok f64s;
  twice = moved_twice coords ok;
}
  where
    whole_times : (o : Float) → Whole o → (n : ℤ) × (exact_of o ≡ n *ℤ pos (2 ^ 1074))
    whole_times o w = (signed w.sign w.size, w.value ∙ sym (signed_times w.sign w.size (2 ^ 1074)))

pub entry_moves : EntryMoves
entry_moves coords ok =
    let e = answer_is coords ok in
    (ap (λ r. r.0) e, ap (λ r. vertices_of r.1) e ∙ vertices_again coords ok)

-- 1 and 2 are not 15
list_not : (coords : List Float) → list_refusal coords ≢ Err Inexact
unfolding list_refusal first_row
list_not coords e = go (points_refused coords) (number_refused coords) e
  where
    go : (a b : Bool) → first_row ((Size, a) ∷ (Number, b) ∷ []) ≡ Err Inexact → ⊥
    go true b e = cc
    go false true e = cc
    go false false e = cc

-- the list passes 1 and 2, so the one row left decides, and its test says yes exactly where not every difference is an f64
pub fifteen : Fifteen
unfolding local_refusal first_row
fifteen coords f64s =
    let last = first_row ((Inexact, move_refused (unmoved coords)) ∷ []) in
    let rows = second (list_refusal coords) last (Err Inexact) (λ _. list_not coords) in (
      λ e. ((rows.0 e).0, λ all. behind (move_refused (unmoved coords)) (rows.0 e).1 (none_behind coords (rows.0 e).0 f64s all)),
      λ p. rows.1 (p.0, stays (move_refused (unmoved coords)) (λ e. p.1 (all_exact coords p.0 e))),
    )
  where
    behind : (b : Bool) → first_row ((Inexact, b) ∷ []) ≡ Err Inexact → b ≡ false → ⊥
    behind true e f = true≢false f
    behind false e f = cc

    stays : (b : Bool) → (b ≡ false → ⊥) → first_row ((Inexact, b) ∷ []) ≡ Err Inexact
    stays true n = refl
    stays false n = absurd (n refl)

pub moved_twice_is_once : MovedTwice
moved_twice_is_once coords f64s ok h =
    let e = ap (λ r. r.1) (answer_is coords ok) in
    rw e (answered_again coords ok f64s (rw e at h))

pub moved_beyond : MovedBeyond
moved_beyond coords ok h =
    let e = ap (λ r. r.1) (answer_is coords ok) in
    rw e (refused_is (joined (moved coords)) (refused_again coords ok (rw e at h)))

pub closed_alike : ClosedAlike
unfolding closed_answer
closed_alike coords corners ends ok h =
    let e = ap (λ r. r.1) (answer_is coords ok) in
    rw (e, cell_again coords ok corners ends (rw e at h))
