-- What holds of every cut. One induction over the definition, and what it gives: how many triangles there are, of which corners,
-- what sums over sides they keep, and how many tests it makes at most; and that counting these changed no triangle.
use mathlib.Core.Path.{◌≡◌, refl, ◌∙◌, ap}
use mathlib.Core.Bool.{Bool, true, false, cond}
use mathlib.Core.List.{List, [], ◌∷◌, ◌++◌, append-nil}
use Prim.Native.Nat.{ℕ, zero, suc, ◌+◌, ◌-◌, ◌*◌, ◌<◌, ◌≤◌}
use native.Mathlib.Omega.{arith}
use native.Mathlib.Nat.{mul-le-mul}
use borrow.Author.Tests.{ltb-true, ltb-false}
use lib.Dec.{ltb}
use lib.ListN.{length, length-map}
use lib.Ieee.{Float}
use lib.IntN.{ℤ, pos, neg_ℤ, ◌+ℤ◌, +ℤ_assoc, +ℤ_idl, +ℤ_idr}
use Rattle.places.specs.Lists.{Each, without}
use Rattle.places.specs.Ring.{sides, ear_of}
use Rattle.std.specs.Prelude.{Option, Some, None}
use Rattle.places.proofs.Lists.{length_without, each_nil, each_cons, each_without}
use Rattle.places.proofs.Rings.{each_ear}
use Rattle.exact.specs.Sides.{all_sides}
use Rattle.exact.proofs.Poly.{var, con, ◌⊕◌, ⊖, ring}
use Rattle.exact.proofs.Balance.{sum, Anti, sum_append, half}
use Rattle.exact.proofs.Ears.{cut_one}
use Rattle.exact.proofs.Alike.{Alike, sum_faces}
use Rattle.exact.proofs.Volume.{Three}
use Rattle.flat.specs.Points.{Point}
use Rattle.flat.specs.Steps.{Inside}
use Rattle.next_corner.specs.NextCorner.{direction_of, turns_at, find_corner}
use Rattle.flat.specs.Flat.{point_of, points_of}
use Rattle.next_corner.specs.declared.Choice.{Choice}
use Rattle.cut.specs.Cut.{Cut, nothing, clipped, cut_with, tested, cut_ring, next_corner_of, cut_in, axis_for, direction_for, cut_of}
use Rattle.cut.specs.Tests.{TestsWithin, AsBefore}
use Rattle.next_corner.proofs.NextCorner.{choose_below, choose_none, choose_tests}

-- ---- the induction
-- a property of rings and their cuts, kept by each way of cutting
pub record Kept (choose : List ℕ → Choice) (P : List ℕ → Cut → Type 0) : Type 0 where
  pub small : (r : List ℕ) → length r < 3 → P r nothing
  pub three : (r : List ℕ) → length r ≡ 3 → P r (record { triangles = r ∷ []; left = []; tests = 0 })
  pub stop : (r : List ℕ) → 4 ≤ length r → (choose r).corner ≡ None
      → P r (tested (choose r).tests (record { triangles = []; left = r; tests = 0 }))
  pub clip : (k : ℕ) (r : List ℕ) (c : Cut) → 4 ≤ length r → k < length r → P (without k r) c
      → P r (tested (choose r).tests (clipped k r c))

module _ (choose : List ℕ → Choice) (P : List ℕ → Cut → Type 0) (below : (r : List ℕ) (k : ℕ) → (choose r).corner ≡ Some k → k < length r)
    (p : Kept choose P) where
  ring_all : (more : ℕ) (r : List ℕ) → length r ≡ more + 3 → P r (cut_ring choose more r)
  unfolding cut_ring
  ring_all zero r h = p.three r (omega arith)
  ring_all (suc more) r h = go (choose r).corner refl (ring_all more)
    where
      go : (f : Option ℕ) → (choose r).corner ≡ f → ((s : List ℕ) → length s ≡ more + 3 → P s (cut_ring choose more s))
          → P r (tested (choose r).tests (cut_with f r (cut_ring choose more)))
      go None e ih = p.stop r (omega arith) e
      go (Some k) e ih =
          let l : k < length r = below r k e in
          p.clip k r (cut_ring choose more (without k r)) (omega arith) l (ih (without k r) (omega (arith, length_without k r l)))

-- a corner that is chosen is one of the ring, and at most two tests a corner are made to choose it
module _ (vs : List Point) (axis : ℕ) (dir : Float) (r : List ℕ) where
  pub choice_below : (k : ℕ) → (next_corner_of vs axis dir r).corner ≡ Some k → k < length r
  unfolding next_corner_of points_of
  choice_below k e = omega (arith, choose_below (points_of vs axis r) dir k e, length-map r (point_of vs axis))

  choice_tests : (next_corner_of vs axis dir r).tests ≤ length r + length r
  unfolding next_corner_of points_of
  choice_tests = omega (arith, choose_tests (points_of vs axis r) dir, length-map r (point_of vs axis))

module _ (vs : List Point) (face : List ℕ) where
  -- the choice that a face's rings are cut by
  abbrev pub choice : List ℕ → Choice
  choice = next_corner_of vs (axis_for vs face) (direction_for vs face)

  pub cut_all : (P : List ℕ → Cut → Type 0) → Kept choice P → P face (cut_of vs face)
  unfolding cut_of cut_in direction_for
  cut_all P p = go (ltb (length face) 3) refl
    where
      go : (b : Bool) → ltb (length face) 3 ≡ b → P face (cond b nothing (cut_in vs (axis_for vs face) face))
      go true e = p.small face (ltb-true (length face) 3 e)
      go false e =
          let below = choice_below vs (axis_for vs face) (direction_for vs face) in
          ring_all choice P below p (length face - 3) face (omega (arith, ltb-false (length face) 3 e))

-- ---- how many: n − 2, or fewer with a ring of four or more left, of which no corner is chosen
pub data Ends (choose : List ℕ → Choice) (r : List ℕ) (c : Cut) : Type 0 where
  few : length r < 3 → c.triangles ≡ [] → c.left ≡ [] → Ends choose r c
  full : c.left ≡ [] → length c.triangles + 2 ≡ length r → Ends choose r c
  short : 4 ≤ length c.left → (choose c.left).corner ≡ None → length c.triangles + length c.left ≡ length r → Ends choose r c

pub cut_ends : (vs : List Point) (face : List ℕ) → Ends (choice vs face) face (cut_of vs face)
cut_ends vs face = cut_all vs face (Ends (choice vs face)) (record {
  small = λ r h. few h refl refl;
  three = λ r h. full refl (omega arith);
  stop = λ r h e. short h e (omega arith);
  clip = λ k r c h l q. more k r c h (length_without k r l) q;
})
  where
    more : (k : ℕ) (r : List ℕ) (c : Cut) → 4 ≤ length r → length (without k r) ≡ length r - 1
        → Ends (choice vs face) (without k r) c → Ends (choice vs face) r (tested (choice vs face r).tests (clipped k r c))
    more k r c h e (few l a b) = absurd (omega arith)
    more k r c h e (full a b) = full a (omega arith)
    more k r c h e (short a b d) = short a b (omega arith)

-- n − 2 places are enough
pub cut_room : (vs : List Point) (face : List ℕ) → length (cut_of vs face).triangles ≤ length face - 2
cut_room vs face = go (cut_ends vs face)
  where
    go : Ends (choice vs face) face (cut_of vs face) → length (cut_of vs face).triangles ≤ length face - 2
    go (few l a b) = omega (arith, ap length a)
    go (full a b) = omega arith
    go (short a b d) = omega arith

-- ---- of which corners: each triangle has three, and what holds of the face's holds of them
pub cut_threes : (vs : List Point) (face : List ℕ) → Each [] Three (cut_of vs face).triangles
unfolding ear_of
cut_threes vs face = cut_all vs face (λ r c. Each [] Three c.triangles) (record {
  small = λ r h. each_nil;
  three = λ r h. each_cons h each_nil;
  stop = λ r h e. each_nil;
  clip = λ k r c h l q. each_cons refl q;
})

-- every number written is one of the face's: whatever holds of all corners of the face holds of those of its triangles
pub cut_each : {P : ℕ → Type 0} (vs : List Point) (face : List ℕ) → Each 0 P face → Each [] (Each 0 P) (cut_of vs face).triangles
cut_each {P} vs face = cut_all vs face (λ r c. Each 0 P r → Each [] (Each 0 P) c.triangles) (record {
  small = λ r h i. each_nil;
  three = λ r h i. each_cons i each_nil;
  stop = λ r h e i. each_nil;
  clip = λ k r c h l q i. each_cons (each_ear k r l i) (q (each_without k r i));
})

pub cut_inside : (vs : List Point) (face : List ℕ) → Inside vs face → Each [] (Inside vs) (cut_of vs face).triangles
cut_inside vs face i = cut_each vs face i

-- ---- the triangles and the ring that is left have together the sides of the face, a side and its back taken off
undo : (x : ℤ) → x +ℤ (neg_ℤ x +ℤ pos 0) ≡ pos 0
undo x = ring (x ∷ []) (var 0 ⊕ (⊖ (var 0) ⊕ con (pos 0))) (con (pos 0)) tt

module _ (w : ℕ → ℕ → ℤ) (anti : Anti w) where
  small_zero : (r : List ℕ) → length r < 3 → pos 0 ≡ sum w (sides r)
  small_zero [] h = refl
  small_zero (a ∷ []) h = rw (half (w a a) (anti a a))
  small_zero (a ∷ b ∷ []) h = rw (anti b a, undo)
  small_zero (a ∷ b ∷ c ∷ r) h = absurd (omega arith)

  abbrev pub Same : List ℕ → Cut → Type 0
  Same r c = sum w (all_sides c.triangles) +ℤ sum w (sides c.left) ≡ sum w (sides r)

  pub cut_keeps : (vs : List Point) (face : List ℕ) → Same face (cut_of vs face)
  cut_keeps vs face = cut_all vs face Same (record {
    small = small_zero;
    three = λ r h. rw (append-nil (sides r)) (+ℤ_idr (sum w (sides r)));
    stop = λ r h e. +ℤ_idl (sum w (sides r));
    clip = λ k r c h l q. rw (sum_append w (sides (ear_of k r)) (all_sides c.triangles), +ℤ_assoc (sum w (sides (ear_of k r))), q)
        (cut_one w anti k r l (omega arith));
  })

pub cut_alike : (vs : List Point) (face : List ℕ) → Alike ((cut_of vs face).triangles ++ (cut_of vs face).left ∷ []) (face ∷ [])
cut_alike vs face = record {
  sums = λ w anti. sum_faces w (cut_of vs face).triangles ((cut_of vs face).left ∷ [])
      ∙ rw (append-nil (sides (cut_of vs face).left), append-nil (sides face)) (cut_keeps w anti vs face);
}

-- ---- where a ring is left no corner of it turns the way of the face
pub stuck_turns : (vs : List Point) (face ring : List ℕ) → (choice vs face ring).corner ≡ None → (k : ℕ) → k < length ring
    → turns_at (points_of vs (axis_for vs face) ring) (direction_for vs face) k ≡ false
unfolding next_corner_of points_of
stuck_turns vs face ring e k h =
    let many = length-map ring (point_of vs (axis_for vs face)) in
    choose_none (points_of vs (axis_for vs face) ring) (direction_for vs face) e k (omega (arith, many))

-- ---- how many tests: at a ring of m corners at most 2m are made, and 2m is what n² + n grows by from one ring to the next
abbrev FewTests : List ℕ → Cut → Type 0
FewTests r c = c.tests ≤ length r * length r + length r - 12

grows : (m j here rest : ℕ) → m ≡ j + 1 → 4 ≤ m → here ≤ m + m → rest ≤ j * j + j - 12 → here + rest ≤ m * m + m - 12
grows m j here rest e h a b =
    let three : 3 ≤ j = omega arith in
    rw e (omega (arith, mul-le-mul three three))

few_tests : (choose : List ℕ → Choice) → ((r : List ℕ) → (choose r).tests ≤ length r + length r) → Kept choose FewTests
few_tests choose two = record {
  small = λ r h. omega arith;
  three = λ r h. omega arith;
  stop = λ r h e. grows (length r) (length r - 1) _ 0 (omega arith) h (two r) (omega arith);
  clip = λ k r c h l q. grows (length r) (length r - 1) _ c.tests (omega arith) h (two r) (rw (length_without k r l) at q);
}

-- of a face that is seen along any axis
pub in_tests : (vs : List Point) (axis : ℕ) (face : List ℕ) → 3 ≤ length face
    → (cut_in vs axis face).tests ≤ length face * length face + length face - 12
unfolding cut_in
in_tests vs axis face h =
    let dir = direction_of (points_of vs axis face) in
    let choose = next_corner_of vs axis dir in
    ring_all choose FewTests (choice_below vs axis dir) (few_tests choose (choice_tests vs axis dir)) (length face - 3) face (omega arith)

pub tests_within : TestsWithin
unfolding cut_of
tests_within vs face = go (ltb (length face) 3) refl
  where
    go : (b : Bool) → ltb (length face) 3 ≡ b
        → (cond b nothing (cut_in vs (axis_for vs face) face)).tests ≤ cond b 0 (length face * length face + length face - 12)
    go true e = omega arith
    go false e = in_tests vs (axis_for vs face) face (ltb-false (length face) 3 e)

-- ---- the triangles and the ring are what they were before tests were counted: no line of theirs speaks of a test
pub as_before : AsBefore
unfolding cut_ring next_corner_of find_corner cut_of cut_in direction_for
as_before = record {
  corner = λ vs axis dir ring. refl;
  three = λ choose ring. refl;
  none = λ choose more ring e. rw e;
  some = λ choose more k ring e. rw e;
  whole = λ vs face. refl;
}
