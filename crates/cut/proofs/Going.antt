-- The loop of `cut_ring`: at its head the ring that is left, cut on, makes the whole cut, and each step keeps that;
-- and the cut of a face, which is that of a ring in the face's own plane.
use mathlib.Core.Path.{◌≡◌, refl, sym, ap, ◌∙◌}
use mathlib.Core.List.{List, [], ◌∷◌, ◌++◌, map}
use Prim.Native.Nat.{ℕ, suc, ◌+◌, ◌-◌, ◌<◌, ◌≤◌}
use native.Mathlib.Omega.{arith}
use native.Mathlib.Numerals.{add-one}
use borrow.Author.Tests.{le-ltb, lt-ltb}
use lib.ListN.{length, get_or, take, drop, set, length-map, length-drop}
use lib.Seq.{sets, take-length, length-take-le, length_front, ext_get_or, get_or-drop}
use lib.Ieee.{Float}
use Rattle.places.specs.Lists.{Each, without}
use Rattle.places.specs.Steps.{removed}
use Rattle.places.specs.Ring.{ear_of}
use Rattle.std.specs.Prelude.{Some, None}
use Rattle.places.proofs.Lists.{take_removed, take_three, map_at, map_without, sets_front, each_append, each_without, each_slice}
use Rattle.next_corner.specs.NextCorner.{find_corner, direction_of}
use Rattle.flat.specs.Points.{Point, corners_of}
use Rattle.flat.specs.Flat.{newell_of, axis_of, point_of, points_of}
use Rattle.next_corner.specs.declared.Choice.{Choice}
use Rattle.cut.specs.Cut.{Cut, clipped, cut_with, tested, cut_ring, next_corner_of, cut_in, axis_for, cut_of, ring_at}
use Rattle.cut.specs.Steps.{triangle_at, Within, InOrder, Shown}
use Rattle.cut.specs.declared.Counts.{Counts}
use Rattle.next_corner.proofs.NextCorner.{choose_below}

-- one step of the definition, at a ring of m corners
module _ (choose : List ℕ → Choice) (m : ℕ) (ring : List ℕ) where
  cut_more : 3 < m
      → cut_ring choose (m - 3) ring ≡ tested (choose ring).tests (cut_with (choose ring).corner ring (cut_ring choose (m - 1 - 3)))
  unfolding cut_ring
  cut_more h =
      let g : m - 3 ≡ suc (m - 1 - 3) = omega arith in
      rw g

  cut_none : 3 < m → (choose ring).corner ≡ None
      → cut_ring choose (m - 3) ring ≡ tested (choose ring).tests (record { triangles = []; left = ring; tests = 0 })
  cut_none h e = cut_more h ∙ rw e

  cut_some : (k : ℕ) → 3 < m → (choose ring).corner ≡ Some k
      → cut_ring choose (m - 3) ring ≡ tested (choose ring).tests (clipped k ring (cut_ring choose (m - 1 - 3) (without k ring)))
  cut_some k h e = cut_more h ∙ rw e

  cut_three : m ≤ 3 → cut_ring choose (m - 3) ring ≡ record { triangles = ring ∷ []; left = []; tests = 0 }
  unfolding cut_ring
  cut_three h =
      let g : m - 3 ≡ 0 = omega arith in
      rw g

  -- the tests of the choice are among those of the cut
  tests_first : 3 < m → (choose ring).tests ≤ (cut_ring choose (m - 3) ring).tests
  tests_first h = rw (cut_more h) (omega arith)

-- ---- the ring as places of the face
-- it has as many corners as there are places
pub ring_long : (face ks : List ℕ) → length (ring_at face ks) ≡ length ks
unfolding ring_at
ring_long face ks = length-map ks (λ k. get_or face k 0)

-- the places of a face in order are the face itself
pub whole_ring : (face ks : List ℕ) → InOrder ks → length ks ≡ length face → ring_at face ks ≡ face
unfolding ring_at
whole_ring face ks o e =
    let look : ℕ → ℕ = λ k. get_or face k 0 in
    let l : length (map look ks) ≡ length ks = length-map ks look in
    ext_get_or 0 (map look ks) face (l ∙ e) (λ i h.
    let g : i < length ks = omega arith in
    map_at look ks i 0 0 g ∙ ap look (o i g))

whole_within : (face ks : List ℕ) → InOrder ks → length ks ≡ length face → Within face ks
whole_within face ks o e = record { holds = λ k h. rw (o k h) (omega arith) }

-- where all are places of the face, so are the first m, and so are all when one of those is removed
each_drop : {P : ℕ → Type 0} (s : ℕ) (l : List ℕ) → Each 0 P l → Each 0 P (drop s l)
each_drop s l w = record { holds = λ k h. rw (get_or-drop s l k 0) (w.holds (s + k) (omega (arith, length-drop s l))) }

pub first_within : (face : List ℕ) (m : ℕ) (ks : List ℕ) → Within face ks → Within face (take m ks)
first_within face m ks w = each_slice 0 m ks w

removed_within : (face : List ℕ) (k m : ℕ) (ks : List ℕ) → Within face ks → Within face (removed k (take m ks) ++ drop m ks)
unfolding removed
removed_within face k m ks w =
    let f = first_within face m ks w in
    each_append (without k (take m ks) ++ drop (length (take m ks) - 1) (take m ks)) (drop m ks)
    (each_append (without k (take m ks)) _ (each_without k (take m ks) f) (each_drop (length (take m ks) - 1) (take m ks) f))
    (each_drop m ks w)

-- the ring without k, and a ring of three
pub ring_without : (face : List ℕ) (k : ℕ) (ks : List ℕ) → ring_at face (without k ks) ≡ without k (ring_at face ks)
unfolding ring_at
ring_without face k ks = map_without (λ i. get_or face i 0) k ks

ring_three : (face ks : List ℕ) → 3 ≤ length ks → ring_at face (take 3 ks) ≡ triangle_at (ring_at face ks) 0 1 2
unfolding ring_at
ring_three face ks h =
    let look : ℕ → ℕ = λ k. get_or face k 0 in
    let at : (i : ℕ) → i < 3 → get_or (map look ks) i 0 ≡ look (get_or ks i 0) = λ i l. map_at look ks i 0 0 (omega arith) in
    rw (take_three ks h, at 0 (omega arith), at 1 (omega arith), at 2 (omega arith))

module _ (vs : List Point) (face : List ℕ) (axis : ℕ) (dir : Float) where
  -- what is left to do with the ring that stands in the first m of ks
  abbrev rest : ℕ → List ℕ → Cut
  rest m ks = cut_ring (next_corner_of vs axis dir) (m - 3) (ring_at face (take m ks))

  -- the ring is the first m of ks, its points the first m of ps; t triangles are written, and so many tests are made; what is left to do
  -- from here makes the whole
  pub record Going (whole : Cut) (out₀ : List (List ℕ)) (ks : List ℕ) (ps : List Point) (out : List (List ℕ)) (m t tests : ℕ) : Type 0 where
    pub low : 3 ≤ m
    pub high : m ≤ length face
    pub many : length ks ≡ length face
    pub many_ps : length ps ≡ length face
    pub many_out : length out ≡ length out₀
    pub room : t + (m - 2) ≤ length out₀
    pub within : Within face ks
    pub seen : take m ps ≡ points_of vs axis (ring_at face (take m ks))
    pub count : t + length (rest m ks).triangles ≡ length whole.triangles
    pub over : (rest m ks).left ≡ whole.left
    pub all_tests : tests + (rest m ks).tests ≡ whole.tests
    pub written : sets out t (rest m ks).triangles ≡ sets out₀ 0 whole.triangles

pub start : (vs : List Point) (face : List ℕ) (axis : ℕ) (ks : List ℕ) (ps : List Point) (out : List (List ℕ)) (dir : Float)
    → 3 ≤ length face → length face - 2 ≤ length out → InOrder ks → length ks ≡ length face → ps ≡ points_of vs axis face
    → dir ≡ direction_of ps
    → Going vs face axis dir (cut_in vs axis face) out ks ps out (length face) 0 0
unfolding cut_in points_of
start vs face axis ks ps out dir l r o n s d =
    let e : length ps ≡ length face = ap length s ∙ length-map face (point_of vs axis) in
    let tn : ring_at face (take (length face) ks) ≡ face = rw (← n, take-length ks) (whole_ring face ks o n) in
    let tp : take (length face) ps ≡ ps = rw (← e) (take-length ps) in
    record {
      low = l;
      high = omega arith;
      many = n;
      many_ps = e;
      many_out = refl;
      room = omega arith;
      within = whole_within face ks o n;
      seen = rw (tn, tp) s;
      count = rw (tn, d, s) (omega arith);
      over = rw (tn, d, s);
      all_tests = rw (tn, d, s) (omega arith);
      written = rw (tn, d, s);
    }

module _ {vs : List Point} {face : List ℕ} {axis : ℕ} {dir : Float} {whole : Cut} {out₀ : List (List ℕ)} {ks : List ℕ} {ps : List Point}
    {out : List (List ℕ)} {m t tests : ℕ} (g : Going vs face axis dir whole out₀ ks ps out m t tests) where
  -- the ring of vertex numbers
  abbrev ring : List ℕ
  ring = ring_at face (take m ks)

  -- the choice by the list of points is the choice by the ring of numbers
  chosen : next_corner_of vs axis dir ring ≡ find_corner (take m ps) dir
  unfolding next_corner_of
  chosen = rw g.seen

  -- the ring's two lists, side by side
  pub parts : length (take m ks) ≡ length (take m ps)
  parts =
      let hk : m ≤ length ks = omega (arith, g.high, g.many) in
      let hp : m ≤ length ps = omega (arith, g.high, g.many_ps) in
      length-take-le m ks hk ∙ sym (length-take-le m ps hp)

  ring_many : length ring ≡ m
  ring_many = ring_long face (take m ks) ∙ length-take-le m ks (omega (arith, g.high, g.many))

  -- the tests of the next choice are among those of the whole cut
  pub tests_so_far : 3 < m → tests + (find_corner (take m ps) dir).tests ≤ whole.tests
  tests_so_far h = omega (arith, rw chosen at (tests_first (next_corner_of vs axis dir) m ring h), g.all_tests)

  -- what is in the list at the end
  shown : (r : Counts) (out' : List (List ℕ)) → r.triangles ≡ length whole.triangles → r.left ≡ length whole.left
      → r.tests ≡ whole.tests → r.triangles ≤ length out₀ → out' ≡ sets out₀ 0 whole.triangles
      → Shown whole r out₀ out'
  shown r out' a b d h e = record {
    count = a;
    over = b;
    tests = d;
    written = e ∙ sets_front out₀ whole.triangles (omega arith) ∙ rw a;
  }

  -- no corner can be cut: stop
  pub stop : 3 < m → (find_corner (take m ps) dir).corner ≡ None
      → Shown whole (record { triangles = t; left = m; tests = tests + (find_corner (take m ps) dir).tests }) out₀ out
  stop h e =
      let q = cut_none (next_corner_of vs axis dir) m ring h (ap (λ c. c.corner) chosen ∙ e) in
      shown _ out (omega (arith, rw q at g.count)) (sym ring_many ∙ ap length (rw q at g.over))
      (omega (arith, rw (q, chosen) at g.all_tests)) (omega (arith, g.room)) (rw q at g.written)

  -- a ring of three: it is the last triangle
  pub end : (out' : List (List ℕ)) → m ≤ 3
      → out' ≡ set out t (triangle_at (ring_at face ks) 0 1 2)
      → Shown whole (record { triangles = t + 1; left = 0; tests = tests }) out₀ out'
  end out' h o =
      let e : m ≡ 3 = omega (arith, g.low) in
      let q = cut_three (next_corner_of vs axis dir) m ring h in
      shown _ out' (omega (arith, rw q at g.count)) (ap length (rw q at g.over)) (omega (arith, rw q at g.all_tests))
      (omega (arith, g.room))
      (o ∙ rw (← ring_three face ks (omega (arith, g.high, g.many)), ← e) (rw q at g.written))

  -- a step
  pub again : (k : ℕ) (ks' : List ℕ) (ps' : List Point) (out' : List (List ℕ)) → 3 < m → (find_corner (take m ps) dir).corner ≡ Some k
      → ks' ≡ removed k (take m ks) → ps' ≡ removed k (take m ps) → out' ≡ set out t (ear_of k ring)
      → length ks' ≡ length (take m ks) → length ps' ≡ length (take m ps) → length out' ≡ length out
      → Going vs face axis dir whole out₀ (ks' ++ drop m ks) (ps' ++ drop m ps) out' (m - 1) (t + 1)
      (tests + (find_corner (take m ps) dir).tests)
  unfolding points_of
  again k ks' ps' out' h e en ep eo ln lp lo =
      let fk : length (ks' ++ drop m ks) ≡ length ks = length_front ks ks' m ln in
      let fp : length (ps' ++ drop m ps) ≡ length ps = length_front ps ps' m lp in
      let hk : m ≤ length ks = omega (arith, g.high, g.many) in
      let hp : m ≤ length ps = omega (arith, g.high, g.many_ps) in
      let lt : length (take m ps) ≡ m = length-take-le m ps hp in
      let b : k < m = omega (arith, choose_below (take m ps) dir k e) in
      let rk : take (m - 1) (ks' ++ drop m ks) ≡ without k (take m ks) = rw en (take_removed k m ks b hk) in
      let rn : ring_at face (take (m - 1) (ks' ++ drop m ks)) ≡ without k ring = rw rk (ring_without face k (take m ks)) in
      let rp : take (m - 1) (ps' ++ drop m ps) ≡ without k (take m ps) = rw ep (take_removed k m ps b hp) in
      let q = cut_some (next_corner_of vs axis dir) m ring k h (ap (λ c. c.corner) chosen ∙ e) in
      record {
        low = omega arith;
        high = omega (arith, g.high);
        many = fk ∙ g.many;
        many_ps = fp ∙ g.many_ps;
        many_out = lo ∙ g.many_out;
        room = omega (arith, g.room);
        within = rw en (removed_within face k m ks g.within);
        seen = rw (rn, rp, map_without (point_of vs axis) k ring) (ap (without k) g.seen);
        count = rw rn (omega (arith, rw q at g.count));
        over = rw rn (rw q at g.over);
        all_tests = rw rn (omega (arith, rw (q, chosen) at g.all_tests));
        written = rw (rn, eo, add-one) (rw q at g.written);
      }

-- ---- a face of three corners or more is cut so; one of fewer gives nothing
pub ring_shown : {axis : ℕ} {normal : Point} {r : Counts} {out out' : List (List ℕ)} (vs : List Point) (face : List ℕ)
    → 3 ≤ length face → normal ≡ newell_of (corners_of vs face) → axis ≡ axis_of normal
    → Shown (cut_in vs axis face) r out out' → Shown (cut_of vs face) r out out'
unfolding cut_of axis_for
ring_shown vs face h e a s = rw (le-ltb (length face) 3 h, ← e, ← a) s

pub small_shown : (vs : List Point) (face : List ℕ) (out : List (List ℕ)) → length face < 3
    → Shown (cut_of vs face) (record { triangles = 0; left = 0; tests = 0 }) out out
unfolding cut_of
small_shown vs face out h = rw (lt-ltb (length face) 3 h) (record { count = refl; over = refl; tests = refl; written = refl })
