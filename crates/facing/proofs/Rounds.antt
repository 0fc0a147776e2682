-- Two loops that read the two marks of each side of a face: a face that asks its neighbours, one side after the other, and the test
-- whether two faces run a side the same way.
use mathlib.Core.Path.{◌≡◌, refl, sym, ◌∙◌, ap}
use mathlib.Core.Logic.{◌≢◌, ◌↔◌}
use mathlib.Core.Bool.{Bool, true, false, not, beq, false≢true, cond}
use mathlib.Core.List.{List, [], ◌∷◌}
use Prim.Native.Nat.{ℕ, ◌+◌, ◌<◌, ◌≤◌}
use native.Mathlib.Decide.{ℕ_discrete, dec_lt}
use native.Mathlib.Omega.{arith}
use lib.Dec.{eqb, ltb}
use lib.ListN.{length, get_or}
use borrow.Author.Tests.{eq-eqb, ne_eqb, lt-ltb, le-ltb}
use Rattle.places.specs.Lists.{Each}
use Rattle.places.specs.Ring.{sides, next_of}
use Rattle.places.proofs.Lists.{each_slice}
use Rattle.places.proofs.Rings.{length_sides, side_at, next_below}
use Rattle.places.specs.Loops.{one_if}
use Rattle.exact.specs.Sides.{count, runs, Closed}
use Rattle.exact.specs.Facing.{face_by, reversed_by, occurs, has, Share}
use Rattle.exact.proofs.RingSides.{place_of, of_side}
use Rattle.exact.proofs.Reversed.{sides_back, occurs_by, one_of, in_range, user}
use Rattle.exact.proofs.Conditions.{none_each}
use Rattle.cell.specs.Faces.{faces_of}
use Rattle.cell.proofs.Faces.{face_at, length_faces}
use Rattle.side_table.specs.Numbers.{Known, entry_of}
use Rattle.shared_sides.specs.Steps.{face_of, runs_up, first_at, second_at, Pair}
use Rattle.facing.specs.Steps.{code_choice, Ground, neighbour_of, other_of, up_of, Met, as_was, now_reached, Spread, clash, clash_face}
use Rattle.facing.specs.Steps.{clash_faces, Marked}
use Rattle.facing.proofs.Neighbours.{up_forth, up_back, Moved, met_side}
use Rattle.facing.proofs.Spread.{reached_below, spread_room, spread_on}

-- what holds of each side of a face, either way round, holds of one that it has
either_way : (P : ℕ → ℕ → Type 0) (face : List ℕ)
    → ((q : ℕ) → q < length (sides face) → P (get_or (sides face) q (0, 0)).0 (get_or (sides face) q (0, 0)).1)
    → ((i j : ℕ) → P i j → P j i) → (i j : ℕ) → 0 < has i j face → P i j
either_way P face all way_back i j h = go (dec_lt 0 (count i j (sides face)))
  where
    at : (i j : ℕ) → 0 < count i j (sides face) → P i j
    at i j c = let r = place_of i j (sides face) c in rw r.so at (all r.k r.below)

    go : Dec (0 < count i j (sides face)) → P i j
    go (yes c) = at i j c
    go (no n) = way_back j i (at j i (omega arith))

-- ---- a side of a face by its place
-- the side of the face f at place q runs from a to b
pub record OnFace (corners ends : List ℕ) (f q a b : ℕ) : Type 0 where
  pub below : f < length ends
  pub within : q < length (get_or (faces_of corners ends) f [])
  pub from : a ≡ get_or (get_or (faces_of corners ends) f []) q 0
  pub to : b ≡ get_or (get_or (faces_of corners ends) f []) (next_of q (length (get_or (faces_of corners ends) f []))) 0

-- a side as a loop over a lent face of n corners has it
pub on_face : {corners ends face : List ℕ} {f q n r a b : ℕ} → face ≡ get_or (faces_of corners ends) f [] → f < length ends
    → n ≡ length face → q < n → a ≡ get_or face q 0 → r ≡ next_of q n → b ≡ get_or face r 0 → OnFace corners ends f q a b
on_face {corners} {ends} {face} {f} {q} {n} {r} {a} {b} e below l h from next to =
    let m : n ≡ length (get_or (faces_of corners ends) f []) = l ∙ ap length e in
    record { below = below; within = omega arith; from = rw (← e) from; to = rw (← e, ← l, ← next) to }

-- ---- the marks at the side between a and b
data Beside (fs : List (List ℕ)) (a b x y : ℕ) : Type 0 where
  forth : a < b → Pair fs a b x y → Beside fs a b x y
  back : b < a → Pair fs b a x y → Beside fs a b x y

module _ {number table corners ends : List ℕ} {k : ℕ} (ground : Ground number k table corners ends) where
  abbrev fs : List (List ℕ)
  fs = faces_of corners ends

  abbrev at : ℕ → ℕ → ℕ
  at = entry_of number k

  pub face_known : (f : ℕ) → f < length ends → Each 0 (Known number k) (get_or (faces_of corners ends) f [])
  face_known f h = rw (face_at corners ends f h) (each_slice (get_or (0 ∷ ends) f 0) (get_or ends f 0) corners ground.numbered.known)

  beside : (a b : ℕ) → Known number k a → Known number k b → a ≢ b → 0 < occurs a b fs
      → Beside fs a b (first_at at table a b) (second_at at table a b)
  unfolding first_at second_at
  beside a b ka kb ne o = go (dec_lt a b)
    where
      go : Dec (a < b)
          → Beside fs a b (cond (ltb a b) (get_or table (at a b) 0) (get_or table (at b a) 0))
          (cond (ltb a b) (get_or table (at b a) 0) (get_or table (at a b) 0))
      go (yes h) = rw (lt-ltb a b h) (forth h (ground.paired.pair a b h ka kb o))
      go (no n) =
          let h : b < a = omega arith in
          rw (le-ltb a b (omega arith)) (back h (ground.paired.pair b a h kb ka (omega arith)))

  -- the side at place q of the face f, from a to b
  module _ {f q a b : ℕ} (o : OnFace corners ends f q a b) where
    pub here : get_or (sides (get_or fs f [])) q (0, 0) ≡ (a, b)
    here = rw (o.from, o.to) (side_at (get_or fs f []) q 0 o.within)

    pub from_known : Known number k a
    from_known = rw o.from ((face_known f o.below).holds q o.within)

    pub to_known : Known number k b
    to_known =
        let n = length (get_or fs f []) in
        rw o.to ((face_known f o.below).holds (next_of q n) (next_below q n o.within))

    runs_here : 0 < count a b (sides (get_or fs f []))
    runs_here = of_side a b (get_or fs f []) (record { k = q; below = o.within; start = sym o.from; end = sym o.to })

    here_beside : a ≢ b → Beside fs a b (first_at at table a b) (second_at at table a b)
    here_beside ne = beside a b from_known to_known ne (omega (arith, runs_here, one_of a b fs f))

    pub here_marked : Marked at table (length ends) (a, b)
    here_marked = record { first = λ ne. go1 (here_beside ne); second = λ ne. go2 (here_beside ne) }
      where
        go1 : Beside fs a b (first_at at table a b) (second_at at table a b)
            → (0 < first_at at table a b) × (face_of (first_at at table a b) < length ends)
        go1 (forth h p) = (p.first_above, omega (arith, p.first, length_faces corners ends))
        go1 (back h p) = (p.first_above, omega (arith, p.first, length_faces corners ends))

        go2 : Beside fs a b (first_at at table a b) (second_at at table a b)
            → (0 < second_at at table a b) × (face_of (second_at at table a b) < length ends)
        go2 (forth h p) = (p.second_above, omega (arith, p.second, length_faces corners ends))
        go2 (back h p) = (p.second_above, omega (arith, p.second, length_faces corners ends))

-- ---- a face asks
-- every face that has the side between i and j is reached, where these differ
abbrev Reached-over : List (List ℕ) → List ℕ → ℕ → ℕ → Type 0
Reached-over fs t i j = i ≢ j → (g : ℕ) → 0 < has i j (get_or fs g []) → 0 < get_or t g 0

-- the first face f in the list that has not asked, with the code w, has asked over its sides before place i
pub record Round (fs : List (List ℕ)) (t list : List ℕ) (low head tail f w i : ℕ) : Type 0 where
  pub spread : Spread fs t list low head tail
  pub waits : head < tail
  pub here : get_or list head 0 ≡ f
  pub code : get_or t f 0 ≡ w
  pub done : (q : ℕ) → q < i → Reached-over fs t (get_or (sides (get_or fs f [])) q (0, 0)).0 (get_or (sides (get_or fs f [])) q (0, 0)).1

module _ {fs : List (List ℕ)} {t list : List ℕ} {low head tail f w : ℕ} where
  pub round_start : Spread fs t list low head tail → head < tail → f ≡ get_or list head 0 → w ≡ get_or t f 0
      → Round fs t list low head tail f w 0
  round_start s h e c = record { spread = s; waits = h; here = sym e; code = sym c; done = λ q g. absurd (omega arith) }

  -- the asking face is reached
  pub round_reached : {i : ℕ} → Round fs t list low head tail f w i → 0 < get_or t f 0
  round_reached r = rw r.here at (r.spread.entered head r.waits)

  pub round_below : {i : ℕ} → Round fs t list low head tail f w i → f < length fs
  round_below r = omega (arith, reached_below t f (round_reached r), r.spread.codes)

  pub round_end : {i : ℕ} → Round fs t list low head tail f w i → length (get_or fs f []) ≤ i → Spread fs t list low (head + 1) tail
  round_end {i} r h = spread_on r.spread r.waits all
    where
      all : (g : ℕ) → Share fs (get_or list head 0) g → 0 < get_or t g 0
      all g s =
          let own : 0 < has s.i s.j (get_or fs f []) = rw r.here at s.one in
          let n = length_sides (get_or fs f []) in
          either_way (Reached-over fs t) (get_or fs f []) (λ q u. r.done q (omega arith))
          (λ i j p ne g' u. p (λ e. ne (sym e)) g' (omega arith)) s.i s.j own s.apart g s.other

  -- the face has asked over one more side
  module _ {i : ℕ} (r : Round fs t list low head tail f w i) where
    on : (t' : List ℕ) → ((m : ℕ) → 0 < get_or t m 0 → get_or t' m 0 ≡ get_or t m 0) → (p q : ℕ) → Reached-over fs t p q
        → Reached-over fs t' p q
    on t' codes p q h ne g u = rw (codes g (h ne g u)) (h ne g u)

    round_moved : {t' list' : List ℕ} {tail' : ℕ} (p q : ℕ) → Moved fs t list low head tail t' list' tail' p q
        → Reached-over fs t' (get_or (sides (get_or fs f [])) i (0, 0)).0 (get_or (sides (get_or fs f [])) i (0, 0)).1
        → Round fs t' list' low head tail' f w (i + 1)
    round_moved {t'} {list'} {tail'} p q m now =
        let o = m.more in
        let wt = r.waits in
        record {
          spread = m.spread;
          waits = omega arith;
          here = m.entries head wt ∙ r.here;
          code = m.codes f (round_reached r) ∙ r.code;
          done = λ z h. go z h (ℕ_discrete z i);
        }
      where
        go : (z : ℕ) → z < i + 1 → Dec (z ≡ i)
            → Reached-over fs t' (get_or (sides (get_or fs f [])) z (0, 0)).0 (get_or (sides (get_or fs f [])) z (0, 0)).1
        go z h (yes e) = rw e now
        go z h (no n) = on t' m.codes _ _ (r.done z (omega arith))

-- the face f asks over its side from a to b, at place i
module _ {number table corners ends t list : List ℕ} {k low head tail f w i a b : ℕ} (ground : Ground number k table corners ends)
    (r : Round (faces_of corners ends) t list low head tail f w i) (o : OnFace corners ends f i a b) where
  abbrev cell : List (List ℕ)
  cell = faces_of corners ends

  abbrev mark_one : ℕ
  mark_one = first_at (entry_of number k) table a b

  abbrev mark_two : ℕ
  mark_two = second_at (entry_of number k) table a b

  abbrev neighbour : ℕ
  neighbour = neighbour_of (entry_of number k) table a b f

  side : get_or (sides (get_or cell f [])) i (0, 0) ≡ (a, b)
  side = here ground o

  way : (c : Bool) → up_of a b w ≡ beq (eqb w 2) c → up_of a b w ≡ beq (code_choice t f) c
  way c e = rw r.code e

  apart : {t' list' : List ℕ} {tail' : ℕ} → a ≢ b → Beside cell a b mark_one mark_two
      → Met t list tail (other_of mark_one mark_two f) (up_of a b w) t' list' tail'
      → Round cell t' list' low head tail' f w (i + 1)
  apart {t'} ne (forth h p) met =
      let m = met_side r.spread ground.twice a b _ _ f false (up_of a b w) ne p (round_reached r) (runs_here ground o)
      (way false (up_forth a b w h)) met in
      round_moved r a b m (rw side (λ z g u. m.all g u))
  apart {t'} ne (back h p) met =
      let run : 0 < count b a (sides (face_by true (get_or cell f []))) = rw (sides_back b a (get_or cell f [])) (runs_here ground o) in
      let m = met_side r.spread ground.twice b a _ _ f true (up_of a b w) (λ e. ne (sym e)) p (round_reached r) run
      (way true (up_back a b w h)) met in
      round_moved r b a m (rw side (λ z g u. m.all g (omega arith)))

  alike : {t' list' : List ℕ} {tail' : ℕ} → a ≡ b → Met t list tail 0 (up_of a b w) t' list' tail'
      → Round cell t' list' low head tail' f w (i + 1)
  alike e (as_was h p q n) = rw (p, q, n) (record {
    spread = r.spread;
    waits = r.waits;
    here = r.here;
    code = r.code;
    done = λ z h. go z h (ℕ_discrete z i);
  })
    where
      go : (z : ℕ) → z < i + 1 → Dec (z ≡ i)
          → Reached-over cell t (get_or (sides (get_or cell f [])) z (0, 0)).0 (get_or (sides (get_or cell f [])) z (0, 0)).1
      go z h (yes q) = rw (q, side) (λ ne. absurd (ne e))
      go z h (no n) = r.done z (omega arith)
  alike e (now_reached h u p q n) = absurd (omega arith)

  pub round_more : {t' list' : List ℕ} {tail' : ℕ} → Met t list tail neighbour (up_of a b w) t' list' tail'
      → Round cell t' list' low head tail' f w (i + 1)
  unfolding neighbour_of
  round_more {t'} {list'} {tail'} met = go (ℕ_discrete a b)
    where
      go : Dec (a ≡ b) → Round cell t' list' low head tail' f w (i + 1)
      go (yes e) = alike e (rw (eq-eqb a b e) at met)
      go (no n) = apart n (here_beside ground o n) (rw (ne_eqb a b n) at met)

  -- the neighbour is one of the faces, and where it is not reached the list has room for it
  neighbour_below : a ≢ b → Marked (entry_of number k) table (length ends) (a, b) → face_of (other_of mark_one mark_two f) < length ends
  neighbour_below ne m = go (eqb (face_of mark_one) f)
    where
      go : (c : Bool) → face_of (cond c mark_two mark_one) < length ends
      go true = (m.second ne).1
      go false = (m.first ne).1

  neighbour_face : 0 < neighbour → face_of neighbour < length ends
  unfolding neighbour_of
  neighbour_face h = go (ℕ_discrete a b)
    where
      go : Dec (a ≡ b) → face_of (cond (eqb a b) 0 (other_of mark_one mark_two f)) < length ends
      go (yes e) = rw (eq-eqb a b e) (omega (arith, o.below))
      go (no n) = rw (ne_eqb a b n) (neighbour_below n (here_marked ground o))

  neighbour_room : 0 < neighbour → get_or t (face_of neighbour) 0 ≡ 0 → tail < length list
  neighbour_room h un =
      spread_room r.spread (face_of neighbour) (omega (arith, neighbour_face h, r.spread.codes, length_faces corners ends)) un

  -- `meet` may be called with the neighbour's mark
  pub meet_ready : {m : ℕ} → m ≡ neighbour
      → ((0 < m → face_of m < length t) × (length t ≤ 256))
      × ((0 < m → get_or t (face_of m) 0 ≡ 0 → tail < length list) × (length list ≤ 256))
  meet_ready e =
      let n = length_faces corners ends in
      let codes = r.spread.codes in
      let places = r.spread.places in
      let few = ground.few_faces in
      rw e ((λ h. omega (arith, neighbour_face h), omega arith), (neighbour_room, omega arith))

-- ---- whether two faces run a side the same way
opposite : (u v : Bool) → beq u v ≡ false → one_if u + one_if v ≡ one_if (not u) + one_if (not v)
opposite true true e = absurd (false≢true (sym e))
opposite true false e = refl
opposite false true e = refl
opposite false false e = absurd (false≢true (sym e))

level : (u v : Bool) → one_if u + one_if v ≡ one_if (not u) + one_if (not v) → beq u v ≡ false
level true true e = absurd (omega arith)
level true false e = refl
level false true e = refl
level false false e = absurd (omega arith)

module _ {number table corners ends : List ℕ} {k : ℕ} (ground : Ground number k table corners ends) (t : List ℕ) where
  abbrev faces : List (List ℕ)
  faces = faces_of corners ends

  abbrev Even : ℕ → ℕ → Type 0
  Even i j = runs i j (reversed_by (code_choice t) faces) ≡ runs j i (reversed_by (code_choice t) faces)

  -- the two marks at a side tell whether, as the codes turn the faces, as many run it up as down
  by_marks : {i j x y : ℕ} → Pair faces i j x y
      → (beq (runs_up (code_choice t (face_of x)) x) (runs_up (code_choice t (face_of y)) y) ≡ false) ↔ Even i j
  by_marks {i} {j} {x} {y} p =
      let u = runs_up (code_choice t (face_of x)) x in
      let v = runs_up (code_choice t (face_of y)) y in (
        λ e. p.ups (code_choice t) ∙ opposite u v e ∙ sym (p.downs (code_choice t)),
        λ q. level u v (sym (p.ups (code_choice t)) ∙ q ∙ p.downs (code_choice t)),
      )

  told : (a b : ℕ) → a ≢ b → Beside faces a b (first_at (entry_of number k) table a b) (second_at (entry_of number k) table a b)
      → (clash (entry_of number k) table t (a, b) ≡ false) ↔ Even a b
  unfolding clash
  told a b ne (forth h p) = rw (ne_eqb a b ne) (by_marks p)
  told a b ne (back h p) = let w = by_marks p in rw (ne_eqb a b ne) (λ e. sym (w.0 e), λ q. w.1 (sym q))

  -- the side at place q of the face f does not clash exactly where as many turned faces run it up as down, or its vertices are one
  told_at : (f q : ℕ) → f < length ends → q < length (get_or faces f [])
      → (clash (entry_of number k) table t (get_or (sides (get_or faces f [])) q (0, 0)) ≡ false)
      ↔ ((get_or (sides (get_or faces f [])) q (0, 0)).0 ≢ (get_or (sides (get_or faces f [])) q (0, 0)).1
      → Even (get_or (sides (get_or faces f [])) q (0, 0)).0 (get_or (sides (get_or faces f [])) q (0, 0)).1)
  unfolding clash
  told_at f q hf hq = rw (here ground place) (go (ℕ_discrete a b))
    where
      a : ℕ
      a = get_or (get_or faces f []) q 0

      b : ℕ
      b = get_or (get_or faces f []) (next_of q (length (get_or faces f []))) 0

      place : OnFace corners ends f q a b
      place = record { below = hf; within = hq; from = refl; to = refl }

      go : Dec (a ≡ b) → (clash (entry_of number k) table t (a, b) ≡ false) ↔ (a ≢ b → Even a b)
      go (yes e) = (λ z ne. absurd (ne e), λ z. rw (eq-eqb a b e))
      go (no n) = let w = told a b n (here_beside ground place n) in (λ z ne. w.0 z, λ z. w.1 (z n))

  -- no side clashes exactly where the choice closes the cell
  pub clash_closed : clash_faces (entry_of number k) table t faces ≡ false → Closed (reversed_by (code_choice t) faces)
  unfolding clash_faces clash_face
  clash_closed e i j ne = go (dec_lt 0 (occurs i j faces))
    where
      at_face : (f : ℕ) → 0 < has i j (get_or faces f []) → i ≢ j → Even i j
      at_face f h =
          let hf : f < length faces = in_range i j faces f h in
          let n = length_faces corners ends in
          let none = (none_each (clash (entry_of number k) table t) (0, 0) (sides (get_or faces f []))).0
          (((none_each (clash_face (entry_of number k) table t) [] faces).0 e).holds f hf) in
          either_way (λ p q. p ≢ q → Even p q) (get_or faces f [])
          (λ q u. (told_at f q (omega arith) (rw (length_sides (get_or faces f [])) at u)).0 (none.holds q u))
          (λ p q z d. sym (z (λ y. d (sym y)))) i j h

      go : Dec (0 < occurs i j faces) → Even i j
      go (yes o) = let u = user i j faces o in at_face u.k u.so ne
      go (no n) = omega (arith, occurs_by i j (code_choice t) faces)

  pub closed_clash : Closed (reversed_by (code_choice t) faces) → clash_faces (entry_of number k) table t faces ≡ false
  unfolding clash_faces clash_face
  closed_clash c =
      (none_each (clash_face (entry_of number k) table t) [] faces).1 (record {
        holds = λ f hf. (none_each (clash (entry_of number k) table t) (0, 0) (sides (get_or faces f []))).1 (record {
          holds = λ q hq.
              (told_at f q (omega (arith, length_faces corners ends)) (omega (arith, length_sides (get_or faces f [])))).1 (λ ne. c _ _ ne);
        });
      })
