-- A record taken with the lent lists, and a cell's line, as the functions of `block` and `line` want them: what the lists hold of the cell
-- grows by what the record adds, whatever lies behind it.
use mathlib.Core.Path.{◌≡◌, refl, sym, ap, subst, ◌∙◌}
use mathlib.Core.Bool.{true, false}
use mathlib.Core.List.{List, ◌++◌}
use Prim.Native.Nat.{ℕ, ◌+◌, ◌*◌, ◌≤◌}
use native.Mathlib.Omega.{arith}
use lib.ListN.{length, take, drop, length-append}
use lib.Seq.{sets, sets-eq, take_at, length-take-le}
use lib.Ieee.{Float}
use Rattle.std.specs.Prelude.{None, Some}
use Rattle.places.specs.declared.refusal.Refusal.{Refusal}
use Rattle.places.specs.Refusals.{number_of}
use Rattle.geometry.specs.declared.Findings.{Findings}
use Rattle.geometry.specs.Answers.{Answer}
use Rattle.geometry.specs.Survey.{survey_answer}
use Rattle.records.specs.declared.bytes.Rec.{Rec}
use Rattle.records.specs.declared.tally.Tally.{Tally}
use Rattle.records.specs.Bytes.{record_of, ends_cell}
use Rattle.records.specs.Tally.{Sized, Fits, new_of, new_coords, new_corners, new_ends, new_queries}
use Rattle.records.specs.Steps.{Tallied}
use Rattle.records.proofs.Growth.{Follows, tally_follows}
use Rattle.lines.specs.Text.{Put}
use Rattle.lines.specs.Lines.{refused_line}
use Rattle.lines.proofs.Writing.{then}
use Rattle.report.specs.Report.{Held, held_of, grown_of, survey_line, line_of, says_of, record_taken, after, lines_of, records_from, Lent}
use Rattle.report.specs.Report.{lent_of, stored_of, stored_after}
use Rattle.report.proofs.Joining.{first_records, after_more, lines_more, stored_more}

-- a run of stores behind the first n makes the front longer by the run
pub front : {A : Type 0} (xs ys : List A) (n : ℕ) → n + length ys ≤ length xs → take (n + length ys) (sets xs n ys) ≡ take n xs ++ ys
front xs ys n h =
    let l : length (take n xs ++ ys) ≡ n + length ys = rw (length-append (take n xs) ys, length-take-le n xs (omega arith)) in
    ap (take (n + length ys)) (sets-eq ys xs n h) ∙ take_at (take n xs ++ ys) (drop (n + length ys) xs) (n + length ys) l

grown : {A : Type 0} (xs xs' ys : List A) (n m : ℕ) → m ≡ n + length ys → m ≤ length xs → xs' ≡ sets xs n ys
    → take m xs' ≡ take n xs ++ ys
grown xs xs' ys n m e h g = rw (e, g) (front xs ys n (omega arith))

alike : {t u : Tally} {a a' : List Float} {b b' c c' : List ℕ} {d d' : List Float} → t ≡ u → a ≡ a' → b ≡ b' → c ≡ c' → d ≡ d'
    → ◌≡◌ {A = Held} (record { tally = t; coords = a; corners = b; ends = c; queries = d })
    (record { tally = u; coords = a'; corners = b'; ends = c'; queries = d' })
alike e f g h i = cc

-- lists as long as lists that hold the largest cell hold it too
pub still_sized : {a a' : List Float} {b c b' c' : List ℕ} {d d' : List Float} → Sized a b c d
    → length a' ≡ length a → length b' ≡ length b → length c' ≡ length c → length d' ≡ length d → Sized a' b' c' d'
still_sized s e f g h =
    record {
      for_coords = omega (arith, s.for_coords);
      for_corners = omega (arith, s.for_corners);
      for_ends = omega (arith, s.for_ends);
      for_queries = omega (arith, s.for_queries);
    }

module _ {t : Tally} {r : Rec} {a : List Float} {b c : List ℕ} {d : List Float}
    {u : Tally} {a' : List Float} {b' c' : List ℕ} {d' : List Float}
    (x : Tallied t r a b c d u a' b' c' d') (s : Sized a b c d) (f : Fits t) where
  pub follows : Follows t (new_coords t r) (new_corners t r) (new_ends t r) (new_queries t r) u
  follows = subst (Follows t (new_coords t r) (new_corners t r) (new_ends t r) (new_queries t r)) (sym x.next) (tally_follows t r f)

  -- what the lists hold of the cell has grown by what the record adds
  fed : held_of u a' b' c' d' ≡ grown_of (held_of t a b c d) r
  fed =
      let g = follows in
      let l = g.fits in
      alike x.next
      (grown a a' (new_coords t r) (t.verts * 3) (u.verts * 3) g.verts (omega (arith, l.few_verts, s.for_coords)) x.coords)
      (grown b b' (new_corners t r) t.corners u.corners g.corners (omega (arith, l.few_corners, s.for_corners)) x.corners)
      (grown c c' (new_ends t r) t.faces u.faces g.faces (omega (arith, l.few_faces, s.for_ends)) x.ends)
      (grown d d' (new_queries t r) (t.queries * 3) (u.queries * 3) g.queries (omega (arith, l.few_queries, s.for_queries))
      x.queries)

  -- the lent lists, whole
  pub stored : lent_of a' b' c' d' ≡ stored_of t (lent_of a b c d) r
  stored = rw (x.coords, x.corners, x.ends, x.queries)

  -- at a cell end nothing is held, whatever the lists still have
  pub taken_end : (w : Tally) → ends_cell r.kind ≡ true → w ≡ new_of (t.number + 1)
      → held_of w a' b' c' d' ≡ record_taken (held_of t a b c d) r
  unfolding record_taken
  taken_end w k e = rw (k, e)

  pub taken_on : ends_cell r.kind ≡ false → held_of u a' b' c' d' ≡ record_taken (held_of t a b c d) r
  unfolding record_taken
  taken_on k = rw k fed

  pub says_end : {o : List ℕ} {at : ℕ} {o' : List ℕ} {m : ℕ} → ends_cell r.kind ≡ true → Put o at (line_of (held_of u a' b' c' d')) o' m
      → Put o at (says_of (held_of t a b c d) r) o' m
  unfolding says_of
  says_end k p = rw k (rw fed at p)

  pub says_on : (o : List ℕ) (at : ℕ) → ends_cell r.kind ≡ false → Put o at (says_of (held_of t a b c d) r) o at
  unfolding says_of
  says_on o at k = rw k (record { holds = refl; ends = omega arith })

-- ---- a cell's line
pub line_refused : {o : List ℕ} {at : ℕ} {o' : List ℕ} {m : ℕ} (h : Held) {why : Refusal} → h.tally.refusal ≡ Some why
    → Put o at (refused_line h.tally.number (number_of why)) o' m → Put o at (line_of h) o' m
unfolding line_of
line_refused h e p = rw e p

pub line_found : {o : List ℕ} {at : ℕ} {o' : List ℕ} {m : ℕ} (h : Held) (x y : Answer Findings) → h.tally.refusal ≡ None
    → x ≡ survey_answer h.coords h.corners h.ends h.queries → x ≡ y
    → Put o at (survey_line h.tally.number h.tally.verts h.tally.faces y) o' m → Put o at (line_of h) o' m
unfolding line_of
line_found h x y n e f p = rw (n, ← e, f) p

-- ---- a block: what holds after k records
module _ (h₀ : Held) (s : List ℕ) (k : ℕ) (l : (k + 1) * 32 ≤ length s) {h : Held} {r : Rec}
    (e : h ≡ after h₀ (first_records k s)) (f : r ≡ record_of s (k * 32)) where
  pub after_step : {h' : Held} → h' ≡ record_taken h r → h' ≡ after h₀ (first_records (k + 1) s)
  after_step g = g ∙ rw (e, f) (sym (after_more s k l h₀))

  pub stored_step : {x x' : Lent} (x₀ : Lent) → x ≡ stored_after h₀ x₀ (first_records k s) → x' ≡ stored_of h.tally x r
      → x' ≡ stored_after h₀ x₀ (first_records (k + 1) s)
  stored_step x₀ i g = g ∙ rw (stored_more s k l h₀ x₀, ← e, ← i, ← f)

  pub lines_step : {o m o' : List ℕ} {p q : ℕ} → Put o 0 (lines_of h₀ (first_records k s)) m p → Put m p (says_of h r) o' q
      → Put o 0 (lines_of h₀ (first_records (k + 1) s)) o' q
  lines_step p q = rw (lines_more s k l h₀, ← e, ← f) (then p q)

-- from the tally t₀, the lists a₀ to d₀ and the output o₀ the first k of n records have come to t, a to d and o, of which `made` is printed
pub record Goes (s : List ℕ) (a₀ : List Float) (b₀ c₀ : List ℕ) (d₀ : List Float) (o₀ : List ℕ) (n : ℕ) (t₀ : Tally)
    (a : List Float) (b c : List ℕ) (d : List Float) (o : List ℕ) (t : Tally) (made k : ℕ) : Type 0 where
  pub bound : k ≤ n
  pub held : held_of t a b c d ≡ after (held_of t₀ a₀ b₀ c₀ d₀) (first_records k s)
  pub lent : lent_of a b c d ≡ stored_after (held_of t₀ a₀ b₀ c₀ d₀) (lent_of a₀ b₀ c₀ d₀) (first_records k s)
  pub put : Put o₀ 0 (lines_of (held_of t₀ a₀ b₀ c₀ d₀) (first_records k s)) o made
  pub for_a : length a ≡ length a₀
  pub for_b : length b ≡ length b₀
  pub for_c : length c ≡ length c₀
  pub for_d : length d ≡ length d₀
  pub for_o : length o ≡ length o₀
  pub fits : Fits t
  pub number : t.number ≤ t₀.number + k
  pub room : made ≤ 256 * k

pub goes_start : (s : List ℕ) (a : List Float) (b c : List ℕ) (d : List Float) (o : List ℕ) (n : ℕ) (t : Tally) → Fits t
    → Goes s a b c d o n t a b c d o t 0 0
unfolding records_from after lines_of stored_after
goes_start s a b c d o n t h =
    record {
      bound = omega arith;
      held = refl;
      lent = refl;
      put = record { holds = refl; ends = refl };
      for_a = refl;
      for_b = refl;
      for_c = refl;
      for_d = refl;
      for_o = refl;
      fits = h;
      number = omega arith;
      room = omega arith;
    }

-- a new tally is within the limits
pub new_fits : {t : Tally} {n : ℕ} → t ≡ new_of n → Fits t × (t.number ≡ n)
new_fits e = rw e (record { few_verts = omega arith; few_corners = omega arith; few_faces = omega arith; few_queries = omega arith }, refl)
