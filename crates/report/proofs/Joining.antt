-- Bytes cut into records, and records one after the other: a record is its own 32 bytes, so the records of some bytes are those of their
-- front and then those of the rest, and what they make of the cell and print is put together likewise.
use mathlib.Core.Path.{◌≡◌, refl, sym, ap, ◌∙◌}
use mathlib.Core.Bool.{Bool, true, false, cond}
use mathlib.Core.List.{List, [], ◌∷◌, ◌++◌, append_assoc, append-nil}
use Prim.Native.Nat.{ℕ, zero, suc, ◌+◌, ◌-◌, ◌*◌, ◌/◌, ◌≤◌, ◌<◌}
use native.Mathlib.Nat.{add_assoc, add-zero}
use native.Mathlib.Numerals.{add-one}
use native.Mathlib.Omega.{arith}
use lib.ListN.{length, take, drop, get_or-append, length-append, length-drop, take-append-drop}
use lib.Seq.{get_or-drop, take-add, length-take-le}
use lib.Dec.{eqb}
use borrow.Author.Tests.{eq-eqb, ne_eqb, eqb-false}
use Rattle.records.specs.declared.bytes.Rec.{Rec}
use Rattle.records.specs.Bytes.{word_of, clear_of, record_of}
use Rattle.report.specs.Report.{Held, says_of, record_taken, after, lines_of, records_from, rest_from, records_of, rest_of}
use Rattle.report.specs.Report.{Lent, stored_of, stored_after}

-- ---- a record is its own 32 bytes
word_front : (s t : List ℕ) (at : ℕ) → at + 8 ≤ length s → word_of (s ++ t) at ≡ word_of s at
unfolding word_of
word_front s t at h =
    rw (
      get_or-append s t 0 at (omega arith),
      get_or-append s t 0 (at + 1) (omega arith),
      get_or-append s t 0 (at + 2) (omega arith),
      get_or-append s t 0 (at + 3) (omega arith),
      get_or-append s t 0 (at + 4) (omega arith),
      get_or-append s t 0 (at + 5) (omega arith),
      get_or-append s t 0 (at + 6) (omega arith),
      get_or-append s t 0 (at + 7) (omega arith),
    )

clear_front : (s t : List ℕ) (at : ℕ) → at + 8 ≤ length s → clear_of (s ++ t) at ≡ clear_of s at
unfolding clear_of
clear_front s t at h =
    rw (
      get_or-append s t 0 (at + 1) (omega arith),
      get_or-append s t 0 (at + 2) (omega arith),
      get_or-append s t 0 (at + 3) (omega arith),
      get_or-append s t 0 (at + 4) (omega arith),
      get_or-append s t 0 (at + 5) (omega arith),
      get_or-append s t 0 (at + 6) (omega arith),
      get_or-append s t 0 (at + 7) (omega arith),
    )

record_front : (s t : List ℕ) (at : ℕ) → at + 32 ≤ length s → record_of (s ++ t) at ≡ record_of s at
record_front s t at h =
    rw (
      get_or-append s t 0 at (omega arith),
      clear_front s t at (omega arith),
      word_front s t (at + 8) (omega arith),
      word_front s t (at + 16) (omega arith),
      word_front s t (at + 24) (omega arith),
    )

word_drop : (s : List ℕ) (m at : ℕ) → word_of (drop m s) at ≡ word_of s (m + at)
unfolding word_of
word_drop s m at = simp (get_or-drop, add_assoc)

clear_drop : (s : List ℕ) (m at : ℕ) → clear_of (drop m s) at ≡ clear_of s (m + at)
unfolding clear_of
clear_drop s m at = simp (get_or-drop, add_assoc)

record_drop : (s : List ℕ) (m at : ℕ) → record_of (drop m s) at ≡ record_of s (m + at)
record_drop s m at =
    rw (
      get_or-drop m s at 0,
      clear_drop s m at,
      word_drop s m (at + 8),
      word_drop s m (at + 16),
      word_drop s m (at + 24),
      add_assoc m at 8,
      add_assoc m at 16,
      add_assoc m at 24,
    )

-- ---- the bytes cut into records
alike : {r r' : Rec} {l m : List Rec} → r ≡ r' → l ≡ m → r ∷ l ≡ r' ∷ m
alike e f = cc

longer : (w : List ℕ) (b : ℕ) → length (w ++ (b ∷ [])) ≡ length w + 1
longer w b = length-append w (b ∷ [])

-- two pieces: what waits behind the first goes before the second
pub records_append : (w s t : List ℕ) → records_from w (s ++ t) ≡ records_from w s ++ records_from (rest_from w s) t
unfolding records_from rest_from
records_append w [] t = refl
records_append w (b ∷ s) t =
    let v = w ++ (b ∷ []) in
    either (eqb (length v) 32) (record_of v 0 ∷ records_from [] s) (records_from v s) (rest_from [] s) (rest_from v s)
    (alike refl (records_append [] s t)) (records_append v s t)
  where
    either : (q : Bool) {l l' : List Rec} (m m' : List Rec) (u u' : List ℕ) → l ≡ m ++ records_from u t → l' ≡ m' ++ records_from u' t
        → cond q l l' ≡ cond q m m' ++ records_from (cond q u u') t
    either true m m' u u' e f = e
    either false m m' u u' e f = f

pub rest_append : (w s t : List ℕ) → rest_from w (s ++ t) ≡ rest_from (rest_from w s) t
unfolding rest_from
rest_append w [] t = refl
rest_append w (b ∷ s) t =
    let v = w ++ (b ∷ []) in
    either (eqb (length v) 32) (rest_from [] s) (rest_from v s) (rest_append [] s t) (rest_append v s t)
  where
    either : (q : Bool) {l l' : List ℕ} (u u' : List ℕ) → l ≡ rest_from u t → l' ≡ rest_from u' t → cond q l l' ≡ rest_from (cond q u u') t
    either true u u' e f = e
    either false u u' e f = f

-- fewer than 32 bytes wait
pub rest_short : (w s : List ℕ) → length w < 32 → length (rest_from w s) < 32
unfolding rest_from
rest_short w [] l = l
rest_short w (b ∷ s) l =
    let v = w ++ (b ∷ []) in
    either (eqb (length v) 32) (rest_from [] s) (rest_from v s) (rest_short [] s (omega arith))
    (λ e. rest_short v s (omega (arith, longer w b, eqb-false (length v) 32 e)))
  where
    either : (q : Bool) (u u' : List ℕ) → length u < 32 → (q ≡ false → length u' < 32) → length (cond q u u') < 32
    either true u u' l l' = l
    either false u u' l l' = l' refl

-- fewer than 32 bytes are no record: they wait
no_record : (w s : List ℕ) → length w + length s < 32 → records_from w s ≡ []
unfolding records_from
no_record w [] l = refl
no_record w (b ∷ s) l =
    rw (ne_eqb (length (w ++ (b ∷ []))) 32 (λ e. omega (arith, longer w b)))
    (no_record (w ++ (b ∷ [])) s (omega (arith, longer w b)))

all_wait : (w s : List ℕ) → length w + length s < 32 → rest_from w s ≡ w ++ s
unfolding rest_from
all_wait w [] l = sym (append-nil w)
all_wait w (b ∷ s) l =
    rw (ne_eqb (length (w ++ (b ∷ []))) 32 (λ e. omega (arith, longer w b)))
    (all_wait (w ++ (b ∷ [])) s (omega (arith, longer w b)) ∙ append_assoc w (b ∷ []) s)

-- 32 bytes are one record, and none waits
one_record : (w s : List ℕ) → length w + length s ≡ 32 → 0 < length s → records_from w s ≡ record_of (w ++ s) 0 ∷ []
unfolding records_from
one_record w [] l p = elim p [ ]
one_record w (b ∷ []) l p = rw (eq-eqb (length (w ++ (b ∷ []))) 32 (omega (arith, longer w b)))
one_record w (b ∷ (d ∷ s)) l p =
    rw (ne_eqb (length (w ++ (b ∷ []))) 32 (λ e. omega (arith, longer w b)))
    (one_record (w ++ (b ∷ [])) (d ∷ s) (omega (arith, longer w b)) (omega arith)
    ∙ ap (λ (l : List ℕ). record_of l 0 ∷ []) (append_assoc w (b ∷ []) (d ∷ s)))

none_waits : (w s : List ℕ) → length w + length s ≡ 32 → 0 < length s → rest_from w s ≡ []
unfolding rest_from
none_waits w [] l p = elim p [ ]
none_waits w (b ∷ []) l p = rw (eq-eqb (length (w ++ (b ∷ []))) 32 (omega (arith, longer w b)))
none_waits w (b ∷ (d ∷ s)) l p =
    rw (ne_eqb (length (w ++ (b ∷ []))) 32 (λ e. omega (arith, longer w b)))
    (none_waits (w ++ (b ∷ [])) (d ∷ s) (omega (arith, longer w b)) (omega arith))

-- the bytes w wait, or they stand before the others: the same
pub waiting : (w s : List ℕ) → length w < 32 → records_of (w ++ s) ≡ records_from w s
waiting w s l = rw (records_append [] w s, no_record [] w (omega arith), all_wait [] w (omega arith))

pub waiting_rest : (w s : List ℕ) → length w < 32 → rest_of (w ++ s) ≡ rest_from w s
waiting_rest w s l = rw (rest_append [] w s, all_wait [] w (omega arith))

-- ---- the first k records
abbrev pub first_records : ℕ → List ℕ → List Rec
first_records k s = records_of (take (k * 32) s)

next : (s : List ℕ) (k : ℕ) → take ((k + 1) * 32) s ≡ take (k * 32) s ++ take 32 (drop (k * 32) s)
next s k =
    let e : (k + 1) * 32 ≡ k * 32 + 32 = omega arith in
    ap (λ (n : ℕ). take n s) e ∙ take-add (k * 32) 32 s

size : (s : List ℕ) (k : ℕ) → (k + 1) * 32 ≤ length s → length (take 32 (drop (k * 32) s)) ≡ 32
size s k l = length-take-le 32 (drop (k * 32) s) (simp length-drop (omega arith))

-- behind k records no byte waits
clean : (s : List ℕ) (k : ℕ) → k * 32 ≤ length s → rest_of (take (k * 32) s) ≡ []
unfolding rest_from
clean s zero l = refl
clean s (suc k) l =
    let one : length (take 32 (drop (k * 32) s)) ≡ 32 = size s k (omega arith) in
    ap (λ (n : ℕ). rest_of (take (n * 32) s)) (sym (add-one k))
    ∙ ap rest_of (next s k)
    ∙ rest_append [] (take (k * 32) s) (take 32 (drop (k * 32) s))
    ∙ rw (clean s k (omega arith)) (none_waits [] (take 32 (drop (k * 32) s)) (omega arith) (omega arith))

-- one record more is the one at its place
at_place : (s : List ℕ) (k : ℕ) → (k + 1) * 32 ≤ length s → record_of (take 32 (drop (k * 32) s)) 0 ≡ record_of s (k * 32)
at_place s k l =
    let d = drop (k * 32) s in
    sym (record_front (take 32 d) (drop 32 d) 0 (omega (arith, size s k l)))
    ∙ ap (λ (m : List ℕ). record_of m 0) (take-append-drop 32 d)
    ∙ record_drop s (k * 32) 0
    ∙ ap (record_of s) (add-zero (k * 32))

records_more : (s : List ℕ) (k : ℕ) → (k + 1) * 32 ≤ length s → first_records (k + 1) s ≡ first_records k s ++ (record_of s (k * 32) ∷ [])
records_more s k l =
    let d = take 32 (drop (k * 32) s) in
    let one : length d ≡ 32 = size s k l in
    ap records_of (next s k)
    ∙ records_append [] (take (k * 32) s) d
    ∙ rw (clean s k (omega arith), ← at_place s k l)
    (ap (λ (m : List Rec). first_records k s ++ m) (one_record [] d (omega arith) (omega arith)))

-- ---- all records, and the bytes behind them, which wait
whole : (n : ℕ) → n / 32 * 32 ≤ n
whole n = omega arith

few : (n : ℕ) → 0 + (n - n / 32 * 32) < 32
few n = omega arith

pub all_records : (s : List ℕ) → records_of s ≡ first_records (length s / 32) s
all_records s =
    let n = length s / 32 * 32 in
    sym (ap records_of (take-append-drop n s))
    ∙ records_append [] (take n s) (drop n s)
    ∙ rw (clean s (length s / 32) (whole (length s)), no_record [] (drop n s) (simp length-drop (few (length s))))
    (append-nil (records_of (take n s)))

pub rest_drop : (s : List ℕ) → rest_of s ≡ drop (length s / 32 * 32) s
rest_drop s =
    let n = length s / 32 * 32 in
    sym (ap rest_of (take-append-drop n s))
    ∙ rest_append [] (take n s) (drop n s)
    ∙ rw (clean s (length s / 32) (whole (length s))) (all_wait [] (drop n s) (simp length-drop (few (length s))))

-- ---- records one after the other
pub after_append : (h : Held) (l m : List Rec) → after h (l ++ m) ≡ after (after h l) m
unfolding after
after_append h [] m = refl
after_append h (r ∷ l) m = after_append (record_taken h r) l m

pub lines_append : (h : Held) (l m : List Rec) → lines_of h (l ++ m) ≡ lines_of h l ++ lines_of (after h l) m
unfolding lines_of after
lines_append h [] m = refl
lines_append h (r ∷ l) m =
    ap (λ (x : List ℕ). says_of h r ++ x) (lines_append (record_taken h r) l m) ∙ sym (append_assoc (says_of h r) _ _)

pub stored_append : (h : Held) (x : Lent) (l m : List Rec) → stored_after h x (l ++ m) ≡ stored_after (after h l) (stored_after h x l) m
unfolding stored_after after
stored_append h x [] m = refl
stored_append h x (r ∷ l) m = stored_append (record_taken h r) (stored_of h.tally x r) l m

-- ---- one record more: the cell, the lines, the lent lists
module _ (s : List ℕ) (k : ℕ) (l : (k + 1) * 32 ≤ length s) where
  pub after_more : (h : Held) → after h (first_records (k + 1) s) ≡ record_taken (after h (first_records k s)) (record_of s (k * 32))
  unfolding after
  after_more h = ap (after h) (records_more s k l) ∙ after_append h (first_records k s) (record_of s (k * 32) ∷ [])

  pub lines_more : (h : Held)
      → lines_of h (first_records (k + 1) s)
      ≡ lines_of h (first_records k s) ++ says_of (after h (first_records k s)) (record_of s (k * 32))
  unfolding lines_of
  lines_more h =
      ap (lines_of h) (records_more s k l)
      ∙ lines_append h (first_records k s) (record_of s (k * 32) ∷ [])
      ∙ ap (λ (x : List ℕ). lines_of h (first_records k s) ++ x) (append-nil (says_of (after h (first_records k s)) (record_of s (k * 32))))

  pub stored_more : (h : Held) (x : Lent)
      → stored_after h x (first_records (k + 1) s)
      ≡ stored_of (after h (first_records k s)).tally (stored_after h x (first_records k s)) (record_of s (k * 32))
  unfolding stored_after
  stored_more h x = ap (stored_after h x) (records_more s k l) ∙ stored_append h x (first_records k s) (record_of s (k * 32) ∷ [])
