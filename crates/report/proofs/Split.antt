-- However the input is split, a run prints the report of the whole: the whole records of the bytes so far, and then those of what waits
-- with the next piece behind it, are the whole records of all of them, in their order.
use mathlib.Core.Path.{◌≡◌, refl, sym, ap, ◌∙◌}
use mathlib.Core.Bool.{Bool}
use mathlib.Core.List.{List, [], ◌∷◌, ◌++◌, append_assoc, append-nil}
use Prim.Native.Nat.{ℕ, ◌+◌, ◌-◌, ◌*◌, ◌/◌, ◌≤◌, ◌<◌}
use native.Mathlib.Omega.{arith}
use lib.ListN.{length, take, drop, length-drop}
use lib.Seq.{take_at, drop_at, take-add, length-take-le}
use lib.Ieee.{Float}
use Rattle.places.specs.Stored.{joined}
use Rattle.lines.specs.Text.{Put}
use Rattle.records.specs.declared.bytes.Rec.{Rec}
use Rattle.records.specs.declared.tally.Tally.{Tally}
use Rattle.records.specs.Tally.{new_of}
use Rattle.report.specs.Report.{Held, held_of, fresh_of, after, lines_of, records_from, rest_from, records_of, rest_of, tail_of}
use Rattle.report.specs.Report.{report_from, report_of, moved_of}
use Rattle.report.specs.Split.{printed_from, AnySplit, OneReport, Reached, Starts, OneMore, AtTheEnd, Takes, Feeds, Finishes}
use Rattle.report.specs.Split.{Running, came_of, end_of, TookRead}
use Rattle.report.proofs.Joining.{records_append, rest_append, rest_short, waiting, waiting_rest, rest_drop, after_append}
use Rattle.report.proofs.Joining.{lines_append}
use Rattle.report.proofs.Taken.{front}

-- ---- all bytes, from the bytes given and one more piece
few_wait : (g : List ℕ) → length (rest_of g) < 32
few_wait g = rest_short [] g (omega arith)

more_rest : (g s : List ℕ) → rest_of (g ++ s) ≡ rest_of (rest_of g ++ s)
more_rest g s = rest_append [] g s ∙ sym (waiting_rest (rest_of g) s (few_wait g))

-- the whole records of all bytes are those of the bytes given, and then those of what waits with the piece behind it
more_records : (g s : List ℕ) → records_of (g ++ s) ≡ records_of g ++ records_of (rest_of g ++ s)
more_records g s = records_append [] g s ∙ ap (λ (rs : List Rec). records_of g ++ rs) (sym (waiting (rest_of g) s (few_wait g)))

more_held : (h : Held) (g s : List ℕ) → after h (records_of (g ++ s)) ≡ after (after h (records_of g)) (records_of (rest_of g ++ s))
more_held h g s = ap (after h) (more_records g s) ∙ after_append h (records_of g) (records_of (rest_of g ++ s))

more_lines : (h : Held) (g s : List ℕ)
    → lines_of h (records_of (g ++ s)) ≡ lines_of h (records_of g) ++ lines_of (after h (records_of g)) (records_of (rest_of g ++ s))
more_lines h g s = ap (lines_of h) (more_records g s) ∙ lines_append h (records_of g) (records_of (rest_of g ++ s))

-- ---- a run on its way: its start, one more piece, its end
pub starts : Starts
unfolding records_from rest_from after lines_of
starts = record { held = refl; waits = refl; lines = refl }

pub one_more : OneMore
one_more h w s =
    record {
      on = λ given printed r.
          record {
            held = rw (r.held, r.waits, more_held (fresh_of 1) given s);
            waits = rw (r.waits, more_rest given s);
            lines = rw (r.lines, r.held, r.waits, more_lines (fresh_of 1) given s);
          };
    }

pub at_the_end : AtTheEnd
unfolding report_from
at_the_end given h w printed r = rw (r.lines, r.held, r.waits)

-- ---- the theorem
from_there : {given : List ℕ} {h : Held} {w printed : List ℕ} (ss : List (List ℕ)) → Reached given h w printed
    → printed ++ printed_from h w ss ≡ report_of (given ++ joined ss)
unfolding printed_from joined
from_there {given} {h} {w} {printed} [] r = at_the_end given h w printed r ∙ ap report_of (sym (append-nil given))
from_there {given} {h} {w} {printed} (s ∷ ss) r =
    sym (append_assoc printed _ _)
    ∙ from_there {given = given ++ s} ss ((one_more h w s).on given printed r)
    ∙ ap report_of (append_assoc given s (joined ss))

pub any_split : AnySplit
any_split ss = from_there ss starts

pub one_report : OneReport
one_report ss ts e = any_split ss ∙ ap report_of e ∙ sym (any_split ts)

-- ---- the contracts
pub feeds : {h h' : Held} {b w' p : List ℕ} → h' ≡ after h (records_of b) → w' ≡ rest_of b → p ≡ lines_of h (records_of b)
    → Feeds h b h' w' p
feeds e f g = record { takes = λ w s c. rw (e, f, g, c) (one_more _ w s) }

pub finishes : (t : Tally) (left : ℕ) {p : List ℕ} → p ≡ tail_of t.begun left → Finishes t left p
finishes t left e = record { whole = λ given h w printed c d r. rw (e, ← c, ← d) (at_the_end given h w printed r) }

-- what stands at the front of a list into which text was put
pub put_front : {o xs o' : List ℕ} {m : ℕ} → Put o 0 xs o' m → m ≤ length o → take m o' ≡ xs
put_front {o} {xs} p l = rw (p.ends, p.holds) (front o xs 0 (omega (arith, p.ends)))

pub finished : {o xs o' : List ℕ} {r : ℕ} (t : Tally) (left : ℕ) → tail_of t.begun left ≡ xs → Put o 0 xs o' r → r ≤ length o
    → Put o 0 (tail_of t.begun left) o' r × ((r ≤ length o) × Finishes t left (take r o'))
finished t left e p l = (rw e p, (l, finishes t left (put_front p l ∙ sym e)))

-- the bytes that are moved to the front of the block are those that wait
pub moved_rest : (b : List ℕ) {b' : List ℕ} (total : ℕ) → total ≤ length b → b' ≡ moved_of b (total / 32 * 32) (total - total / 32 * 32)
    → take (total - total / 32 * 32) b' ≡ rest_of (take total b)
moved_rest b total l m =
    rw (m, rest_drop (take total b), length-take-le total b l)
    (at (total / 32 * 32) (total - total / 32 * 32) (omega arith) (omega arith))
  where
    at : (f n : ℕ) → f + n ≡ total → f + n ≤ length b → take n (take n (drop f b) ++ drop n b) ≡ drop f (take total b)
    at f n e k =
        take_at (take n (drop f b)) (drop n b) n (length-take-le n (drop f b) (simp length-drop (omega arith)))
        ∙ sym (drop_at (take f b) (take n (drop f b)) f (length-take-le f b (omega arith)))
        ∙ ap (drop f) (sym (take-add f n b) ∙ ap (λ (k : ℕ). take k b) e)

-- ---- the program
-- the block's first bytes were fed: those that waited, and behind them those that came
pub came_in : {h h' : Held} {w' p : List ℕ} (waited n : ℕ) (block : List ℕ) → Feeds h (take (waited + n) block) h' w' p
    → Takes h (take waited block) (came_of waited n block) h' w' p
came_in waited n block f = f.takes (take waited block) (came_of waited n block) (take-add waited n block)

-- nothing came: the state is as it was, and nothing is printed
pub none_came : {t u : Tally} {waited n have m : ℕ} {failed ended : Bool} (a : List Float) (b c : List ℕ) (d : List Float)
    (block out : List ℕ) → n ≡ 0 → u ≡ t → have ≡ waited → m ≡ 0 → ended ≡ end_of failed n
    → TookRead (held_of t a b c d) block waited n failed (held_of u a b c d) (take have block) (take m out) ended
none_came a b c d block out z e f g k =
    record {
      takes = record { on = λ given printed r. rw (z, e, f, g, append-nil given, append-nil printed) r };
      told = k;
    }

-- bytes came, and were taken
pub some_came : {h : Held} {t u : Tally} {waited n have have' m m' : ℕ} {failed ended : Bool} (a : List Float) (b c : List ℕ)
    (d : List Float) (block block' out : List ℕ)
    → Takes h (take waited block) (came_of waited n block) (held_of t a b c d) (take have block') (take m out)
    → u ≡ t → have' ≡ have → m' ≡ m → ended ≡ end_of failed n
    → TookRead h block waited n failed (held_of u a b c d) (take have' block') (take m' out) ended
some_came a b c d block block' out f e g i k = record { takes = rw (e, g, i) f; told = k }

-- the program starts as a run, and goes on as one
pub new_runs : {t : Tally} (a : List Float) (b c : List ℕ) (d : List Float) → t ≡ new_of 1 → Running (held_of t a b c d) []
new_runs a b c d e = rw e (record { given = []; printed = []; reached = starts })

-- the block after the read has the waiting bytes where they were
pub runs_on : {h : Held} {w b : List ℕ} {waited n : ℕ} {failed : Bool} {h' : Held} {w' p : List ℕ} {ended : Bool} → Running h w
    → take waited b ≡ w → TookRead h b waited n failed h' w' p ended → Running h' w'
runs_on {b} {waited} {n} {p} r e t =
    record {
      given = r.given ++ came_of waited n b;
      printed = r.printed ++ p;
      reached = t.takes.on r.given r.printed (rw e r.reached);
    }
