-- Any split of the input: a run is given the bytes in pieces, as many and as long as they may be, and prints the report of the whole.
use Rattle.std.specs.Prelude.{ℕ, ◌≡◌, Bool, not, ◌&&◌, List, [], ◌∷◌, ◌++◌, length, take, drop, eqb}
use Rattle.places.specs.Stored.{joined}
use Rattle.records.specs.declared.tally.Tally.{Tally}
use Rattle.report.specs.Report.{Held, fresh_of, after, lines_of, records_of, rest_of, tail_of, report_of}

-- what a run prints when the cell so far is h, the bytes w wait, and these pieces are still to come: each piece is put behind the
-- bytes that wait, the lines of the whole records are printed, and the rest waits; after the last piece comes the tail
unfoldable pub printed_from : Held → List ℕ → List (List ℕ) → List ℕ
printed_from h w [] = tail_of h.tally.begun (length w)
printed_from h w (s ∷ ss) = lines_of h (records_of (w ++ s)) ++ printed_from (after h (records_of (w ++ s))) (rest_of (w ++ s)) ss

-- what a run prints that is given these pieces from its start on
abbrev pub printed_of : List (List ℕ) → List ℕ
printed_of ss = printed_from (fresh_of 1) [] ss

-- ---- the theorem
-- However the input is split, a run prints the report of the pieces joined.
abbrev pub AnySplit : Type 0
AnySplit = (ss : List (List ℕ)) → printed_of ss ≡ report_of (joined ss)

-- Two splits of the same bytes print the same.
abbrev pub OneReport : Type 0
OneReport = (ss ts : List (List ℕ)) → joined ss ≡ joined ts → printed_of ss ≡ printed_of ts

-- ---- a run on its way
-- A run that was given these bytes has come to the cell so far h, the bytes w wait, and these lines are printed.
pub record Reached (given : List ℕ) (h : Held) (w printed : List ℕ) : Type 0 where
  pub held : h ≡ after (fresh_of 1) (records_of given)
  pub waits : w ≡ rest_of given
  pub lines : printed ≡ lines_of (fresh_of 1) (records_of given)

-- Wherever a run has come to h, with the bytes w waiting, the bytes s bring it to h', with w' waiting, and p is printed besides.
pub record Takes (h : Held) (w s : List ℕ) (h' : Held) (w' p : List ℕ) : Type 0 where
  pub on : (given printed : List ℕ) → Reached given h w printed → Reached (given ++ s) h' w' (printed ++ p)

-- The start: no byte is given, none waits, and nothing is printed.
abbrev pub Starts : Type 0
Starts = Reached [] (fresh_of 1) [] []

-- One more piece: it is put behind the bytes that wait, the lines of the whole records are printed, and the rest waits.
abbrev pub OneMore : Type 0
OneMore =
    (h : Held) (w s : List ℕ) → Takes h w s (after h (records_of (w ++ s))) (rest_of (w ++ s)) (lines_of h (records_of (w ++ s)))

-- The end: with the tail, the report of all bytes that were given is printed.
abbrev pub AtTheEnd : Type 0
AtTheEnd =
    (given : List ℕ) (h : Held) (w printed : List ℕ) → Reached given h w printed
    → printed ++ tail_of h.tally.begun (length w) ≡ report_of given

-- ---- the same, as contracts have it
-- `feed` is handed the bytes b: whichever of them waited and whichever came, they are taken.
pub record Feeds (h : Held) (b : List ℕ) (h' : Held) (w' p : List ℕ) : Type 0 where
  pub takes : (w s : List ℕ) → b ≡ w ++ s → Takes h w s h' w' p

-- `finish` ends a run with the tally t when so many bytes wait: with p the report of all bytes that were given is printed.
pub record Finishes (t : Tally) (left : ℕ) (p : List ℕ) : Type 0 where
  pub whole : (given : List ℕ) (h : Held) (w printed : List ℕ) → h.tally ≡ t → length w ≡ left → Reached given h w printed
      → printed ++ p ≡ report_of given

-- ---- one read of the program
-- the n bytes that came: a read left them in the block b, behind those that waited there
abbrev pub came_of : ℕ → ℕ → List ℕ → List ℕ
came_of waited n b = take n (drop waited b)

-- the input has ended where a read that did not fail gave no byte
abbrev pub end_of : Bool → ℕ → Bool
end_of failed n = not failed && eqb n 0

-- A read left the block b, with n bytes behind those that waited, or failed: a run takes the bytes that came, no more and no fewer, and the
-- end of the input is told where it is.
pub record TookRead (h : Held) (b : List ℕ) (waited n : ℕ) (failed : Bool) (h' : Held) (w' p : List ℕ) (ended : Bool) : Type 0 where
  pub takes : Takes h (take waited b) (came_of waited n b) h' w' p
  pub told : ended ≡ end_of failed n

-- The state is one that a run comes to: some bytes were given, and some lines are printed.
pub record Running (h : Held) (w : List ℕ) : Type 0 where
  pub given : List ℕ
  pub printed : List ℕ
  pub reached : Reached given h w printed
