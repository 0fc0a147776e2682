-- The report: the bytes are cut into records, each record makes something of the cell so far, and one that ends a cell prints its line.
use Rattle.std.specs.Prelude.{ℕ, ◌+◌, ◌*◌, List, [], ◌∷◌, ◌++◌, Bool, cond, length, take, drop, eqb, Float, Option, None, Some, Ok, Err}
use Rattle.places.specs.declared.refusal.Refusal.{Refusal}
use Rattle.places.specs.Refusals.{number_of}
use Rattle.std.proofs.lemmas.List.Edits.{sets}
use Rattle.geometry.specs.declared.Findings.{Findings}
use Rattle.geometry.specs.Answers.{Answer}
use Rattle.geometry.specs.Survey.{survey_answer}
use Rattle.records.specs.declared.bytes.Rec.{Rec}
use Rattle.records.specs.declared.tally.Tally.{Tally}
use Rattle.records.specs.Bytes.{record_of, ends_cell}
use Rattle.records.specs.Tally.{new_of, tally_of, new_coords, new_corners, new_ends, new_queries}
use Rattle.lines.specs.Lines.{cell_line, refused_line, tail_line}

-- the cell so far: the tally, and the lists that its records have filled
pub record Held : Type 0 where
  pub tally : Tally
  pub coords : List Float
  pub corners : List ℕ
  pub ends : List ℕ
  pub queries : List Float

-- cell n before its first record: all lists are empty
abbrev pub fresh_of : ℕ → Held
fresh_of n = record { tally = new_of n; coords = []; corners = []; ends = []; queries = [] }

-- after a record: each list with what the record adds
abbrev pub grown_of : Held → Rec → Held
grown_of h r =
    record {
      tally = tally_of h.tally r;
      coords = h.coords ++ new_coords h.tally r;
      corners = h.corners ++ new_corners h.tally r;
      ends = h.ends ++ new_ends h.tally r;
      queries = h.queries ++ new_queries h.tally r;
    }

-- the line for what the survey answers
abbrev pub survey_line : ℕ → ℕ → ℕ → Answer Findings → List ℕ
survey_line number verts faces (Ok s) = cell_line number verts faces s
survey_line number verts faces (Err why) = refused_line number (number_of why)

-- a record's refusal decides, and where there is none the survey's answer
abbrev pub decided : Option Refusal → Answer Findings → Answer Findings
decided None answer = answer
decided (Some why) answer = Err why

-- a cell's line
unfoldable pub line_of : Held → List ℕ
line_of h =
    survey_line h.tally.number h.tally.verts h.tally.faces
    (decided h.tally.refusal (survey_answer h.coords h.corners h.ends h.queries))

-- a record is taken: any record of a cell end's kind ends the cell, and the next one starts anew
unfoldable pub record_taken : Held → Rec → Held
record_taken h r = cond (ends_cell r.kind) (fresh_of (h.tally.number + 1)) (grown_of h r)

-- and what it prints
unfoldable pub says_of : Held → Rec → List ℕ
says_of h r = cond (ends_cell r.kind) (line_of (grown_of h r)) []

-- the cell after these records
unfoldable pub after : Held → List Rec → Held
after h [] = h
after h (r ∷ rs) = after (record_taken h r) rs

-- the lines that these records print
unfoldable pub lines_of : Held → List Rec → List ℕ
lines_of h [] = []
lines_of h (r ∷ rs) = says_of h r ++ lines_of (record_taken h r) rs

-- ---- the bytes
-- the whole records of the bytes s, where the bytes w, fewer than 32, wait before them: with its 32nd byte a record is whole
unfoldable pub records_from : List ℕ → List ℕ → List Rec
records_from w [] = []
records_from w (b ∷ s) =
    let v = w ++ (b ∷ []) in
    cond (eqb (length v) 32) (record_of v 0 ∷ records_from [] s) (records_from v s)

-- and the bytes behind them, which wait for a record to be whole
unfoldable pub rest_from : List ℕ → List ℕ → List ℕ
rest_from w [] = w
rest_from w (b ∷ s) =
    let v = w ++ (b ∷ []) in
    cond (eqb (length v) 32) (rest_from [] s) (rest_from v s)

-- the whole records of the bytes s
abbrev pub records_of : List ℕ → List Rec
records_of s = records_from [] s

-- the bytes behind the whole records, fewer than 32
abbrev pub rest_of : List ℕ → List ℕ
rest_of s = rest_from [] s

-- the end of the input: bytes after the last cell end are refused, be they whole records or not
abbrev pub tail_of : Bool → ℕ → List ℕ
tail_of begun left = cond begun tail_line (cond (eqb left 0) [] tail_line)

-- the lines for the bytes s, where the cell so far is h
unfoldable pub report_from : Held → List ℕ → List ℕ
report_from h s = lines_of h (records_of s) ++ tail_of (after h (records_of s)).tally.begun (length (rest_of s))

-- the lines for these bytes
abbrev pub report_of : List ℕ → List ℕ
report_of s = report_from (fresh_of 1) s

-- ---- the lists that are lent
-- the tally, and the part of each lent list that its records have filled
abbrev pub held_of : Tally → List Float → List ℕ → List ℕ → List Float → Held
held_of t a b c d =
    record {
      tally = t;
      coords = take (t.verts * 3) a;
      corners = take t.corners b;
      ends = take t.faces c;
      queries = take (t.queries * 3) d;
    }

-- the lent lists, whole
pub record Lent : Type 0 where
  pub coords : List Float
  pub corners : List ℕ
  pub ends : List ℕ
  pub queries : List Float

abbrev pub lent_of : List Float → List ℕ → List ℕ → List Float → Lent
lent_of a b c d = record { coords = a; corners = b; ends = c; queries = d }

-- what a record adds is stored behind what the lists hold of the cell, and all else stays
abbrev pub stored_of : Tally → Lent → Rec → Lent
stored_of t l r =
    record {
      coords = sets l.coords (t.verts * 3) (new_coords t r);
      corners = sets l.corners t.corners (new_corners t r);
      ends = sets l.ends t.faces (new_ends t r);
      queries = sets l.queries (t.queries * 3) (new_queries t r);
    }

-- the lent lists after these records, where the cell so far is h
unfoldable pub stored_after : Held → Lent → List Rec → Lent
stored_after h l [] = l
stored_after h l (r ∷ rs) = stored_after (record_taken h r) (stored_of h.tally l r) rs

-- n bytes from a place on moved to the front
abbrev pub moved_of : List ℕ → ℕ → ℕ → List ℕ
moved_of b from n = take n (drop from b) ++ drop n b
