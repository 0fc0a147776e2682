-- The lines of the report, each with its line feed.
use Rattle.std.specs.Prelude.{ℕ, Bool, List, ◌++◌, Float}
use Rattle.std.specs.Float.{binary64}
use Rattle.std.specs.Float.Ieee.{to_bits}
use Rattle.geometry.specs.declared.Findings.{Findings}
use Rattle.lines.specs.Text.{bytes_of, decimal_of, hex_of, yes_or_no}

-- cell NUMBER refused WHY
unfoldable pub refused_line : ℕ → ℕ → List ℕ
refused_line number why = (bytes_of "cell " ++ decimal_of number) ++ (bytes_of " refused " ++ decimal_of why) ++ bytes_of "\n"

-- the line of bytes after the last cell end
unfoldable pub tail_line : List ℕ
tail_line = bytes_of "tail refused 8\n"

-- cell NUMBER v VERTICES f FACES t TRIANGLES
abbrev pub counts_text : ℕ → ℕ → ℕ → ℕ → List ℕ
counts_text number verts faces triangles =
    (bytes_of "cell " ++ decimal_of number)
    ++ (bytes_of " v " ++ decimal_of verts)
    ++ (bytes_of " f " ++ decimal_of faces)
    ++ (bytes_of " t " ++ decimal_of triangles)

-- closed YES short FACES
abbrev pub shape_text : Bool → ℕ → List ℕ
shape_text closed short = bytes_of " closed " ++ yes_or_no closed ++ (bytes_of " short " ++ decimal_of short)

-- vol BITS in CONTAINED
abbrev pub findings_text : Float → ℕ → List ℕ
findings_text volume contained =
    bytes_of " vol " ++ hex_of 16 (to_bits binary64 volume) ++ (bytes_of " in " ++ decimal_of contained) ++ bytes_of "\n"

-- the whole line of a cell that is not refused
unfoldable pub cell_line : ℕ → ℕ → ℕ → Findings → List ℕ
cell_line number verts faces s =
    counts_text number verts faces s.triangles ++ shape_text s.closed s.short ++ findings_text s.volume s.contained
