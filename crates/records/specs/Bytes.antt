-- A record: 32 bytes, byte 0 its kind, bytes 1 to 7 zero, three little-endian fields of 8 bytes.
use Rattle.std.specs.Prelude.{ℕ, ◌+◌, ◌*◌, Bool, ◌&&◌, List, get_or, eqb, true, false, cond, Option, None, Some}
use Rattle.records.specs.declared.bytes.Kind.{Kind}
use Rattle.records.specs.declared.bytes.Kind.TheVariants.{Vertex, Corner, FaceEnd, CellEnd, Query}
use Rattle.records.specs.declared.bytes.Rec.{Rec}

-- the 8 bytes from at on, little-endian
unfoldable pub word_of : List ℕ → ℕ → ℕ
word_of s at =
    get_or s at 0
    + 256 * get_or s (at + 1) 0
    + 65536 * get_or s (at + 2) 0
    + 16777216 * get_or s (at + 3) 0
    + 4294967296 * get_or s (at + 4) 0
    + 1099511627776 * get_or s (at + 5) 0
    + 281474976710656 * get_or s (at + 6) 0
    + 72057594037927936 * get_or s (at + 7) 0

-- the byte at a place is zero
abbrev pub zero_at : List ℕ → ℕ → Bool
zero_at s at = eqb (get_or s at 0) 0

-- bytes 1 to 7 after at are zero
unfoldable pub clear_of : List ℕ → ℕ → Bool
clear_of s at =
    zero_at s (at + 1)
    && (zero_at s (at + 2)
    && (zero_at s (at + 3)
    && (zero_at s (at + 4)
    && (zero_at s (at + 5)
    && (zero_at s (at + 6)
    && zero_at s (at + 7))))))

-- the kind that byte 0 names
unfoldable pub kind_of : ℕ → Option Kind
kind_of byte =
    cond (eqb byte 1) (Some Vertex)
    (cond (eqb byte 2) (Some Corner)
    (cond (eqb byte 3) (Some FaceEnd) (cond (eqb byte 4) (Some CellEnd) (cond (eqb byte 5) (Some Query) None))))

-- what stands for the kind of a record, the last where it is of none
abbrev pub by_kind : {A : Type 0} → Option Kind → A → A → A → A → A → A → A
by_kind (Some Vertex) vertex corner face_end cell_end query none = vertex
by_kind (Some Corner) vertex corner face_end cell_end query none = corner
by_kind (Some FaceEnd) vertex corner face_end cell_end query none = face_end
by_kind (Some CellEnd) vertex corner face_end cell_end query none = cell_end
by_kind (Some Query) vertex corner face_end cell_end query none = query
by_kind None vertex corner face_end cell_end query none = none

-- a record of this kind ends the cell
abbrev pub ends_cell : Option Kind → Bool
ends_cell kind = by_kind kind false false false true false false

-- the record whose 32 bytes begin at at
abbrev pub record_of : List ℕ → ℕ → Rec
record_of s at = record {
  kind = kind_of (get_or s at 0);
  clear = clear_of s at;
  a = word_of s (at + 8);
  b = word_of s (at + 16);
  c = word_of s (at + 24);
}
