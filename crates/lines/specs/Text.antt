-- Text as bytes: a quoted text, a number in decimal and in hex, and what a lent list of bytes holds after a text was put there.
use Rattle.std.specs.Prelude.{ℕ, zero, suc, ◌+◌, ◌/◌, ◌%◌, ◌≡◌, List, [], ◌∷◌, ◌++◌, Bool, true, false, cond, length, ltb}
use Prim.Native.Char.{code}
use Prim.Native.String.{String, [] as []ᵗ, ◌∷◌ as ◌∷ᵗ◌}
use Rattle.std.proofs.lemmas.List.Edits.{sets}

-- the bytes of a quoted text, each of whose characters is one byte
abbrev pub bytes_of : String → List ℕ
bytes_of []ᵗ = []
bytes_of (c ∷ᵗ s) = code c ∷ bytes_of s

-- the text stands in the list from at on, all else is as it was, and next is past it
pub record Put (before : List ℕ) (at : ℕ) (text : List ℕ) (after : List ℕ) (next : ℕ) : Type 0 where
  pub holds : after ≡ sets before at text
  pub ends : next ≡ at + length text

-- the decimal digits of n, of which there are k at most
unfoldable pub decimal : ℕ → ℕ → List ℕ
decimal zero n = []
decimal (suc k) n = cond (ltb n 10) ((48 + n) ∷ []) (decimal k (n / 10) ++ ((48 + n % 10) ∷ []))

-- the decimal digits of a number of 64 bits
abbrev pub decimal_of : ℕ → List ℕ
decimal_of n = decimal 20 n

-- 0 to 9, then A to F
abbrev pub digit_of : ℕ → ℕ
digit_of d = cond (ltb d 10) (48 + d) (55 + d)

-- the last k digits of n in base 16
unfoldable pub hex_of : ℕ → ℕ → List ℕ
hex_of zero n = []
hex_of (suc k) n = hex_of k (n / 16) ++ (digit_of (n % 16) ∷ [])

-- an answer in words
abbrev pub yes_or_no : Bool → List ℕ
yes_or_no true = bytes_of "yes"
yes_or_no false = bytes_of "no"
