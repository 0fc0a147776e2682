-- What it means that nothing speaks against a record, for the methods that then store: it is fine and there is room, and the tally counts
-- it, which else is refused; and that three stores one behind the other are one run.
use mathlib.Core.Path.{◌≡◌, refl, sym, ◌∙◌}
use mathlib.Core.Bool.{Bool, true, false, ◌&&◌}
use mathlib.Core.List.{List, [], ◌∷◌}
use Prim.Native.Nat.{ℕ, suc, ◌+◌, ◌<◌}
use native.Mathlib.Numerals.{add-one}
use lib.ListN.{set}
use lib.Seq.{sets}
use lib.Ieee.{Float}
use native.Mathlib.Omega.{arith}
use lib.Dec.{eqb, ltb}
use borrow.Author.Tests.{ltb-true}
use Rattle.std.specs.Prelude.{Err}
use Rattle.places.specs.declared.refusal.Refusal.{Refusal}
use Rattle.places.specs.Refusals.{Check, no_refusal}
use Rattle.records.specs.declared.bytes.Rec.{Rec}
use Rattle.records.specs.declared.tally.Tally.{Tally}
use Rattle.records.specs.Tally.{why_of, corner_fine, refused_of, unless}

never : false ≡ true → ⊥
never h = let e : ◌≡◌ {A = ℕ} 0 1 = cc in omega arith

-- the record is fine and there is room
pub why_none : (fine room : Bool) → why_of fine room ≡ no_refusal → (fine ≡ true) × (room ≡ true)
unfolding why_of
why_none true true h = (refl, refl)
why_none true false h = absurd (cc)
why_none false true h = absurd (cc)
why_none false false h = absurd (cc)

pub why_room : (fine : Bool) (n most : ℕ) → why_of fine (ltb n most) ≡ no_refusal → n < most
why_room fine n most h = ltb-true n most (why_none fine (ltb n most) h).1

-- the same of what `why` answered
pub room_left : (fine : Bool) (n most : ℕ) {w : Check} → w ≡ why_of fine (ltb n most) → w ≡ no_refusal → n < most
room_left fine n most e f = why_room fine n most (sym e ∙ f)

-- the tally counts the record, or is refused
pub counts : (t : Tally) {next : Tally} {w why : Check} → w ≡ why → w ≡ no_refusal → next ≡ unless t why next
counts t e f = rw (← e, f)

pub refuses : (t next : Tally) {u : Tally} {w why : Check} {refusal : Refusal} → w ≡ why → w ≡ Err refusal → u ≡ refused_of t refusal
    → u ≡ unless t why next
refuses t next e f g = rw (← e, f) g

last : (x y z w : Bool) → (x && (y && (z && w))) ≡ true → w ≡ true
last true true true w h = h
last false y z w h = absurd (never h)
last true false z w h = absurd (never h)
last true true false w h = absurd (never h)

-- a corner's number fits 32 bits
pub corner_fits : (r : Rec) (room : Bool) {w : Check} → w ≡ why_of (corner_fine r) room → w ≡ no_refusal → r.a < 4294967296
unfolding corner_fine
corner_fits r room e f =
    let fine = (why_none (corner_fine r) room (sym e ∙ f)).0 in
    ltb-true r.a 4294967296 (last r.clear (eqb r.b 0) (eqb r.c 0) (ltb r.a 4294967296) fine)

two_more : (i : ℕ) → i + 2 ≡ suc (suc i)
two_more i = omega arith

-- three stores one behind the other
pub three_stores : (xs : List Float) (i : ℕ) (x y z : Float) → set (set (set xs i x) (i + 1) y) (i + 2) z ≡ sets xs i (x ∷ y ∷ z ∷ [])
three_stores xs i x y z = rw (add-one i, two_more i)
