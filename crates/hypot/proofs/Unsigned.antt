-- A pattern without the sign's bit is that of the magnitude, so the length of two numbers is that of their patterns without it. Beside an
-- infinity or a NaN `hypot_of` is what the code tests for and returns.
use mathlib.Core.Path.{◌≡◌, refl, sym, ap, ◌∙◌}
use Prim.Native.Nat.{ℕ, zero, suc, ◌+◌, ◌/◌, ◌%◌, ◌^◌, ◌<◌, ◌≤◌, max, min}
use mathlib.Core.Logic.{⊎_elim}
use Rattle.std.proofs.lemmas.Bool.{cases_lt}
use native.Mathlib.Omega.{arith}
use mathlib.Core.Bool.{Bool, true, false, cond, true≢false}
use lib.Dec.{T, leb, eqb}
use borrow.Author.Tests.{lt-leb}
use lib.Ieee.{Float, nan, inf, fin, Format, binary64, prec, low, hid, ones, odd, fits, of_fields, of_bits, to_bits}
use lib.Ieee.Bits.{of_bits-to_bits}
use Rattle.std.specs.Float.{float_is_infinite}
use Rattle.floats.specs.Pick.{magnitude_of}
use Rattle.floats.proofs.Nans.{written}
use Rattle.hypot.specs.Hypot.{hypot_of}
use Rattle.hypot.specs.Steps.{LengthPattern}
use Rattle.hypot.proofs.Signless.{either_order, no_signs, beside_infinity}
use Rattle.hypot.proofs.Packing.{infinity_is}

-- ---- the fields of a pattern, read with either sign, have the same magnitude
cond_magnitude : (b : Bool) (v w v' w' : Float) → magnitude_of v ≡ v' → magnitude_of w ≡ w' → magnitude_of (cond b v w) ≡ cond b v' w'
cond_magnitude true v w v' w' p q = p
cond_magnitude false v w v' w' p q = q

odd_magnitude : (d : ℕ) (s : Bool) (q k l : ℕ) → magnitude_of (odd d s q k l) ≡ odd d false q k l
unfolding odd magnitude_of
odd_magnitude d s zero k l = refl
odd_magnitude d s (suc q) k l = refl

top_magnitude : (s b : Bool) → magnitude_of (cond b (inf s) nan) ≡ cond b (inf false) nan
unfolding magnitude_of
top_magnitude s true = refl
top_magnitude s false = refl

fields_magnitude : (f : Format) (s : Bool) (x t : ℕ) → magnitude_of (of_fields f s x t) ≡ of_fields f false x t
unfolding of_fields
fields_magnitude f s zero t = odd_magnitude (prec f) s t 0 (low f)
fields_magnitude f s (suc x) t =
    cond_magnitude (eqb (suc x) (ones f)) (cond (eqb t 0) (inf s) nan) (odd (prec f) s (hid f + t) x (low f))
    (cond (eqb t 0) (inf false) nan) (odd (prec f) false (hid f + t) x (low f)) (top_magnitude s (eqb t 0))
    (odd_magnitude (prec f) s (hid f + t) x (low f))

clear_bit : (b : ℕ) → of_bits binary64 (b % 2 ^ 63) ≡ magnitude_of (of_bits binary64 b)
unfolding of_bits
clear_bit b =
    ap (λ (s : Bool). of_fields binary64 s (b % 2 ^ 63 % 2 ^ 63 / 2 ^ 52) (b % 2 ^ 63 % 2 ^ 52))
    (lt-leb (2 ^ 63) (b % 2 ^ 63) (omega arith))
    ∙ ap (λ (x : ℕ). of_fields binary64 false (x / 2 ^ 52) (b % 2 ^ 63 % 2 ^ 52)) same
    ∙ ap (λ (x : ℕ). of_fields binary64 false (b % 2 ^ 63 / 2 ^ 52) x) low_same
    ∙ sym (fields_magnitude binary64 (leb (2 ^ 63) b) (b % 2 ^ 63 / 2 ^ 52) (b % 2 ^ 52))
  where
    same : b % 2 ^ 63 % 2 ^ 63 ≡ b % 2 ^ 63
    same = omega arith

    low_same : b % 2 ^ 63 % 2 ^ 52 ≡ b % 2 ^ 52
    low_same = omega arith

-- ---- the pattern of x without its sign
abbrev pub bare : Float → ℕ
bare x = to_bits binary64 x % 2 ^ 63

bare_is : (x : Float) → T (fits binary64 x) → of_bits binary64 (bare x) ≡ magnitude_of x
bare_is x h = clear_bit (to_bits binary64 x) ∙ ap magnitude_of (of_bits-to_bits binary64 x h)

pub same_hypot : (x y : Float) → T (fits binary64 x) → T (fits binary64 y)
    → hypot_of binary64 (of_bits binary64 (bare x)) (of_bits binary64 (bare y)) ≡ hypot_of binary64 x y
same_hypot x y h k =
    ap (λ (v : Float). hypot_of binary64 v (of_bits binary64 (bare y))) (bare_is x h)
    ∙ ap (hypot_of binary64 (magnitude_of x)) (bare_is y k) ∙ no_signs binary64 x y

-- x is infinite, as its pattern says
pub with_infinity : (x y : Float) → T (fits binary64 x) → T (fits binary64 y) → bare x ≡ 0x7ff0_0000_0000_0000
    → of_bits binary64 0x7ff0_0000_0000_0000 ≡ hypot_of binary64 x y
with_infinity x y h k e =
    infinity_is ∙ sym (beside_infinity binary64 false (of_bits binary64 (bare y))).0
    ∙ ap (λ (v : Float). hypot_of binary64 v (of_bits binary64 (bare y))) (sym (ap (of_bits binary64) e ∙ infinity_is)) ∙ same_hypot x y h k

-- ---- the longer of two comes first
pub longer_infinite : (x y : Float) → T (fits binary64 x) → T (fits binary64 y) → max (bare x) (bare y) ≡ 0x7ff0_0000_0000_0000
    → of_bits binary64 0x7ff0_0000_0000_0000 ≡ hypot_of binary64 x y
longer_infinite x y h k e = ⊎_elim second first (cases_lt (bare x) (bare y))
  where
    second : bare x < bare y → of_bits binary64 0x7ff0_0000_0000_0000 ≡ hypot_of binary64 x y
    second l = with_infinity y x k h (omega arith) ∙ either_order binary64 y x

    first : bare y ≤ bare x → of_bits binary64 0x7ff0_0000_0000_0000 ≡ hypot_of binary64 x y
    first l = with_infinity x y h k (omega arith)

pub longer_first : (x y : Float) → T (fits binary64 x) → T (fits binary64 y) → (r : ℕ)
    → LengthPattern (max (bare x) (bare y)) (min (bare x) (bare y)) r → of_bits binary64 r ≡ hypot_of binary64 x y
longer_first x y h k r l = ⊎_elim second first (cases_lt (bare x) (bare y))
  where
    second : bare x < bare y → of_bits binary64 r ≡ hypot_of binary64 x y
    second m =
        let a : max (bare x) (bare y) ≡ bare y = omega arith in
        let b : min (bare x) (bare y) ≡ bare x = omega arith in
        (rw (a, b) at l).hypot ∙ same_hypot y x k h ∙ either_order binary64 y x

    first : bare y ≤ bare x → of_bits binary64 r ≡ hypot_of binary64 x y
    first m =
        let a : max (bare x) (bare y) ≡ bare x = omega arith in
        let b : min (bare x) (bare y) ≡ bare y = omega arith in
        (rw (a, b) at l).hypot ∙ same_hypot x y h k

-- ---- beside a NaN
pub nan_and_infinite : (z : Float) → float_is_infinite z ≡ true → of_bits binary64 0x7ff0_0000_0000_0000 ≡ hypot_of binary64 z nan
unfolding float_is_infinite hypot_of
nan_and_infinite nan h = absurd (true≢false (sym h))
nan_and_infinite (inf s) h = infinity_is
nan_and_infinite (fin s m e) h = absurd (true≢false (sym h))

pub nan_and_other : (z : Float) → float_is_infinite z ≡ false → of_bits binary64 0x7ff8_0000_0000_0000 ≡ hypot_of binary64 z nan
unfolding float_is_infinite hypot_of
nan_and_other nan h = written
nan_and_other (inf s) h = absurd (true≢false h)
nan_and_other (fin s m e) h = written
