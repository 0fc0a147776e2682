-- The sign cleared is the magnitude. In a pattern the sign's bit is the sign: below 2 ^ 63 a pattern's value has its sign clear, and from
-- there on it is negative.
use mathlib.Core.Path.{◌≡◌, refl, sym, subst}
use mathlib.Core.Bool.{Bool, true, false, cond}
use Prim.Native.Nat.{ℕ, zero, suc, ◌+◌, ◌/◌, ◌%◌, ◌≤◌, ◌<◌}
use lib.Dec.{T, leb, eqb}
use borrow.Author.Tests.{le-leb, lt-leb}
use lib.Ieee.{Float, nan, inf, fin, Format, prec, low, hid, ones, top, odd, neg, fits, of_fields, of_bits, to_bits}
use lib.Ieee.Bits.{of_bits-to_bits}
use Rattle.std.specs.Float.{float_with_sign}
use Rattle.floats.specs.Pick.{magnitude_of}

-- for `magnitude`
pub sign_cleared : (x : Float) → float_with_sign false x ≡ magnitude_of x
unfolding float_with_sign magnitude_of
sign_cleared nan = refl
sign_cleared (inf s) = refl
sign_cleared (fin s m e) = refl

-- ---- the sign by the pattern
-- x is the magnitude of itself, or its negation is
abbrev Signed : Bool → Float → Type 0
Signed s v = magnitude_of v ≡ cond s (neg v) v

odd_signed : (d : ℕ) (s : Bool) (q k l : ℕ) → Signed s (odd d s q k l)
unfolding odd magnitude_of neg
odd_signed d true zero k l = refl
odd_signed d true (suc q) k l = refl
odd_signed d false zero k l = refl
odd_signed d false (suc q) k l = refl

top_signed : (s b : Bool) → Signed s (cond b (inf s) nan)
unfolding magnitude_of neg
top_signed true true = refl
top_signed true false = refl
top_signed false true = refl
top_signed false false = refl

either : (s b : Bool) (v w : Float) → Signed s v → Signed s w → Signed s (cond b v w)
either s true v w p q = p
either s false v w p q = q

fields_signed : (f : Format) (s : Bool) (x t : ℕ) → Signed s (of_fields f s x t)
unfolding of_fields
fields_signed f s zero t = odd_signed (prec f) s t 0 (low f)
fields_signed f s (suc x) t =
    either s (eqb (suc x) (ones f)) (cond (eqb t 0) (inf s) nan) (odd (prec f) s (hid f + t) x (low f)) (top_signed s (eqb t 0))
    (odd_signed (prec f) s (hid f + t) x (low f))

bits_signed : (f : Format) (b : ℕ) → Signed (leb (top f) b) (of_bits f b)
unfolding of_bits
bits_signed f b = fields_signed f (leb (top f) b) (b % top f / hid f) (b % hid f)

value_signed : (f : Format) (x : Float) → T (fits f x) → Signed (leb (top f) (to_bits f x)) x
value_signed f x h = subst (λ (v : Float). Signed (leb (top f) (to_bits f x)) v) (of_bits-to_bits f x h) (bits_signed f (to_bits f x))

pub of_nan : (x : Float) → x ≡ nan → x ≡ magnitude_of x
unfolding magnitude_of
of_nan x e = rw e

pub clear : (f : Format) (x : Float) → T (fits f x) → to_bits f x < top f → x ≡ magnitude_of x
clear f x h l = sym (subst (λ (s : Bool). Signed s x) (lt-leb (top f) (to_bits f x) l) (value_signed f x h))

pub set : (f : Format) (x : Float) → T (fits f x) → top f ≤ to_bits f x → neg x ≡ magnitude_of x
set f x h l = sym (subst (λ (s : Bool). Signed s x) (le-leb (top f) (to_bits f x) l) (value_signed f x h))
