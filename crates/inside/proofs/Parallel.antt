-- A face that is parallel to the ray: its normal has a first part of 0, and that is as good as at right angles whatever the other parts
-- are, so that `along` may answer at once.
use mathlib.Core.Path.{◌≡◌, refl, sym}
use mathlib.Core.Bool.{Bool, true, false, not, ◌&&◌, ◌||◌, cond}
use mathlib.Core.Bool.{true≢false}
use Prim.Native.Nat.{ℕ, zero, suc, ◌*◌, ◌+◌, ◌^◌}
use native.Mathlib.Nat.{zero-mul}
use native.Mathlib.Omega.{arith}
use borrow.Author.Tests.{eqb-true, lt-ltb}
use lib.Dec.{T, eqb, ltb}
use lib.IntN.{ℤ, pos, negsuc}
use lib.Ieee.{Float, Format, nan, inf, fin, binary64, of_bits, mul, round, units, odd, low, emax, prec, is_nan, lt, le, eq, up, down}
use Rattle.floats.specs.F64.{◌*f◌, zero64, epsilon64}
use Rattle.floats.specs.Pick.{magnitude_of, largest_of}
use Rattle.flat.specs.Points.{Point, at}
use Rattle.inside.specs.Ray.{along_of}

-- the sign is clear and it is no NaN
plain : Float → Bool
plain nan = false
plain (inf s) = not s
plain (fin s m e) = not s

-- the larger of such a number and any magnitude is one
larger_plain : (x b : Float) → T (plain x) → T (plain (largest_of x (magnitude_of b)))
unfolding largest_of magnitude_of is_nan plain
larger_plain nan b h = absurd h
larger_plain (inf true) b h = absurd h
larger_plain (fin true m e) b h = absurd h
larger_plain (inf false) nan h = tt
larger_plain (inf false) (inf s) h = either (lt (inf false) (inf false))
  where
    either : (c : Bool) → T (plain (cond c (inf false) (inf false)))
    either true = tt
    either false = tt
larger_plain (inf false) (fin s n d) h = either (lt (inf false) (fin false n d))
  where
    either : (c : Bool) → T (plain (cond c (fin false n d) (inf false)))
    either true = tt
    either false = tt
larger_plain (fin false m e) nan h = tt
larger_plain (fin false m e) (inf s) h = either (lt (fin false m e) (inf false))
  where
    either : (c : Bool) → T (plain (cond c (inf false) (fin false m e)))
    either true = tt
    either false = tt
larger_plain (fin false m e) (fin s n d) h = either (lt (fin false m e) (fin false n d))
  where
    either : (c : Bool) → T (plain (cond c (fin false n d) (fin false m e)))
    either true = tt
    either false = tt

-- what is rounded with the sign clear is one
units_plain : (f : Format) (q k : ℕ) → T (plain (units f false q k))
unfolding units odd plain
units_plain f q k = go (ltb (q * 2 ^ k) (2 ^ (low f + suc (emax f)))) q
  where
    go : (b : Bool) (q : ℕ) → T (plain (cond b (odd (suc (prec f)) false q k (low f)) (inf false)))
    go false q = tt
    go true zero = tt
    go true (suc q) = tt

round_plain : (f : Format) (num den : ℕ) → T (plain (round f false num den))
unfolding round
round_plain f num den = units_plain f _ _

slack_plain : (v : Float) → T (plain v) → T (plain (epsilon64 *f v))
unfolding plain mul round of_bits
slack_plain nan h = absurd h
slack_plain (inf true) h = absurd h
slack_plain (inf false) h = tt
slack_plain (fin true n d) h = absurd h
slack_plain (fin false n d) h = round_plain binary64 (1 * up (negsuc 45) * (n * up d)) (down (negsuc 45) * down d)

-- a magnitude of 0 is at most such a number
nothing_less : (b : ℕ) → (ltb 0 b || (eqb 0 b && true)) ≡ true
nothing_less zero = refl
nothing_less (suc b) = rw (lt-ltb 0 (suc b) (omega arith))

both_left : (a b : Bool) → (a && b) ≡ true → a ≡ true
both_left true b e = refl
both_left false b e = e

zero_below : (m : ℕ) (e : ℤ) (n : ℕ) (d : ℤ) → eq (fin false m e) (fin false 0 (pos 0)) ≡ true → le (fin false m e) (fin false n d) ≡ true
unfolding eq lt le
zero_below m e n d q =
    let z : m * up e * 1 ≡ 0 * down e = eqb-true (m * up e * 1) (0 * down e) (both_left _ _ q) in
    let none : m * up e ≡ 0 = omega (arith, z, zero-mul (down e)) in
    rw (none, zero-mul (down d)) (nothing_less (n * up d * down e))

zero_least : (a v : Float) → eq (magnitude_of a) zero64 ≡ true → T (plain v) → le (magnitude_of a) v ≡ true
unfolding magnitude_of eq lt le of_bits plain
zero_least nan v e h = absurd (true≢false (sym e))
zero_least (inf s) v e h = absurd (true≢false (sym e))
zero_least (fin s m e) nan q h = absurd h
zero_least (fin s m e) (inf true) q h = absurd h
zero_least (fin s m e) (inf false) q h = refl
zero_least (fin s m e) (fin true n d) q h = absurd h
zero_least (fin s m e) (fin false n d) q h = zero_below m e n d q

zero_plain : (a : Float) → eq (magnitude_of a) zero64 ≡ true → T (plain (magnitude_of a))
unfolding magnitude_of eq plain
zero_plain nan e = absurd (true≢false (sym e))
zero_plain (inf s) e = tt
zero_plain (fin s m e) q = tt

pub parallel : (n : Point) → eq (magnitude_of (at n 0)) zero64 ≡ true → true ≡ along_of n
unfolding along_of
parallel n e =
    let p = larger_plain _ (at n 2) (larger_plain _ (at n 1) (zero_plain (at n 0) e)) in
    sym (zero_least (at n 0) _ e (slack_plain _ p))
