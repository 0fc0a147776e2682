-- A number of a format is the only one with its sign and its value, so it is rounded to itself. With the sign clear this is the law that
-- a value is rounded exactly, and rounding does not turn on the sign.
use mathlib.Core.Path.{◌≡◌, refl, sym, ap, ◌∙◌, subst}
use mathlib.Core.Bool.{Bool, true, false, cond}
use Prim.Native.Nat.{ℕ, zero, suc, ◌+◌, ◌-◌, ◌*◌, ◌^◌, ◌<◌}
use native.Mathlib.Nat.{le_of_eq, lt_of_lt_of_le, lt_of_le_of_lt, lt_of_mul-lt-mul_right, mul-lt-mul_of_pos_right, zero-lt-suc}
use native.Mathlib.Nat.{eq_of_mul-eq-mul_right}
use native.Mathlib.Omega.{arith}
use lib.Dec.{T, ltb, lt→ltb}
use lib.Pow.{pow-add, pow_pos}
use lib.IntN.{ℤ}
use lib.Ieee.{inf, fin, Format, prec, emax, low, up, down, odd, units, round, neg, fits}
use lib.Ieee.Fits.{down_pos, round_is, round-fits}
use lib.Ieee.Exact.{round_exact}
use lib.Ieee.Order.{drop, kept}
use Rattle.floats.proofs.Grid.{OnGrid, in_format, on_grid, has_units}
use Rattle.floats.proofs.Monotone.{same_number}

module _ (f : Format) where
  -- ---- rounding does not turn on the sign
  units_neg : (q k : ℕ) → units f true q k ≡ neg (units f false q k)
  unfolding units odd neg
  units_neg q k = go (ltb (q * 2 ^ k) (2 ^ (low f + suc (emax f)))) q
    where
      go : (b : Bool) (q : ℕ)
          → cond b (odd (suc (prec f)) true q k (low f)) (inf true) ≡ neg (cond b (odd (suc (prec f)) false q k (low f)) (inf false))
      go true zero = refl
      go true (suc q) = refl
      go false q = refl

  pub round_neg : (num den : ℕ) → round f true num den ≡ neg (round f false num den)
  round_neg num den =
      let n = num * 2 ^ low f in
      round_is f true num den ∙ units_neg (kept (prec f) n den) (drop (prec f) n den) ∙ ap neg (sym (round_is f false num den))

  -- ---- a number of the format is a whole number of units
  pub record InUnits (m : ℕ) (e : ℤ) : Type 0 where
    pub count : ℕ
    pub value : m * up e * 2 ^ low f ≡ count * down e
    pub grid : OnGrid f count
    pub bound : count < 2 ^ (low f + suc (emax f))

  pub in_units : (m : ℕ) (e : ℤ) → T (fits f (fin false m e)) → InUnits m e
  in_units zero e t =
      record { count = 0; value = omega arith; grid = (0, 0, pow_pos (prec f), refl); bound = pow_pos (low f + suc (emax f)) }
  in_units (suc m) e t =
      let (y, v) = has_units f (fin false (suc m) e) t (lt→ltb 0 (suc m) (zero-lt-suc m)) in
      record {
        count = y;
        value = v.1;
        grid = on_grid f (fin false (suc m) e) y t v;
        bound = lt_of_mul-lt-mul_right (down e)
            (lt_of_le_of_lt (le_of_eq (sym v.1))
            (lt_of_lt_of_le (mul-lt-mul_of_pos_right (in_format f false m e t).2 (pow_pos (low f)))
            (le_of_eq (turn (2 ^ suc (emax f)) (down e) (2 ^ low f)
            ∙ ap (λ (z : ℕ). z * down e) (sym (pow-add 2 (low f) (suc (emax f))))))));
      }
    where
      turn : (p d l : ℕ) → p * d * l ≡ l * p * d
      turn p d l = omega arith

  pub unsigned_fits : (s : Bool) (m : ℕ) (e : ℤ) → T (fits f (fin s m e)) → T (fits f (fin false m e))
  unfolding fits
  unsigned_fits s zero e t = t
  unsigned_fits s (suc m) e t = t

  -- ---- it is rounded to itself
  itself : (m : ℕ) (e : ℤ) (num den : ℕ) → T (fits f (fin false m e)) → 0 < den → num * down e ≡ m * up e * den
      → round f false num den ≡ fin false m e
  itself m e num den t D h =
      let u = in_units m e t in
      let (q, j, Q, is) = u.grid in
      let same : num * 2 ^ low f ≡ u.count * den = across num den (down e) (m * up e) u.count (2 ^ low f) (down_pos e) h u.value in
      let v = round_exact f false num den q j D Q (subst (λ (z : ℕ). z < 2 ^ (low f + suc (emax f))) is u.bound)
      (same ∙ ap (λ (z : ℕ). z * den) is) in
      same_number f (round f false num den) (fin false m e) num den D (round-fits f false num den) t v (refl, sym h)
    where
      across : (n c d v w l : ℕ) → 0 < d → n * d ≡ v * c → v * l ≡ w * d → n * l ≡ w * c
      across n c d v w l D p q =
          eq_of_mul-eq-mul_right d D (n * l) (w * c)
          (let g = ap (λ (z : ℕ). z * l) p in let h = ap (λ (z : ℕ). z * c) q in omega arith)

  pub rounds_to_itself : (s : Bool) (m : ℕ) (e : ℤ) (num den : ℕ) → T (fits f (fin s m e)) → 0 < den → num * down e ≡ m * up e * den
      → round f s num den ≡ fin s m e
  unfolding neg
  rounds_to_itself false m e num den t D h = itself m e num den t D h
  rounds_to_itself true m e num den t D h = round_neg num den ∙ ap neg (itself m e num den (unsigned_fits true m e t) D h)

-- v / d with +0 taken off it, over one denominator, is v / d
pub less_nothing : (v d : ℕ) → (v * 1 - 0 * 1 * d) * d ≡ v * (d * 1)
less_nothing v d = let e : v * 1 - 0 * 1 * d ≡ v = omega arith in ap (λ (n : ℕ). n * d) e ∙ omega arith
