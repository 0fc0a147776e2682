-- The whole number of an f64 is its value times 2 ^ 1074, sign and all, with nothing cut off.
use mathlib.Core.Path.{◌≡◌, sym, ◌∙◌, ap}
use mathlib.Core.Bool.{Bool, true, false}
use Prim.Native.Nat.{ℕ, zero, suc, ◌*◌, ◌^◌}
use native.Mathlib.Nat.{zero-mul}
use lib.Dec.{T}
use lib.IntN.{pos, ◌*ℤ◌, zero-*ℤ, pos-*ℤ-pos, negsuc-*ℤ-pos}
use lib.Ieee.{Float, nan, inf, fin, Format, binary64, low, fits}
use lib.Ieee.Exact.{HasValue}
use Rattle.exact.specs.Scaled.{whole_units, signed, exact_in, exact_of}
use Rattle.exact.proofs.Scaled.{size_of, exact_size}
use Rattle.demand3.specs.Demand3.{Exact}

-- a product has the sign of its factor
pub signed_times : (s : Bool) (n c : ℕ) → signed s n *ℤ pos c ≡ signed s (n * c)
signed_times true zero c = zero-*ℤ (pos c) ∙ ap (signed true) (sym (zero-mul c))
signed_times true (suc n) c = negsuc-*ℤ-pos n c
signed_times false n c = pos-*ℤ-pos n c

-- said of every format, so that no power of 2 is worked out
module _ (f : Format) where
  value : (x : Float) (s : Bool) (a c : ℕ) → T (fits f x) → HasValue x s a c → exact_in f x *ℤ pos c ≡ signed s (a * 2 ^ low f)
  unfolding exact_in
  value nan s a c t h = absurd h
  value (inf b) s a c t h = absurd h
  value (fin b m e) s a c t h =
      let n : whole_units f m e * c ≡ a * 2 ^ low f =
      sym (ap (λ k. k * c) (size_of b (whole_units f m e))) ∙ exact_size f (fin b m e) s a c t h in
      signed_times b (whole_units f m e) c ∙ ap (signed b) n ∙ ap (λ r. signed r (a * 2 ^ low f)) h.0

pub exact : Exact
unfolding exact_of
exact = value binary64
