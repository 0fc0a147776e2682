-- +0 added to a number that is not −0 leaves it as it is, since a number is rounded to itself. And any number added to one that is not −0
-- gives one that is not −0: a sum that is exactly 0 is +0 there, and any other is at least one unit, the smallest value of the format, in
-- magnitude, so it is not rounded to 0.
use mathlib.Core.Path.{◌≡◌, refl, sym, ap, ◌∙◌}
use mathlib.Core.Bool.{Bool, true, false, not, ◌&&◌, cond, beq, true≢false}
use Prim.Native.Nat.{ℕ, zero, suc, ◌+◌, ◌-◌, ◌*◌, ◌^◌, ◌≤◌, ◌<◌}
use native.Mathlib.Nat.{le_of_eq, le_trans, lt_of_mul-lt-mul_right, mul-lt-mul_of_pos_right, mul-le-mul_right, mul-pos, zero-lt-suc}
use native.Mathlib.Nat.{zero-mul, one-mul, mul_comm}
use native.Mathlib.Omega.{arith}
use lib.Dec.{T, eqb, ltb, ltb→lt, lit<}
use lib.Pow.{pow_pos}
use lib.IntN.{pos}
use borrow.Author.Tests.{lt-ltb, le-ltb, ne_eqb}
use lib.Ieee.{Float, nan, inf, fin, Format, binary32, binary64, prec, emax, low, up, down, round, neg, sum, add, le, fits, of_bits}
use lib.Ieee.Fits.{up_pos, down_pos, add-fits}
use lib.Ieee.Bits.{of_bits-fits}
use lib.Ieee.Exact.{HasValue, round_exact}
use lib.Ieee.Order.{round_mono}
use Rattle.floats.specs.F64.{◌+f◌, zero64}
use Rattle.floats.proofs.Monotone.{unsigned, round_unsigned}
use Rattle.floats.proofs.AtMost.{AtMost, at_most_below}
use Rattle.floats.proofs.Itself.{round_neg, in_units, unsigned_fits, rounds_to_itself, less_nothing}

-- x is −0
abbrev pub minus_zero : Float → Bool
minus_zero nan = false
minus_zero (inf s) = false
minus_zero (fin s m e) = s && eqb m 0

-- what has its sign clear is not
unsigned_not_minus : (x : Float) → T (unsigned x) → T (not (minus_zero x))
unsigned_not_minus nan h = tt
unsigned_not_minus (inf s) h = tt
unsigned_not_minus (fin true m e) h = absurd h
unsigned_not_minus (fin false m e) h = tt

module _ (f : Format) where
  -- ---- a number and +0
  add_zero_is : (x : Float) → T (fits f x) → T (not (minus_zero x)) → add f x (fin false zero (pos zero)) ≡ x
  unfolding add sum
  add_zero_is nan t h = refl
  add_zero_is (inf s) t h = refl
  add_zero_is (fin false m e) t h =
      rounds_to_itself f false m e (m * up e * 1 + 0 * 1 * down e) (down e * 1) t (mul-pos (down_pos e) (zero-lt-suc 0)) (omega arith)
  add_zero_is (fin true zero e) t h = absurd h
  add_zero_is (fin true (suc m) e) t h =
      let some = mul-pos (zero-lt-suc m) (up_pos e) in
      let a = suc m * up e * 1 in
      let b = 0 * 1 * down e in
      let over : b < a = omega arith in
      rw (le-ltb a b (omega arith), lt-ltb b a over)
      (rounds_to_itself f true (suc m) e (a - b) (down e * 1) t (mul-pos (down_pos e) (zero-lt-suc 0))
      (less_nothing (suc m * up e) (down e)))

  -- ---- one unit or more is not rounded to 0
  one_unit : HasValue (round f false 1 (2 ^ low f)) false 1 (2 ^ low f)
  one_unit = round_exact f false 1 (2 ^ low f) 1 0 (pow_pos (low f)) (small f) (fine f) refl
    where
      small : (f : Format) → 1 < 2 ^ prec f
      small binary32 = lit< tt
      small binary64 = lit< tt

      fine : (f : Format) → 1 * 2 ^ 0 < 2 ^ (low f + suc (emax f))
      fine binary32 = lit< tt
      fine binary64 = lit< tt

  over_unit : (x y : Float) → HasValue x false 1 (2 ^ low f) → T (unsigned x) → T (le x y) → T (not (minus_zero (neg y)))
  unfolding neg
  over_unit x nan v u h = tt
  over_unit x (inf s) v u h = tt
  over_unit x (fin true m e) v u h = tt
  over_unit x (fin false (suc m) e) v u h = rw (ne_eqb (suc m) 0 (λ z. omega arith)) tt
  over_unit x (fin false zero e) v u h = absurd (none x v (at_most_below x (fin false zero e) 0 1 u (refl, omega arith) h))
    where
      none : (x : Float) → HasValue x false 1 (2 ^ low f) → AtMost 0 1 x → ⊥
      none nan v b = v
      none (inf s) v b = v
      none (fin s m e) v b = go (m * up e) (2 ^ low f) (down e) (down_pos e) v.1 b
        where
          go : (x u d : ℕ) → 0 < d → x * u ≡ 1 * d → x * 1 ≤ 0 * d → ⊥
          go x u d D v b =
              let z : x ≡ 0 = omega arith in
              let w : x * u ≡ 0 = ap (λ (y : ℕ). y * u) z ∙ zero-mul u in
              omega arith

  clear_not_minus : (num den : ℕ) → T (not (minus_zero (round f false num den)))
  clear_not_minus num den = unsigned_not_minus (round f false num den) (round_unsigned f num den)

  set_not_minus : (num den : ℕ) → 0 < den → den ≤ num * 2 ^ low f → T (not (minus_zero (round f true num den)))
  set_not_minus num den D h =
      rw (round_neg f num den)
      (over_unit (round f false 1 (2 ^ low f)) (round f false num den) one_unit (round_unsigned f 1 (2 ^ low f))
      (round_mono f 1 (2 ^ low f) num den (pow_pos (low f)) D (le_trans (le_of_eq (one-mul den)) h)))

  -- ---- so a sum of a / c, not −0, and b / c is not −0; they are A and B units, of 1 / l each
  module _ (a b c l A B : ℕ) (L : 0 < l) (p : a * l ≡ A * c) (q : b * l ≡ B * c) where
    one_apart : a < b → a * l + c ≤ b * l
    one_apart h =
        let g : a * l < b * l = mul-lt-mul_of_pos_right h L in
        let k : A < B = lt_of_mul-lt-mul_right c (omega arith) in
        let m : suc A * c ≤ B * c = mul-le-mul_right c k in
        omega arith

    less_by_one : a < b → c ≤ (b - a) * l
    less_by_one h =
        let x = b - a in
        let e : b ≡ a + x = omega arith in
        let w : b * l ≡ (a + x) * l = ap (λ (z : ℕ). z * l) e in
        let g = one_apart h in
        omega arith

  sum_not_minus : (s t : Bool) (a b c A B : ℕ) → 0 < c → a * 2 ^ low f ≡ A * c → b * 2 ^ low f ≡ B * c → (s ≡ true → 0 < a)
      → T (not (minus_zero (sum f s a t b c)))
  unfolding sum
  sum_not_minus s t a b c A B C p q some = go s t (ltb a b) (ltb b a) (ltb→lt a b) (ltb→lt b a) some
    where
      l : ℕ
      l = 2 ^ low f

      L : 0 < l
      L = pow_pos (low f)

      nothing_of : (l c : ℕ) → 0 * l ≡ 0 * c
      nothing_of l c = omega arith

      with_more : (l : ℕ) → 0 * l + c ≤ a * l → c ≤ (a + b) * l
      with_more l h = omega arith

      go : (s t less more : Bool) → (T less → a < b) → (T more → b < a) → (s ≡ true → 0 < a)
          → T (not (minus_zero
          (cond (beq s t) (round f s (a + b) c) (cond less (round f t (b - a) c) (round f (s && more) (a - b) c)))))
      go true true less more h k some =
          set_not_minus (a + b) c C (with_more l (one_apart 0 a c l 0 A L (nothing_of l c) p (some refl)))
      go false false less more h k some = clear_not_minus (a + b) c
      go false true true more h k some = set_not_minus (b - a) c C (less_by_one a b c l A B L p q (h tt))
      go false true false more h k some = clear_not_minus (a - b) c
      go true false true more h k some = clear_not_minus (b - a) c
      go true false false true h k some = set_not_minus (a - b) c C (less_by_one b a c l B A L q p (k tt))
      go true false false false h k some = clear_not_minus (a - b) c

  pub add_not_minus : (x y : Float) → T (fits f x) → T (fits f y) → T (not (minus_zero x)) → T (not (minus_zero (add f x y)))
  unfolding add
  add_not_minus nan y t u h = tt
  add_not_minus (inf s) nan t u h = tt
  add_not_minus (inf s) (inf r) t u h = either (beq s r)
    where
      either : (b : Bool) → T (not (minus_zero (cond b (inf s) nan)))
      either true = tt
      either false = tt
  add_not_minus (inf s) (fin r n d) t u h = tt
  add_not_minus (fin s m e) nan t u h = tt
  add_not_minus (fin s m e) (inf r) t u h = tt
  add_not_minus (fin s m e) (fin r n d) t u h =
      let x = in_units f m e (unsigned_fits f s m e t) in
      let y = in_units f n d (unsigned_fits f r n d u) in
      sum_not_minus s r (m * up e * down d) (n * up d * down e) (down e * down d) x.count y.count (mul-pos (down_pos e) (down_pos d))
      (wider (m * up e) (down e) (down d) x.count (2 ^ low f) x.value)
      (wider (n * up d) (down d) (down e) y.count (2 ^ low f) y.value ∙ ap (λ (z : ℕ). y.count * z) (mul_comm (down d) (down e)))
      (some s m h)
    where
      wider : (v c d w l : ℕ) → v * l ≡ w * c → v * d * l ≡ w * (c * d)
      wider v c d w l h = let g = ap (λ (z : ℕ). z * d) h in omega arith

      some : (s : Bool) (m : ℕ) → T (not (s && eqb m 0)) → s ≡ true → 0 < m * up e * down d
      some true zero h e = absurd h
      some true (suc m) h g = mul-pos (mul-pos (zero-lt-suc m) (up_pos e)) (down_pos d)
      some false m h e = absurd (true≢false (sym e))

-- ---- an f64 that is not −0: +0 added to it changes nothing, and with any f64 added it is one again
pub record NotMinusZero (v : Float) : Type 0 where
  pub an_f64 : T (fits binary64 v)
  pub not_minus : T (not (minus_zero v))

pub zero_not_minus : NotMinusZero zero64
unfolding of_bits
zero_not_minus = record { an_f64 = of_bits-fits binary64 0; not_minus = tt }

pub plus_zero : (v : Float) → NotMinusZero v → v +f zero64 ≡ v
unfolding of_bits
plus_zero v h = add_zero_is binary64 v h.an_f64 h.not_minus

pub sum_again : (v w : Float) → T (fits binary64 w) → NotMinusZero v → NotMinusZero (v +f w)
sum_again v w t h = record { an_f64 = add-fits binary64 v w; not_minus = add_not_minus binary64 v w h.an_f64 t h.not_minus }
