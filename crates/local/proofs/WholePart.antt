-- The whole part of a number, towards zero, is the quotient of its numerator and its denominator, with its sign. Up to 2 ^ prec that is a
-- number of the format, exactly, and the fraction that is dropped is less than 1.
use Rattle.std.proofs.Common.{◌≡◌, ℕ, zero, suc, ◌+◌, ◌-◌, ◌*◌, ◌/◌, ◌^◌, ◌<◌, ◌≤◌, min, Bool, true, false, ◌&&◌, ◌||◌, T, eqb, ltb, ℤ}
use Rattle.std.proofs.Common.{pos, ◌-ℤ◌, neg_ℤ, nat_abs, sym, ap, ◌∙◌, true≢false, le_trans, le_of_eq, lt_of_le_of_lt, le_of_lt}
use Rattle.std.proofs.Common.{mul-le-mul_right, lt_of_mul-lt-mul_right, mul-lt-mul_of_pos_right, mul-pos, zero-mul, div-mul-le_self}
use Rattle.std.proofs.Common.{le_of_mul-le-mul_right, arith, pow_pos, pow_mono, le-ltb, lt-ltb, eq-eqb}
use native.Mathlib.Nat.{lt-div-mul-add, div-eq_of_lt}
use native.Mathlib.Decide.{dec_le}
use lib.Pow.{pow-lt}
use lib.Ieee.{Float, nan, inf, fin, Format, prec, low, up, down, round, neg, lt, le, of_int, to_signed, fits}
use lib.Ieee.Fits.{down_pos}
use lib.Ieee.Exact.{HasValue}
use lib.Ieee.Back.{round_whole}
use Rattle.exact.specs.Scaled.{whole_units, signed, exact_in}
use Rattle.exact.proofs.Scaled.{units_exact, size_of}
use Rattle.floats.proofs.Within.{Within}
use Rattle.local.proofs.Integers.{size_minus}
use Rattle.local.proofs.InUnits.{exact_of_lem}

-- ---- the whole part of a magnitude
abbrev pub whole_part : ℕ → ℤ → ℕ
whole_part m e = m * up e / down e

pub part_within : (s : Bool) (m : ℕ) (e : ℤ) (a : ℕ) → Within a (fin s m e) → whole_part m e ≤ 2 ^ a
part_within s m e a h =
    le_of_mul-le-mul_right (le_trans (div-mul-le_self (m * up e) (down e)) h) (down_pos e)

-- towards zero, and not brought to an end of the range
pub part_is : (h : ℕ) (s : Bool) (m : ℕ) (e : ℤ) → whole_part m e < 2 ^ h → to_signed h (fin s m e) ≡ signed s (whole_part m e)
unfolding to_signed
part_is h true m e l = ap (λ (n : ℕ). neg_ℤ (pos n)) (uncapped (whole_part m e) (2 ^ h) l)
  where
    uncapped : (c p : ℕ) → c < p → min c p ≡ c
    uncapped c p l = omega arith
part_is h false m e l = ap pos (uncapped (whole_part m e) (2 ^ h) l)
  where
    uncapped : (c p : ℕ) → c < p → min c (p - 1) ≡ c
    uncapped c p l = omega arith

-- ---- a whole number of at most `prec` digits, as a float
module _ (f : Format) where
  in_units : (x : Float) (s : Bool) (c : ℕ) → HasValue x s c 1 → HasValue x s (c * 2 ^ low f) (2 ^ low f)
  in_units nan s c v = v
  in_units (inf t) s c v = v
  in_units (fin t m e) s c v = (v.0, times (m * up e) c (down e) (2 ^ low f) v.1)
    where
      times : (v c d l : ℕ) → v * 1 ≡ c * d → v * l ≡ c * l * d
      times v c d l e = let g = ap (λ (z : ℕ). z * l) e in omega arith

  pub whole_exact : (s : Bool) (c : ℕ) → c ≤ 2 ^ prec f → exact_in f (of_int f (signed s c)) ≡ signed s (c * 2 ^ low f)
  unfolding of_int
  whole_exact false c h =
      exact_of_lem f (round f false c 1) false (c * 2 ^ low f) (in_units (round f false c 1) false c (round_whole f false c h))
  whole_exact true zero h =
      exact_of_lem f (round f false 0 1) false (0 * 2 ^ low f) (in_units (round f false 0 1) false 0 (round_whole f false 0 h))
      ∙ ap (signed false) (zero-mul (2 ^ low f)) ∙ sym (ap (signed true) (zero-mul (2 ^ low f)))
  whole_exact true (suc c) h =
      exact_of_lem f (round f true (suc c) 1) true (suc c * 2 ^ low f)
      (in_units (round f true (suc c) 1) true (suc c) (round_whole f true (suc c) h))

  value_within : (x : Float) (s : Bool) (c a : ℕ) → HasValue x s c 1 → c ≤ 2 ^ a → Within a x
  value_within nan s c a v h = v
  value_within (inf t) s c a v h = v
  value_within (fin t m e) s c a v h = le_trans (le_of_eq (one (m * up e) (c * down e) v.1)) (mul-le-mul_right (down e) h)
    where
      one : (v w : ℕ) → v * 1 ≡ w → v ≡ w
      one v w e = omega arith

  pub whole_within : (s : Bool) (c a : ℕ) → c ≤ 2 ^ prec f → c ≤ 2 ^ a → Within a (of_int f (signed s c))
  unfolding of_int
  whole_within false c a h k = value_within (round f false c 1) false c a (round_whole f false c h) k
  whole_within true zero a h k = value_within (round f false 0 1) false 0 a (round_whole f false 0 h) k
  whole_within true (suc c) a h k = value_within (round f true (suc c) 1) true (suc c) a (round_whole f true (suc c) h) k

  -- ---- the fraction is less than 1
  pub part_near : (s : Bool) (m : ℕ) (e : ℤ) → T (fits f (fin s m e))
      → nat_abs (exact_in f (fin s m e) -ℤ signed s (whole_part m e * 2 ^ low f)) < 2 ^ low f
  unfolding exact_in
  part_near s m e t =
      let l = 2 ^ low f in
      let w = whole_units f m e in
      let c = whole_part m e in
      let is = units_exact f s m e t in
      let least : c * l ≤ w =
      le_of_mul-le-mul_right (low_end (m * up e) c (down e) w l is (div-mul-le_self (m * up e) (down e))) (down_pos e) in
      let most : w < c * l + l =
      lt_of_mul-lt-mul_right (down e) (high_end (m * up e) c (down e) w l is (pow_pos (low f)) (lt-div-mul-add (down_pos e))) in
      below_all (nat_abs (signed s w -ℤ signed s (c * l))) l (pow_pos (low f))
      (size_minus s w (c * l) (l - 1) (upper w (c * l) l most) (lower w (c * l) l least))
    where
      low_end : (v c d w l : ℕ) → w * d ≡ v * l → c * d ≤ v → c * l * d ≤ w * d
      low_end v c d w l e h = let g = mul-le-mul_right l h in omega arith

      high_end : (v c d w l : ℕ) → w * d ≡ v * l → 0 < l → v < c * d + d → w * d < (c * l + l) * d
      high_end v c d w l e L h = let g = mul-lt-mul_of_pos_right h L in omega arith

      upper : (w c l : ℕ) → w < c + l → w ≤ c + (l - 1)
      upper w c l h = omega arith

      lower : (w c l : ℕ) → c ≤ w → c ≤ w + (l - 1)
      lower w c l h = omega arith

      below_all : (n l : ℕ) → 0 < l → n ≤ l - 1 → n < l
      below_all n l L h = omega arith

  -- and all of a number that is less than 1
  pub part_small : (s : Bool) (m : ℕ) (e : ℤ) → T (fits f (fin s m e)) → nat_abs (exact_in f (fin s m e)) < 2 ^ low f → whole_part m e ≡ 0
  unfolding exact_in
  part_small s m e t h =
      let w = whole_units f m e in
      let g : w < 2 ^ low f = lt_of_le_of_lt (le_of_eq (sym (size_of s w))) h in
      div-eq_of_lt
      (lt_of_mul-lt-mul_right (2 ^ low f)
      (under (m * up e) (down e) w (2 ^ low f) (units_exact f s m e t) (mul-lt-mul_of_pos_right g (down_pos e))))
    where
      under : (v d w l : ℕ) → w * d ≡ v * l → w * d < l * d → v * l < d * l
      under v d w l e h = omega arith

-- ---- a number of at most 2 ^ a against such a bound
less_or_same : (p q : ℕ) → p ≤ q → (ltb p q || (eqb p q && true)) ≡ true
less_or_same p q h = go (dec_le q p)
  where
    go : Dec (q ≤ p) → (ltb p q || (eqb p q && true)) ≡ true
    go (yes l) = rw (le-ltb p q l, eq-eqb p q (omega arith))
    go (no l) = rw (lt-ltb p q (omega arith))

same_or_less : (p q : ℕ) → p ≤ q → (ltb p q || (eqb q p && true)) ≡ true
same_or_less p q h = go (dec_le q p)
  where
    go : Dec (q ≤ p) → (ltb p q || (eqb q p && true)) ≡ true
    go (yes l) = rw (le-ltb p q l, eq-eqb q p (omega arith))
    go (no l) = rw (lt-ltb p q (omega arith))

module _ (s : Bool) (m : ℕ) (e : ℤ) (n : ℕ) (d : ℤ) (a : ℕ) (v : n * up d * 1 ≡ 2 ^ a * down d) (h : Within a (fin s m e)) where
  abbrev p : ℕ
  p = m * up e * down d

  abbrev q : ℕ
  q = n * up d * down e

  cross_le : p ≤ q
  cross_le = go (m * up e) (down e) (n * up d) (down d) (2 ^ a) h v
    where
      go : (x de y dd k : ℕ) → x ≤ k * de → y * 1 ≡ k * dd → x * dd ≤ y * de
      go x de y dd k h v = let g = mul-le-mul_right dd h in let w = ap (λ (z : ℕ). z * de) v in omega arith

  bound_pos : 0 < q
  bound_pos = mul-pos (go (n * up d) (2 ^ a * down d) v (mul-pos (pow_pos a) (down_pos d))) (down_pos e)
    where
      go : (y w : ℕ) → y * 1 ≡ w → 0 < w → 0 < y
      go y w e h = omega arith

pub within_top : (x top : Float) (a : ℕ) → HasValue top false (2 ^ a) 1 → Within a x → le x top ≡ true
unfolding le
within_top nan top a v h = absurd h
within_top (inf s) top a v h = absurd h
within_top (fin s m e) nan a v h = absurd v
within_top (fin s m e) (inf t) a v h = absurd v
within_top (fin s m e) (fin true n d) a v h = absurd (true≢false v.0)
within_top (fin false m e) (fin false n d) a v h = less_or_same _ _ (cross_le false m e n d a v.1 h)
within_top (fin true m e) (fin false n d) a v h =
    let g = bound_pos true m e n d a v.1 h in rw (lt-ltb 0 (m * up e * down d + n * up d * down e) (omega arith))

pub within_bottom : (x top : Float) (a : ℕ) → HasValue top false (2 ^ a) 1 → Within a x → le (neg top) x ≡ true
unfolding le neg
within_bottom nan top a v h = absurd h
within_bottom (inf s) top a v h = absurd h
within_bottom (fin s m e) nan a v h = absurd v
within_bottom (fin s m e) (inf t) a v h = absurd v
within_bottom (fin s m e) (fin true n d) a v h = absurd (true≢false v.0)
within_bottom (fin true m e) (fin false n d) a v h = same_or_less _ _ (cross_le true m e n d a v.1 h)
within_bottom (fin false m e) (fin false n d) a v h =
    let g = bound_pos false m e n d a v.1 h in rw (lt-ltb 0 (n * up d * down e + m * up e * down d) (omega arith))

pub within_under : (x top : Float) (a b : ℕ) → a < b → HasValue top false (2 ^ b) 1 → Within a x → lt x top ≡ true
unfolding lt
within_under nan top a b l v h = absurd h
within_under (inf s) top a b l v h = absurd h
within_under (fin s m e) nan a b l v h = absurd v
within_under (fin s m e) (inf t) a b l v h = absurd v
within_under (fin s m e) (fin true n d) a b l v h = absurd (true≢false v.0)
within_under (fin false m e) (fin false n d) a b l v h =
    lt-ltb _ _ (go (m * up e) (down e) (n * up d) (down d) (2 ^ a) (2 ^ b) (pow-lt l) (down_pos e) (down_pos d) h v.1)
  where
    go : (x de y dd k l : ℕ) → k < l → 0 < de → 0 < dd → x ≤ k * de → y * 1 ≡ l * dd → x * dd < y * de
    go x de y dd k l g D E h v =
        let i = mul-le-mul_right dd h in
        let j = mul-lt-mul_of_pos_right g (mul-pos D E) in
        let w = ap (λ (z : ℕ). z * de) v in
        omega arith
within_under (fin true m e) (fin false n d) a b l v h =
    let more : Within b (fin true m e) = le_trans h (mul-le-mul_right (down e) (pow_mono (le_of_lt l))) in
    let g = bound_pos true m e n d b v.1 more in
    lt-ltb 0 (m * up e * down d + n * up d * down e) (omega arith)
