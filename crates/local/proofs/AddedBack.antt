-- x less a whole number o, rounded, and o added back: the sum is exact. Where rounding the difference drops k digits, the sum is a multiple
-- of 2 ^ k, and it is x itself or has at most `prec` digits above these k. So the sum is x exactly where nothing is lost.
use Rattle.std.proofs.Common.{◌≡◌, ℕ, suc, ◌+◌, ◌-◌, ◌*◌, ◌^◌, ◌<◌, ◌≤◌, Bool, true, false, T, eqb, [], ◌∷◌, ℤ, pos, ◌+ℤ◌, ◌-ℤ◌, neg_ℤ}
use Rattle.std.proofs.Common.{nat_abs, sym, refl, ap, ◌∙◌, subst, le_of_eq, lt_of_lt_of_le, lt_of_le_of_lt, mul_assoc}
use Rattle.std.proofs.Common.{lt_of_mul-lt-mul_right, arith, eqb→eq, pow_mono, pow-add, shl_lt}
use native.Mathlib.Nat.{two-pow-succ}
use native.Mathlib.Decide.{dec_le}
use lib.Pow.{pow-lt}
use lib.IntN.{ -ℤ-+ℤ_cancel}
use lib.Ieee.{Float, Format, prec, emax, low, size, neg, add, sub, eq, fits}
use lib.Ieee.Digits.{size-lt, size-le}
use lib.Ieee.Fits.{two, neg-fits, add-fits, sub-fits, eq→eqb}
use Rattle.exact.specs.Scaled.{exact_in}
use Rattle.exact.proofs.Ring.{no_difference}
use Rattle.exact.proofs.Poly.{var, con, ◌⊕◌, ⊖, ring}
use Rattle.floats.proofs.Grid.{OnGrid}
use Rattle.floats.proofs.Within.{Within, within_neg, within_add, within_sub, within_finite, within_to}
use Rattle.local.proofs.Integers.{size_sum, size_zero, Multiple, multiple_sum, multiple_neg}
use Rattle.local.proofs.InUnits.{exact_neg, size_on_grid, Rounding, add_in_units, eq_units}
use Rattle.local.proofs.Rounded.{Near, near, size_both, sum_exact}

-- ---- multiples of a power of two
-- below 2 ^ (p + k) it has at most p digits above the lowest k
few_digits : (p k c n : ℕ) → n ≡ c * 2 ^ k → n < 2 ^ (p + k) → c < 2 ^ p
few_digits p k c n e h =
    lt_of_mul-lt-mul_right (2 ^ k) (lt_of_le_of_lt (le_of_eq (sym e)) (lt_of_lt_of_le h (le_of_eq (pow-add 2 p k))))

-- a multiple of 2 ^ j is one of 2 ^ k, for a k up to j
multiple_of_power : (z : ℤ) (c j k : ℕ) → k ≤ j → nat_abs z ≡ c * 2 ^ j → Multiple (2 ^ k) z
multiple_of_power z c j k h e =
    let i : j ≡ (j - k) + k = omega arith in (
      c * 2 ^ (j - k),
      e ∙ ap (λ (v : ℕ). c * 2 ^ v) i ∙ ap (λ (v : ℕ). c * v) (pow-add 2 (j - k) k) ∙ sym (mul_assoc c (2 ^ (j - k)) (2 ^ k)),
    )

-- ---- x less o, both of at most 2 ^ a
module _ (f : Format) (x o : Float) (a : ℕ) (few : a + 2 ≤ prec f) (fine : a + 2 ≤ emax f) (hx : T (fits f x)) (ho : T (fits f o))
    (wx : Within a x) (wo : Within a o) where
  -- the exact difference, and the rounded one
  abbrev exactly : ℤ
  exactly = exact_in f x -ℤ exact_in f o

  abbrev rounded_to : ℤ
  rounded_to = exact_in f (sub f x o)

  -- the digits that rounding drops
  abbrev drops : ℕ
  drops = size (nat_abs exactly) - prec f

  negated : nat_abs (exact_in f x +ℤ exact_in f (neg o)) ≡ nat_abs exactly
  negated = ap (λ (v : ℤ). nat_abs (exact_in f x +ℤ v)) (exact_neg f o)

  size_difference : nat_abs exactly ≤ 2 ^ (a + 1 + low f)
  size_difference =
      subst (λ (v : ℕ). v ≤ 2 ^ (a + 1 + low f)) negated (size_both f x (neg o) a hx (neg-fits f o ho) wx (within_neg o a wo))

  -- a difference of at most `prec` digits is exact
  pub difference_exact : OnGrid f (nat_abs exactly) → rounded_to ≡ exactly
  unfolding sub
  difference_exact g =
      let l : a + 1 ≤ emax f = omega arith in
      sum_exact f x (neg o) a l hx (neg-fits f o ho) wx (within_neg o a wo) (subst (OnGrid f) (sym negated) g)
      ∙ ap (λ (v : ℤ). exact_in f x +ℤ v) (exact_neg f o)

  difference_near : Near f drops (sub f x o) exactly
  unfolding sub
  difference_near =
      let l : a + 1 + low f < low f + emax f = omega arith in
      near f (sub f x o) exactly
      (subst (Rounding f (sub f x o)) (ap (λ (v : ℤ). exact_in f x +ℤ v) (exact_neg f o))
      (add_in_units f x (neg o) hx (neg-fits f o ho) (within_finite x a wx) (within_finite (neg o) a (within_neg o a wo))))
      (lt_of_le_of_lt size_difference (pow-lt l))

  -- no digit of a whole number is dropped
  drops_le : drops ≤ low f
  drops_le =
      let l : a + 1 + low f < a + 2 + low f = omega arith in
      let n = nat_abs exactly in
      let z : size n ≤ a + 2 + low f = size-le n (a + 2 + low f) (lt_of_le_of_lt size_difference (pow-lt l)) in
      spare (size (nat_abs exactly)) (prec f) (low f) few z
    where
      spare : (z p l : ℕ) → a + 2 ≤ p → z ≤ a + 2 + l → z - p ≤ l
      spare z p l g h = omega arith

  -- The sum of the rounded difference and o has at most `prec` digits. Where x has no digit below 2 ^ drops, neither has the exact
  -- difference, which is not rounded then, and the sum is x. Elsewhere x is so small that the sum stays below 2 ^ (prec + drops).
  module _ (c : ℕ) (whole : nat_abs (exact_in f o) ≡ c * 2 ^ low f) where
    o_multiple : Multiple (2 ^ drops) (exact_in f o)
    o_multiple = multiple_of_power (exact_in f o) c (low f) drops drops_le whole

    nothing_below : Multiple (2 ^ drops) (exact_in f x) → OnGrid f (nat_abs (rounded_to +ℤ exact_in f o))
    nothing_below p =
        let (n, e) =
        multiple_sum (2 ^ drops) (exact_in f x) (neg_ℤ (exact_in f o)) p (multiple_neg (2 ^ drops) (exact_in f o) o_multiple) in
        let l : size (nat_abs exactly) ≤ prec f + drops = cover (size (nat_abs exactly)) (prec f) in
        let n-lt = few_digits (prec f) drops n (nat_abs exactly) e (lt_of_lt_of_le (size-lt (nat_abs exactly)) (pow_mono l)) in
        let back : rounded_to +ℤ exact_in f o ≡ exact_in f x =
        ap (λ (v : ℤ). v +ℤ exact_in f o) (difference_exact (n, drops, n-lt, e)) ∙ -ℤ-+ℤ_cancel (exact_in f x) (exact_in f o) in
        subst (λ (v : ℤ). OnGrid f (nat_abs v)) (sym back) (size_on_grid f x hx)
      where
        cover : (z p : ℕ) → z ≤ p + (z - p)
        cover z p = omega arith

    small : (m j : ℕ) → m < 2 ^ prec f → nat_abs (exact_in f x) ≡ m * 2 ^ j → j < drops → OnGrid f (nat_abs (rounded_to +ℤ exact_in f o))
    small m j M e h =
        let k = drops in
        let p = prec f in
        let (r, is) = multiple_sum (2 ^ k) rounded_to (exact_in f o) difference_near.multiple o_multiple in
        let l : p + j ≤ p - 1 + k = later p j k (two f) h in
        let size-x : nat_abs (exact_in f x) < 2 ^ (p - 1 + k) =
        subst (λ (v : ℕ). v < 2 ^ (p - 1 + k)) (sym e) (lt_of_lt_of_le (shl_lt p j M) (pow_mono l)) in
        let about = subst (λ (v : ℤ). nat_abs v ≤ nat_abs (rounded_to -ℤ exactly) + nat_abs (exact_in f x))
        (regroup rounded_to (exact_in f x) (exact_in f o)) (size_sum (rounded_to -ℤ exactly) (exact_in f x)) in
        let step = pow_mono (upto p k) in
        let double : 2 ^ (p - 1 + k) + 2 ^ (p - 1 + k) ≡ 2 ^ (p + k) =
        sym (ap (λ (v : ℕ). 2 ^ v) (one_more p k (two f)) ∙ two-pow-succ (p - 1 + k)) in
        let under = total _ _ _ _ _ _ about difference_near.close size-x step double in
        (r, k, few_digits p k r (nat_abs (rounded_to +ℤ exact_in f o)) is under, is)
      where
        later : (p j k : ℕ) → 2 ≤ p → j < k → p + j ≤ p - 1 + k
        later p j k g h = omega arith

        upto : (p k : ℕ) → k ≤ p - 1 + k
        upto p k = omega arith

        one_more : (p k : ℕ) → 2 ≤ p → p + k ≡ suc (p - 1 + k)
        one_more p k h = omega arith

        total : (n d x k h t : ℕ) → n ≤ d + x → d ≤ k → x < h → k ≤ h → h + h ≡ t → n < t
        total n d x k h t a b c e g = omega arith

        regroup : (d x o : ℤ) → (d -ℤ (x -ℤ o)) +ℤ x ≡ d +ℤ o
        regroup d x o = ring (d ∷ x ∷ o ∷ []) ((var 0 ⊕ ⊖ (var 1 ⊕ ⊖ (var 2))) ⊕ var 1) (var 0 ⊕ var 2) tt

    back_on_grid : OnGrid f (nat_abs (rounded_to +ℤ exact_in f o))
    back_on_grid =
        let (m, j, M, e) = size_on_grid f x hx in
        go m j M e (dec_le drops j)
      where
        go : (m j : ℕ) → m < 2 ^ prec f → nat_abs (exact_in f x) ≡ m * 2 ^ j → Dec (drops ≤ j)
            → OnGrid f (nat_abs (rounded_to +ℤ exact_in f o))
        go m j M e (yes h) = nothing_below (multiple_of_power (exact_in f x) m j drops h e)
        go m j M e (no h) = let l : j < drops = omega arith in small m j M e l

    back_exact : exact_in f (add f (sub f x o) o) ≡ rounded_to +ℤ exact_in f o
    back_exact =
        let n : a + 1 + 1 ≤ emax f = omega arith in
        let l : a + 1 ≤ emax f = omega arith in
        sum_exact f (sub f x o) o (a + 1) n (sub-fits f x o) ho (within_sub f x o a l wx wo) (within_to o a (a + 1) (omega arith) wo)
        back_on_grid

    -- so o added back gives x again exactly where nothing is lost
    pub back_tells : eq (add f (sub f x o) o) x ≡ eqb (nat_abs (exactly -ℤ rounded_to)) 0
    back_tells =
        let n : a + 1 + 1 ≤ emax f = omega arith in
        let l : a + 1 ≤ emax f = omega arith in
        let sum-within = within_add f (sub f x o) o (a + 1) n (within_sub f x o a l wx wo) (within_to o a (a + 1) (omega arith) wo) in
        let test = eq_units f (add f (sub f x o) o) x (add-fits f (sub f x o) o) hx
        (within_finite (add f (sub f x o) o) (a + 1 + 1) sum-within) (within_finite x a wx) in
        alike (eq (add f (sub f x o) o) x) (eqb (nat_abs (exactly -ℤ rounded_to)) 0)
        (λ t. eq→eqb (ap nat_abs (less (exact_in f x) (exact_in f o) rounded_to (sym back_exact ∙ test.0 t))))
        (λ t. test.1 (back_exact ∙ again (exact_in f x) (exact_in f o) rounded_to (eqb→eq _ 0 t)))
      where
        alike : (p q : Bool) → (T p → T q) → (T q → T p) → p ≡ q
        alike true true h k = refl
        alike true false h k = absurd (h tt)
        alike false true h k = absurd (k tt)
        alike false false h k = refl

        less : (x o d : ℤ) → d +ℤ o ≡ x → (x -ℤ o) -ℤ d ≡ pos 0
        less x o d e = subst (λ (v : ℤ). (v -ℤ o) -ℤ d ≡ pos 0) e
            (ring (d ∷ o ∷ []) (((var 0 ⊕ var 1) ⊕ ⊖ (var 1)) ⊕ ⊖ (var 0)) (con (pos 0)) tt)

        again : (x o d : ℤ) → nat_abs ((x -ℤ o) -ℤ d) ≡ 0 → d +ℤ o ≡ x
        again x o d e =
            ap (λ (v : ℤ). v +ℤ o) (sym (no_difference (x -ℤ o) d (size_zero ((x -ℤ o) -ℤ d) e))) ∙ -ℤ-+ℤ_cancel x o
