-- What `round_root` makes of the exact root of n units squared: no value of the format is nearer to it, where one is as near the last digit
-- of the result is 0, and +infinity stands for a result that is beyond the format.
-- The digits kept or one more are taken, by the side of their mid-point on which the root lies, and no value lies between the two.
use mathlib.Core.Path.{◌≡◌, refl, sym, ap, ◌∙◌, subst}
use mathlib.Core.Logic.{◌≢◌, ◌⊎◌, inl, inr, ⊎_elim}
use Prim.Native.Nat.{ℕ, suc, ◌+◌, ◌-◌, ◌*◌, ◌/◌, ◌%◌, ◌^◌, ◌≤◌, ◌<◌, compare, Ordering}
use native.Mathlib.Nat.{le_trans, le_of_eq, le_of_lt, le_antisymm, lt_of_not-le, not-le_of_lt, eq-or-lt_of_le, eq-zero-or-pos, mul-le-mul}
use native.Mathlib.Nat.{mul-le-mul_left, le-div_iff_mul-le, div-mul-le_self, lt-div-mul-add}
use native.Mathlib.Decide.{dec_le}
use native.Mathlib.Omega.{arith}
use mathlib.Core.Bool.{Bool, false, not, cond}
use lib.Dec.{T, is_le, compare_is_eq, leb→le, nleb→lt, eqb→eq}
use borrow.Author.Tests.{le-ltb}
use lib.Pow.{pow_pos}
use lib.Ieee.{Float, inf, Format, prec, low, size, nearest, odd, units, fits, hid}
use lib.Ieee.Fits.{two, two-le_pos, kept-lt, nearest-le}
use lib.Ieee.Exact.{HasValue, units_val}
use lib.Ieee.Scale.{overflow}
use Rattle.floats.specs.Root.{floor_root, round_root}
use Rattle.floats.specs.Nearest.{NoNearer, EquallyNear}
use Rattle.floats.proofs.Squares.{floor_root_lem, compare_lt, compare_gt, compare_same, compare_times}
use Rattle.floats.proofs.Rounded.{leading, from_whole_lem}
use Rattle.floats.proofs.Grid.{OnGrid, gap, one_value}
use Rattle.floats.proofs.Writing.{written, written_last, units_fits}

-- v is the exact root of n rounded: r units where that is in range, else +infinity
pub record Rounded (f : Format) (n : ℕ) (v : Float) : Type 0 where
  pub r : ℕ
  pub in_format : T (fits f v)
  pub in_range : r < overflow f → HasValue v false r (2 ^ low f)
  pub beyond : overflow f ≤ r → v ≡ inf false
  pub no_nearer : (y : ℕ) → OnGrid f y → NoNearer n r y
  pub tie_to_even : (y : ℕ) → OnGrid f y → y ≢ r → EquallyNear n r y → written f r % 2 ≡ 0

-- ---- what `nearest` picks
abbrev pub Picked : (q a b r : ℕ) → Type 0
Picked q a b r = ((r ≡ q) × (a ≤ b)) ⊎ ((r ≡ q + 1) × (b ≤ a))

pub picked : (q a b : ℕ) → Picked q a b (nearest q (compare a b))
picked q a b = go (compare a b) (leb→le a b) (nleb→lt a b) (eqb→eq a b)
  where
    suc_is : (q : ℕ) → suc q ≡ q + 1
    suc_is q = omega arith

    even : (q : ℕ) → q % 2 ≡ 0 → q + q % 2 ≡ q
    even q h = omega arith

    uneven : (q : ℕ) → 0 < q % 2 → q + q % 2 ≡ q + 1
    uneven q h = omega arith

    go : (o : Ordering) → (T (is_le o) → a ≤ b) → (T (not (is_le o)) → b < a) → (T (compare_is_eq o) → a ≡ b) → Picked q a b (nearest q o)
    go Ordering.lt l g e = inl (refl, l tt)
    go Ordering.eq l g e = ⊎_elim (λ z. inl (even q z, l tt)) (λ z. inr (uneven q z, le_of_eq (sym (e tt)))) (eq-zero-or-pos (q % 2))
    go Ordering.gt l g e = inr (suc_is q, le_of_lt (g tt))

-- ---- the two results, q times s and q + 1 times s, against a y that is not between them
twice_square : (a : ℕ) → (a + a) * (a + a) ≡ 4 * (a * a)
twice_square a = omega arith

module _ (n q s y : ℕ) (lo : q * s * (q * s) ≤ n) (hi : n ≤ (q + 1) * s * ((q + 1) * s)) (clear : (y ≤ q * s) ⊎ ((q + 1) * s ≤ y)) where
  mid : q * s + (q + 1) * s ≡ (2 * q + 1) * s
  mid = omega arith

  low_one : 4 * n ≤ (2 * q + 1) * s * ((2 * q + 1) * s) → NoNearer n (q * s) y
  low_one h = (below, λ l. above l clear)
    where
      below : y < q * s → (q * s + y) * (q * s + y) ≤ 4 * n
      below l =
          let r = q * s in
          let a : r + y ≤ r + r = omega arith in
          le_trans (mul-le-mul a a) (le_trans (le_of_eq (twice_square r)) (mul-le-mul_left 4 lo))

      above : q * s < y → (y ≤ q * s) ⊎ ((q + 1) * s ≤ y) → 4 * n ≤ (q * s + y) * (q * s + y)
      above l (inl g) = absurd (not-le_of_lt l g)
      above l (inr g) =
          let a : (2 * q + 1) * s ≤ q * s + y = le_trans (le_of_eq (sym mid)) (omega arith) in
          le_trans h (mul-le-mul a a)

  high_one : (2 * q + 1) * s * ((2 * q + 1) * s) ≤ 4 * n → NoNearer n ((q + 1) * s) y
  high_one h = (λ l. below l clear, above)
    where
      below : y < (q + 1) * s → (y ≤ q * s) ⊎ ((q + 1) * s ≤ y) → ((q + 1) * s + y) * ((q + 1) * s + y) ≤ 4 * n
      below l (inl g) =
          let a : (q + 1) * s + y ≤ (2 * q + 1) * s = le_trans (omega arith) (le_of_eq mid) in
          le_trans (mul-le-mul a a) h
      below l (inr g) = absurd (not-le_of_lt l g)

      above : (q + 1) * s < y → 4 * n ≤ ((q + 1) * s + y) * ((q + 1) * s + y)
      above l =
          let r = (q + 1) * s in
          let a : r + r ≤ r + y = omega arith in
          le_trans (mul-le-mul_left 4 hi) (le_trans (le_of_eq (sym (twice_square r))) (mul-le-mul a a))

-- ---- q, the kept digits, has prec of them where any were dropped
kept_ge : (p w : ℕ) → 0 < p → 0 < size w - p → 2 ^ (p - 1) ≤ w / 2 ^ (size w - p)
kept_ge p w P K = (le-div_iff_mul-le (pow_pos (size w - p))).1 (leading p w P (enough (size w) K))
  where
    enough : (z : ℕ) → 0 < z - p → p ≤ z
    enough z h = omega arith

-- ---- off a tie no value is as near
-- where the root of n is r or more, it is not the mid-point of r and a smaller y; where it is r or less, not that of r and a larger y
no_tie_under : (n r y : ℕ) → r * r ≤ n → y < r → EquallyNear n r y → ⊥
no_tie_under n r y lo l e = let a : r + y + 1 ≤ r + r = omega arith in omega (arith, mul-le-mul a a)

no_tie_over : (n r y : ℕ) → n ≤ r * r → r < y → EquallyNear n r y → ⊥
no_tie_over n r y hi l e = let a : r + r + 1 ≤ r + y = omega arith in omega (arith, mul-le-mul a a)

-- y is not between the two results, q times s and q + 1 times s
module _ (n q s y : ℕ) (lo : q * s * (q * s) ≤ n) (hi : n ≤ (q + 1) * s * ((q + 1) * s)) (clear : (y ≤ q * s) ⊎ ((q + 1) * s ≤ y)) where
  -- twice the mid-point of q and q + 1 times s
  abbrev middle : ℕ
  middle = (2 * q + 1) * s

  no_tie_below : 4 * n < middle * middle → y ≢ q * s → EquallyNear n (q * s) y → ⊥
  no_tie_below h ne e = go clear
    where
      go : (y ≤ q * s) ⊎ ((q + 1) * s ≤ y) → ⊥
      go (inl g) = ⊎_elim ne (λ l. no_tie_under n (q * s) y lo l e) (eq-or-lt_of_le g)
      go (inr g) =
          let a : middle ≤ q * s + y = omega arith in
          not-le_of_lt h (le_trans (mul-le-mul a a) (le_of_eq e))

  no_tie_above : middle * middle < 4 * n → y ≢ (q + 1) * s → EquallyNear n ((q + 1) * s) y → ⊥
  no_tie_above h ne e = go clear
    where
      go : (y ≤ q * s) ⊎ ((q + 1) * s ≤ y) → ⊥
      go (inl g) =
          let a : (q + 1) * s + y ≤ middle = omega arith in
          not-le_of_lt h (le_trans (le_of_eq (sym e)) (mul-le-mul a a))
      go (inr g) = ⊎_elim (λ p. ne (sym p)) (λ l. no_tie_over n ((q + 1) * s) y hi l e) (eq-or-lt_of_le g)

-- ---- the digits of the whole root that are kept, and what they are rounded to
module _ (f : Format) (n : ℕ) where
  abbrev dropped : ℕ
  dropped = size (floor_root n) - prec f

  abbrev step : ℕ
  step = 2 ^ dropped

  abbrev kept : ℕ
  kept = floor_root n / step

  -- twice the mid-point of `kept` and one more
  abbrev twice : ℕ
  twice = (2 * kept + 1) * step

  abbrev taken : ℕ
  taken = nearest kept (compare (4 * n) (twice * twice))

  -- the root of any fraction that is n units squared is what is taken, times 2 ^ dropped units
  taken_root : (num den : ℕ) → 0 < den → num * (2 ^ low f * 2 ^ low f) ≡ n * den → round_root f num den ≡ units f false taken dropped
  taken_root num den D e =
      from_whole_lem f num den n D e
      ∙ ap (λ (m : ℕ). units f false (nearest kept (compare m (twice * twice * den))) dropped) (four (num * (2 ^ low f * 2 ^ low f)) e)
      ∙ ap (λ (o : Ordering). units f false (nearest kept o) dropped) (compare_times (4 * n) (twice * twice) den D)
    where
      four : (m : ℕ) → m ≡ n * den → 4 * m ≡ 4 * n * den
      four m e = omega arith

  -- ---- the root is between `kept` and one more, and no value of the format is
  lower : kept * step * (kept * step) ≤ n
  lower = let a = div-mul-le_self (floor_root n) step in le_trans (mul-le-mul a a) (floor_root_lem n).reached

  upper : n ≤ (kept + 1) * step * ((kept + 1) * step)
  upper =
      let a : floor_root n + 1 ≤ (kept + 1) * step = next (floor_root n) kept step (lt-div-mul-add (pow_pos dropped)) in
      le_trans (le_of_lt (floor_root_lem n).not_passed) (mul-le-mul a a)
    where
      next : (w q s : ℕ) → w < q * s + s → w + 1 ≤ (q + 1) * s
      next w q s h = omega arith

  all_kept : 0 < dropped → hid f ≤ kept
  all_kept = kept_ge (prec f) (floor_root n) (two-le_pos (prec f) (two f))

  clear : (y : ℕ) → OnGrid f y → (y ≤ kept * step) ⊎ ((kept + 1) * step ≤ y)
  clear y = gap f dropped kept y all_kept

  -- ---- what is taken: it has no more digits than the format keeps, and all of them where any were dropped
  taken_few : taken ≤ 2 ^ prec f
  taken_few = le_trans (nearest-le kept (compare (4 * n) (twice * twice))) (kept-lt (prec f) (floor_root n))

  taken_all : 0 < dropped → hid f ≤ taken
  taken_all k =
      le_trans (all_kept k)
      (⊎_elim (λ p. le_of_eq (sym p.0)) (λ p. le_trans (next kept) (le_of_eq (sym p.0))) (picked kept (4 * n) (twice * twice)))
    where
      next : (q : ℕ) → q ≤ q + 1
      next q = omega arith

  taken_nearest : (y : ℕ) → OnGrid f y → NoNearer n (taken * step) y
  taken_nearest y g =
      ⊎_elim
      (λ p. subst (λ (c : ℕ). NoNearer n (c * step) y) (sym p.0) (low_one n kept step y lower upper (clear y g) p.1))
      (λ p. subst (λ (c : ℕ). NoNearer n (c * step) y) (sym p.0) (high_one n kept step y lower upper (clear y g) p.1))
      (picked kept (4 * n) (twice * twice))

  -- at a tie `nearest` takes the even one, and off a tie no value is as near
  taken_even : (y : ℕ) → OnGrid f y → y ≢ taken * step → EquallyNear n (taken * step) y → taken % 2 ≡ 0
  taken_even y g = go (dec_le (4 * n) (twice * twice)) (dec_le (twice * twice) (4 * n))
    where
      Even : ℕ → Type 0
      Even c = y ≢ c * step → EquallyNear n (c * step) y → c % 2 ≡ 0

      even : (q : ℕ) → (q + q % 2) % 2 ≡ 0
      even q = omega arith

      suc_is : (q : ℕ) → q + 1 ≡ suc q
      suc_is q = omega arith

      go : Dec (4 * n ≤ twice * twice) → Dec (twice * twice ≤ 4 * n) → Even taken
      go (yes a) (yes b) =
          subst Even (sym (ap (nearest kept) (compare_same (4 * n) (twice * twice) (le_antisymm a b)))) (λ ne e. even kept)
      go (yes a) (no b) =
          let l : 4 * n < twice * twice = lt_of_not-le b in
          subst Even (sym (ap (nearest kept) (compare_lt (4 * n) (twice * twice) l)))
          (λ ne e. absurd (no_tie_below n kept step y lower upper (clear y g) l ne e))
      go (no a) b =
          let l : twice * twice < 4 * n = lt_of_not-le a in
          subst Even (suc_is kept ∙ sym (ap (nearest kept) (compare_gt (4 * n) (twice * twice) l)))
          (λ ne e. absurd (no_tie_above n kept step y lower upper (clear y g) l ne e))

-- ---- the result, in range or beyond
pub too_large : (f : Format) (c k : ℕ) → overflow f ≤ c * 2 ^ k → units f false c k ≡ inf false
unfolding units
too_large f c k h =
    ap (λ (b : Bool). cond b (odd (suc (prec f)) false c k (low f)) (inf false)) (le-ltb (c * 2 ^ k) (overflow f) h)

pub rounded : (f : Format) (num den n : ℕ) → 0 < den → num * (2 ^ low f * 2 ^ low f) ≡ n * den → Rounded f n (round_root f num den)
rounded f num den n D e =
    let c = taken f n in
    let k = dropped f n in
    subst (Rounded f n) (sym (taken_root f n num den D e))
    (record {
      r = c * 2 ^ k;
      in_format = units_fits f false c k (taken_few f n);
      in_range = units_val f false c k;
      beyond = too_large f c k;
      no_nearer = taken_nearest f n;
      tie_to_even = λ y g ne t. written_last f c k (taken_all f n) (taken_few f n) ∙ taken_even f n y g ne t;
    })

-- a rounded root that has a value is in range, and the value is its units
pub value_is : (f : Format) (n : ℕ) (v : Float) (r : ℕ) (t : Rounded f n v) → HasValue v false r (2 ^ low f) → r ≡ t.r
value_is f n v r t h = go (dec_le (overflow f) t.r)
  where
    go : Dec (overflow f ≤ t.r) → r ≡ t.r
    go (yes l) = absurd (subst (λ (z : Float). HasValue z false r (2 ^ low f)) (t.beyond l) h)
    go (no k) = one_value v false r t.r (2 ^ low f) h (t.in_range (lt_of_not-le k))
