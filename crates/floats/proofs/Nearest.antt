-- `CorrectlyRounded` and `NoTie` of specs/Nearest.antt hold. The first is what proofs/Taken.antt says of `round_root`, which is in range
-- for a root. Were the root the mid-point of two values, it would be a value itself, since its square is one, and then a nearer one.
use mathlib.Core.Path.{◌≡◌, refl, sym, ap, ◌∙◌, subst}
use mathlib.Core.Logic.{◌≢◌}
use Prim.Native.Nat.{ℕ, zero, suc, ◌+◌, ◌-◌, ◌*◌, ◌/◌, ◌%◌, ◌^◌, ◌≤◌, ◌<◌, compare}
use native.Mathlib.Decide.{dec_lt}
use native.Mathlib.Nat.{pow-suc, le_trans, le_of_eq, lt_of_lt_of_le, lt_of_le_of_lt, mul_assoc, mul_right_comm, mul-le-mul}
use native.Mathlib.Nat.{mul-le-mul_right, mul-le-mul_left, mul-pos, mul-lt-mul_of_pos_right, lt_of_mul-lt-mul_right}
use native.Mathlib.Omega.{arith}
use mathlib.Core.Bool.{false}
use lib.Dec.{T, lit<}
use lib.Pow.{pow-add, pow_pos, pow_mono, pow-lt}
use lib.Ieee.{Float, nan, inf, fin, Format, binary32, binary64, prec, emax, low, up, down, size, nearest, fits}
use lib.Ieee.Digits.{size-le}
use lib.Ieee.Fits.{two, reach, two-le_pos, kept-lt, nearest-le}
use lib.Ieee.Exact.{HasValue, units_val}
use lib.Ieee.Positive.{value_pos}
use Rattle.floats.specs.Root.{floor_root, round_root}
use Rattle.floats.specs.Nearest.{NoNearer, CorrectlyRounded, NoTie}
use Rattle.floats.proofs.Delivered.{root_fits}
use Rattle.floats.proofs.Squares.{floor_root_lem, sq_lt_back}
use Rattle.floats.proofs.Rounded.{from_digits, from_whole_lem, InUnitsSquared, opened, not_zero}
use Rattle.floats.proofs.Grid.{one_value, in_format, OnGrid, on_grid, has_units}
use Rattle.floats.proofs.Taken.{rounded, value_is}

-- ---- the result against any value
nearest_root : (f : Format) (num den n r y : ℕ) → 0 < den → num * (2 ^ low f * 2 ^ low f) ≡ n * den
    → HasValue (round_root f num den) false r (2 ^ low f) → OnGrid f y → NoNearer n r y
nearest_root f num den n r y D e v g =
    let t = rounded f num den n D e in
    subst (λ (z : ℕ). NoNearer n z y) (sym (value_is f n (round_root f num den) r t v)) (t.no_nearer y g)

-- ---- the root of a value above zero is finite
square_under : (w l e n : ℕ) → w * w ≤ n → n < 2 ^ suc e * (2 ^ l * 2 ^ l) → 0 < e → w < 2 ^ (l + e)
square_under w l e n h k E =
    sq_lt_back w (2 ^ (l + e))
    (lt_of_le_of_lt h
    (lt_of_lt_of_le k
    (le_trans (mul-le-mul_right (2 ^ l * 2 ^ l) (pow_mono (fits_twice e E)))
    (le_of_eq (ap (λ (z : ℕ). z * (2 ^ l * 2 ^ l)) (pow-add 2 e e) ∙ swap (2 ^ e) (2 ^ l) ∙ ap (λ (z : ℕ). z * z) (sym (pow-add 2 l e)))))))
  where
    fits_twice : (e : ℕ) → 0 < e → suc e ≤ e + e
    fits_twice e h = omega arith

    swap : (a b : ℕ) → a * a * (b * b) ≡ b * a * (b * a)
    swap a b = omega arith

some_exponent : (f : Format) → 0 < emax f
some_exponent binary32 = lit< tt
some_exponent binary64 = lit< tt

kept_under : (f : Format) (w c : ℕ) → w < 2 ^ (low f + emax f) → c ≤ suc (w / 2 ^ (size w - prec f))
    → c * 2 ^ (size w - prec f) < 2 ^ (low f + suc (emax f))
kept_under f w c W C =
    let k = size w - prec f in
    lt_of_le_of_lt (le_trans (mul-le-mul_right (2 ^ k) (le_trans C (kept-lt (prec f) w))) (le_of_eq (sym (pow-add 2 (prec f) k))))
    (pow-lt (room (prec f) (size w) (emax f) (two f) (reach f) (size-le w (low f + emax f) W)))
  where
    room : (p z e : ℕ) → 2 ≤ p → p ≤ suc e → z ≤ e + p - 2 + e → p + (z - p) < e + p - 2 + suc e
    room p z e a b h = omega arith

bounded : (f : Format) (x : Float) (n : ℕ) → T (fits f x) → InUnitsSquared f x n → 0 < n → n < 2 ^ suc (emax f) * (2 ^ low f * 2 ^ low f)
bounded f nan n h v N = absurd v
bounded f (inf s) n h v N = absurd v
bounded f (fin s zero e) n h v N = absurd (not_zero zero e (2 ^ low f * 2 ^ low f) n N v.1 refl)
bounded f (fin s (suc m) e) n h v N =
    lt_of_mul-lt-mul_right (down e)
    (lt_of_le_of_lt (le_of_eq (sym v.1))
    (lt_of_lt_of_le (mul-lt-mul_of_pos_right (in_format f s m e h).2 (mul-pos (pow_pos (low f)) (pow_pos (low f))))
    (le_of_eq (mul_right_comm (2 ^ suc (emax f)) (down e) (2 ^ low f * 2 ^ low f)))))

finite_root : (f : Format) (num den n : ℕ) → 0 < den → num * (2 ^ low f * 2 ^ low f) ≡ n * den
    → n < 2 ^ suc (emax f) * (2 ^ low f * 2 ^ low f) → (r : ℕ) × HasValue (round_root f num den) false r (2 ^ low f)
finite_root f num den n D e h =
    let m = num * (2 ^ low f * 2 ^ low f) in
    let w = floor_root n in
    let k = size w - prec f in
    let q = w / 2 ^ k in
    let M = (2 * q + 1) * 2 ^ k in
    let o = compare (4 * m) (M * M * den) in
    let is : round_root f num den ≡ from_digits f m den k q = from_whole_lem f num den n D e in (
      nearest q o * 2 ^ k,
      subst (λ (z : Float). HasValue z false (nearest q o * 2 ^ k) (2 ^ low f)) (sym is)
          (units_val f false (nearest q o) k (kept_under f w (nearest q o)
          (square_under w (low f) (emax f) n (floor_root_lem n).reached h (some_exponent f)) (nearest-le q o))),
    )

-- ---- the law
pub units_squared : (f : Format) (x : Float) (y : ℕ) → HasValue x false y (2 ^ low f) → InUnitsSquared f x (y * 2 ^ low f)
units_squared f nan y v = v
units_squared f (inf s) y v = v
units_squared f (fin s m e) y v = (
  v.0,
  sym (mul_assoc (m * up e) (2 ^ low f) (2 ^ low f)) ∙ ap (λ (z : ℕ). z * 2 ^ low f) v.1
      ∙ mul_right_comm y (down e) (2 ^ low f),
)

pub correctly_rounded : CorrectlyRounded
correctly_rounded f x h p =
    let u = has_units f x h p in
    let n = u.0 * 2 ^ low f in
    let v : InUnitsSquared f x n = units_squared f x u.0 u.1 in
    let N : 0 < n = mul-pos (value_pos x u.0 (2 ^ low f) p (pow_pos (low f)) u.1) (pow_pos (low f)) in
    let o = opened f x n v N in
    let k = finite_root f o.0 o.1 n o.2 o.3 (bounded f x n h v N) in (
      n,
      k.0,
      record {
        number = v;
        in_format = root_fits f x h;
        root = subst (λ (a : Float). HasValue a false k.0 (2 ^ low f)) (sym o.4) k.1;
        no_nearer = λ z y t w. nearest_root f o.0 o.1 n k.0 y o.2 o.3 k.1 (on_grid f z y t w);
      },
    )

-- ---- no tie
-- a whole number whose square is four times n is twice the root of n
halved : (s n : ℕ) → s * s ≡ 4 * n → (h : ℕ) × (s ≡ h + h) × (h * h ≡ n)
halved s n e = go (s / 2) (s % 2) (omega arith) (omega arith)
  where
    go : (h b : ℕ) → s ≡ 2 * h + b → b < 2 → (h : ℕ) × (s ≡ h + h) × (h * h ≡ n)
    go h zero p q = (h, omega arith, omega (arith, rw p at e))
    go h (suc zero) p q = absurd (omega (arith, rw p at e))
    go h (suc (suc b)) p q = absurd (omega arith)

-- a root whose square has at most prec + 1 digits has at most prec
few_digits : (f : Format) (m c h : ℕ) → m < 2 ^ prec f → c ≤ 2 → h * h ≡ m * c → h < 2 ^ prec f
few_digits f m c h M C e =
    let top = 2 ^ prec f in
    let a : m * 2 < top * 2 = omega arith in
    let b : 2 ≤ top = pow_mono (two-le_pos (prec f) (two f)) in
    sq_lt_back h top (lt_of_le_of_lt (le_trans (le_of_eq e) (mul-le-mul_left m C)) (lt_of_lt_of_le a (mul-le-mul_left top b)))

-- where the root of a value is a whole number of units, it is a value of the format
root_on_grid : (f : Format) (b m h : ℕ) → m < 2 ^ prec f → h * h ≡ m * 2 ^ b → OnGrid f h
root_on_grid f zero m h M e = (h, 0, few_digits f m 1 h M (omega arith) e, omega arith)
root_on_grid f (suc zero) m h M e = (h, 0, few_digits f m 2 h M (omega arith) e, omega arith)
root_on_grid f (suc (suc b)) m h M e =
    let four : m * 2 ^ suc (suc b) ≡ 4 * (m * 2 ^ b) = rw (pow-suc 2 (suc b), pow-suc 2 b) (omega arith) in
    let (k, twice, k-is) = halved h (m * 2 ^ b) (e ∙ four) in
    let (c, j, C, c-is) = root_on_grid f b m k M k-is in
    (c, suc j, C, rw (pow-suc 2 j) (doubled c (2 ^ j) k h twice c-is))
  where
    doubled : (c s k h : ℕ) → h ≡ k + k → k ≡ c * s → h ≡ c * (s * 2)
    doubled c s k h p q = omega arith

-- the mid-point h of r and y, where it is the root of n and not nearer to it than r, is r
apart : (n r y h : ℕ) → r + y ≡ h + h → h * h ≡ n → NoNearer n r h → y ≢ r → ⊥
apart n r y h s q g ne = go (dec_lt h r) (dec_lt r h)
  where
    go : Dec (h < r) → Dec (r < h) → ⊥
    go (yes l) d = let a : h + h + 1 ≤ r + h = omega arith in omega (arith, g.0 l, mul-le-mul a a)
    go (no k) (yes l) = let a : r + h + 1 ≤ h + h = omega arith in omega (arith, g.1 l, mul-le-mul a a)
    go (no k) (no l) = ne (omega arith)

pub no_tie : NoTie
no_tie f x n r y hx p g ne e =
    let l = 2 ^ low f in
    let u = has_units f x hx p in
    let (m, j, M, u-is) = on_grid f x u.0 hx u.1 in
    let n_is : n ≡ u.0 * l = one_value x false n (u.0 * l) (l * l) g.number (units_squared f x u.0 u.1) in
    let (h, twice, h-is) = halved (r + y) n e in
    let square : h * h ≡ m * 2 ^ (j + low f) =
    h-is ∙ n_is ∙ ap (λ (a : ℕ). a * l) u-is ∙ mul_assoc m (2 ^ j) l ∙ ap (λ (a : ℕ). m * a) (sym (pow-add 2 j (low f))) in
    let o = opened f x n g.number (value_pos x n (l * l) p (mul-pos (pow_pos (low f)) (pow_pos (low f))) g.number) in
    let v = subst (λ (a : Float). HasValue a false r l) o.4 g.root in
    apart n r y h twice h-is (nearest_root f o.0 o.1 n r h o.2 o.3 v (root_on_grid f (j + low f) m h M square)) ne
