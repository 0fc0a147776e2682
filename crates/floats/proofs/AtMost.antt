-- Bounds that rounding keeps: where a / c is itself a value of the format, what is at most a / c in magnitude is rounded to at most a / c,
-- since rounding grows with the number and leaves a value as it is. So sums and products of bounded numbers are bounded, hence finite.
use mathlib.Core.Path.{◌≡◌, refl, sym, ap, ◌∙◌, subst}
use mathlib.Core.Bool.{Bool, true, false, ◌&&◌, ◌||◌, cond, beq, true≢false}
use Prim.Native.Nat.{ℕ, zero, suc, ◌+◌, ◌-◌, ◌*◌, ◌^◌, ◌≤◌, ◌<◌}
use native.Mathlib.Nat.{le_trans, le_of_eq, le_of_lt, lt_of_lt_of_le, mul-pos, one-mul, mul-one, mul_assoc, mul_comm, mul-le-mul}
use native.Mathlib.Nat.{mul-le-mul_right, mul-lt-mul_of_pos_right, mul-mul-mul_comm}
use native.Mathlib.Omega.{arith}
use lib.Dec.{T, ltb, eqb, ltb→lt, eqb→eq}
use lib.Pow.{pow-add, pow_pos, pow-lt}
use lib.Ieee.{Float, nan, inf, fin, Format, prec, emax, low, up, down, unlike, odd, units, round, neg, sum, add, mul, le}
use lib.Ieee.Fits.{down_pos, round_is, two, two-le_pos}
use lib.Ieee.Order.{round_mono, drop, kept}
use lib.Ieee.Exact.{HasValue, round_exact}
use lib.Ieee.Positive.{through}
use lib.Ieee.Scale.{finite, overflow}
use Rattle.floats.proofs.Grid.{OnGrid}
use Rattle.floats.proofs.Monotone.{unsigned, round_unsigned}

-- x is finite, and its magnitude is at most a / c
abbrev pub AtMost : (a c : ℕ) → Float → Type 0
AtMost a c nan = ⊥
AtMost a c (inf s) = ⊥
AtMost a c (fin s m e) = m * up e * c ≤ a * down e

-- a / c is a value of the format: a number of units of its smallest positive value that is on its grid and not beyond it
pub record IsValue (f : Format) (a c : ℕ) : Type 0 where
  pub count : ℕ
  pub on_grid : OnGrid f count
  pub not_beyond : count < overflow f
  pub same : a * 2 ^ low f ≡ count * c

-- ---- which fractions are values
-- m * 2 ^ j, for an m of at most prec digits
pub whole_value : (f : Format) (m j : ℕ) → m < 2 ^ prec f → m * 2 ^ j < 2 ^ suc (emax f) → IsValue f (m * 2 ^ j) 1
whole_value f m j M h = record {
  count = m * 2 ^ j * 2 ^ low f;
  on_grid = (m, j + low f, M, mul_assoc m (2 ^ j) (2 ^ low f) ∙ ap (λ (z : ℕ). m * z) (sym (pow-add 2 j (low f))));
  not_beyond =
      lt_of_lt_of_le (mul-lt-mul_of_pos_right h (pow_pos (low f)))
      (le_of_eq (mul_comm (2 ^ suc (emax f)) (2 ^ low f) ∙ sym (pow-add 2 (low f) (suc (emax f)))));
  same = sym (mul-one (m * 2 ^ j * 2 ^ low f));
}

-- a power of two, up to the format's last exponent
pub power_value : (f : Format) (a : ℕ) → a ≤ emax f → IsValue f (2 ^ a) 1
power_value f a h =
    let below : a < suc (emax f) = omega arith in
    subst (λ (z : ℕ). IsValue f z 1) (one-mul (2 ^ a))
    (whole_value f 1 a (pow-lt (two-le_pos (prec f) (two f))) (rw (one-mul (2 ^ a)) (pow-lt below)))

-- n units times 2 ^ k, where n units are a value
pub scaled_value : (f : Format) (n k : ℕ) → OnGrid f n → n * 2 ^ k < overflow f → IsValue f (n * 2 ^ k) (2 ^ low f)
scaled_value f n k (m, j, M, e) h = record {
  count = n * 2 ^ k;
  on_grid = (
    m,
    j + k,
    M,
    ap (λ (z : ℕ). z * 2 ^ k) e ∙ mul_assoc m (2 ^ j) (2 ^ k) ∙ ap (λ (z : ℕ). m * z) (sym (pow-add 2 j k)),
  );
  not_beyond = h;
  same = refl;
}

-- ---- what a bound says
pub at_most_finite : (x : Float) (a c : ℕ) → AtMost a c x → T (finite x)
at_most_finite nan a c h = absurd h
at_most_finite (inf s) a c h = absurd h
at_most_finite (fin s m e) a c h = tt

-- a / c is at most b / d
pub at_most_to : (x : Float) (a c b d : ℕ) → 0 < c → a * d ≤ b * c → AtMost a c x → AtMost b d x
at_most_to nan a c b d C l h = absurd h
at_most_to (inf s) a c b d C l h = absurd h
at_most_to (fin s m e) a c b d C l h = through (m * up e) a b (down e) c d C h l

-- ---- from an order to a bound
either_le : {p q : ℕ} (less same : Bool) → (T less → p < q) → (T same → p ≡ q) → T (less || (same && true)) → p ≤ q
either_le true same g h t = le_of_lt (g tt)
either_le false true g h t = le_of_eq (h tt)
either_le false false g h t = absurd t

-- x / p is at most y / q, which is a / c
under : (x p a c y q : ℕ) → 0 < q → y * c ≡ a * q → x * q ≤ y * p → x * c ≤ a * p
under x p a c y q Q e h = through x y a p q c Q h (le_of_eq e)

-- with the sign clear, at most a value that is a / c
pub at_most_below : (x top : Float) (a c : ℕ) → T (unsigned x) → HasValue top false a c → T (le x top) → AtMost a c x
unfolding le
at_most_below nan top a c u v h = absurd h
at_most_below (inf true) top a c u v h = absurd u
at_most_below (inf false) nan a c u v h = absurd v
at_most_below (inf false) (inf t) a c u v h = absurd v
at_most_below (inf false) (fin t n d) a c u v h = absurd h
at_most_below (fin true m e) top a c u v h = absurd u
at_most_below (fin false m e) nan a c u v h = absurd v
at_most_below (fin false m e) (inf t) a c u v h = absurd v
at_most_below (fin false m e) (fin true n d) a c u v h = absurd (true≢false v.0)
at_most_below (fin false m e) (fin false n d) a c u v h =
    let x = m * up e * down d in
    let y = n * up d * down e in
    under (m * up e) (down e) a c (n * up d) (down d) (down_pos d) v.1 (either_le (ltb x y) (eqb x y) (ltb→lt x y) (eqb→eq x y) h)

-- with either sign, from −a / c to a / c
pub at_most_between : (x top : Float) (a c : ℕ) → HasValue top false a c → le (neg top) x ≡ true → le x top ≡ true → AtMost a c x
unfolding le neg
at_most_between nan top a c v l h = absurd (true≢false (sym h))
at_most_between (inf s) nan a c v l h = absurd v
at_most_between (inf s) (inf t) a c v l h = absurd v
at_most_between (inf true) (fin t n d) a c v l h = absurd (true≢false (sym l))
at_most_between (inf false) (fin t n d) a c v l h = absurd (true≢false (sym h))
at_most_between (fin s m e) nan a c v l h = absurd v
at_most_between (fin s m e) (inf t) a c v l h = absurd v
at_most_between (fin s m e) (fin true n d) a c v l h = absurd (true≢false v.0)
at_most_between (fin false m e) (fin false n d) a c v l h =
    at_most_below (fin false m e) (fin false n d) a c tt v (subst T (sym h) tt)
at_most_between (fin true m e) (fin false n d) a c v l h =
    let x = m * up e * down d in
    let y = n * up d * down e in
    under (m * up e) (down e) a c (n * up d) (down d) (down_pos d) v.1
    (either_le (ltb x y) (eqb y x) (ltb→lt x y) (λ t. sym (eqb→eq y x t)) (subst T (sym l) tt))

-- ---- rounding
-- a bound does not turn on the sign
units_at_most : (f : Format) (s : Bool) (q k a c : ℕ) → AtMost a c (units f false q k) → AtMost a c (units f s q k)
unfolding units
units_at_most f s q k a c = go (ltb (q * 2 ^ k) (2 ^ (low f + suc (emax f)))) q
  where
    go : (b : Bool) (q : ℕ) → AtMost a c (cond b (odd (suc (prec f)) false q k (low f)) (inf false))
        → AtMost a c (cond b (odd (suc (prec f)) s q k (low f)) (inf s))
    go false q h = absurd h
    go true zero h = h
    go true (suc q) h = h

-- a value is rounded to itself
value_exact : (f : Format) (a c : ℕ) → 0 < c → IsValue f a c → HasValue (round f false a c) false a c
value_exact f a c C v =
    let g = v.on_grid in
    round_exact f false a c g.0 g.1 C g.2 (subst (λ (z : ℕ). z < overflow f) g.3 v.not_beyond)
    (v.same ∙ ap (λ (z : ℕ). z * c) g.3)

pub round_at_most : (f : Format) (s : Bool) (num den a c : ℕ) → 0 < den → 0 < c → IsValue f a c → num * c ≤ a * den
    → AtMost a c (round f s num den)
round_at_most f s num den a c D C v h =
    let n = num * 2 ^ low f in
    let clear =
    at_most_below (round f false num den) (round f false a c) a c (round_unsigned f num den) (value_exact f a c C v)
    (round_mono f num den a c D C h) in
    subst (AtMost a c) (sym (round_is f s num den))
    (units_at_most f s (kept (prec f) n den) (drop (prec f) n den) a c (subst (AtMost a c) (round_is f false num den) clear))

-- ---- the operations
pub at_most_neg : (x : Float) (a c : ℕ) → AtMost a c x → AtMost a c (neg x)
unfolding neg
at_most_neg nan a c h = absurd h
at_most_neg (inf s) a c h = absurd h
at_most_neg (fin s m e) a c h = h

module _ (f : Format) where
  -- p / c and q / c bound the fractions x / w and y / w
  sum_at_most : (s t : Bool) (x y w p q c : ℕ) → 0 < w → 0 < c → IsValue f (p + q) c → x * c ≤ p * w → y * c ≤ q * w
      → AtMost (p + q) c (sum f s x t y w)
  unfolding sum
  sum_at_most s t x y w p q c W C v P Q = go (beq s t) (ltb x y)
    where
      rounded : (s : Bool) (z : ℕ) → z ≤ x + y → AtMost (p + q) c (round f s z w)
      rounded s z h = round_at_most f s z w (p + q) c W C v (le_trans (mul-le-mul_right c h) (omega arith))

      go : (same less : Bool)
          → AtMost (p + q) c (cond same (round f s (x + y) w) (cond less (round f t (y - x) w) (round f (s && ltb y x) (x - y) w)))
      go true less = rounded s (x + y) (omega arith)
      go false true = rounded t (y - x) (omega arith)
      go false false = rounded (s && ltb y x) (x - y) (omega arith)

  pub at_most_add : (x y : Float) (p q c : ℕ) → 0 < c → IsValue f (p + q) c → AtMost p c x → AtMost q c y → AtMost (p + q) c (add f x y)
  unfolding add
  at_most_add nan y p q c C v h k = absurd h
  at_most_add (inf s) y p q c C v h k = absurd h
  at_most_add (fin s m e) nan p q c C v h k = absurd k
  at_most_add (fin s m e) (inf t) p q c C v h k = absurd k
  at_most_add (fin s m e) (fin t n d) p q c C v h k =
      sum_at_most s t (m * up e * down d) (n * up d * down e) (down e * down d) p q c (mul-pos (down_pos e) (down_pos d)) C v
      (wider (m * up e) (down e) (down d) p h)
      (le_trans (wider (n * up d) (down d) (down e) q k) (le_of_eq (ap (λ (z : ℕ). q * z) (mul_comm (down d) (down e)))))
    where
      wider : (x u w p : ℕ) → x * c ≤ p * u → x * w * c ≤ p * (u * w)
      wider x u w p g = let l : x * c * w ≤ p * u * w = mul-le-mul_right w g in omega arith

  -- a / c times b / d is at most g / h
  pub at_most_mul : (x y : Float) (a c b d g h : ℕ) → 0 < c → 0 < d → 0 < h → IsValue f g h → a * b * h ≤ g * (c * d)
      → AtMost a c x → AtMost b d y → AtMost g h (mul f x y)
  unfolding mul
  at_most_mul nan y a c b d g h C D H v l p q = absurd p
  at_most_mul (inf s) y a c b d g h C D H v l p q = absurd p
  at_most_mul (fin s m e) nan a c b d g h C D H v l p q = absurd q
  at_most_mul (fin s m e) (inf t) a c b d g h C D H v l p q = absurd q
  at_most_mul (fin s m e) (fin t n i) a c b d g h C D H v l p q =
      round_at_most f (unlike s t) (m * up e * (n * up i)) (down e * down i) g h (mul-pos (down_pos e) (down_pos i)) H v
      (through (m * up e * (n * up i)) (a * b) g (down e * down i) (c * d) h (mul-pos C D)
      (le_trans (le_of_eq (mul-mul-mul_comm (m * up e) (n * up i) c d))
      (le_trans (mul-le-mul p q) (le_of_eq (mul-mul-mul_comm a (down e) b (down i))))) l)
