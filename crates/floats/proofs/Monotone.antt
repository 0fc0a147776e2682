-- The root grows with the number (`root_mono`), so the larger of two roots is the root of the larger number (`largest_root`).
-- No value is nearer to either exact root than its rounded root. So were the root of the larger number the smaller one,
-- the mid-point of the two would be at most the exact root of the smaller number and at least that of the larger.
use mathlib.Core.Path.{◌≡◌, refl, sym, ap, ◌∙◌, subst}
use mathlib.Core.Logic.{inl, inr}
use Prim.Native.Nat.{ℕ, zero, suc, ◌+◌, ◌-◌, ◌*◌, ◌/◌, ◌^◌, ◌≤◌, ◌<◌}
use native.Mathlib.Nat.{le_refl, le_of_eq, le_of_lt, le_of_mul-le-mul_right, lt_of_not-le, eq-or-lt_of_le, mul-pos}
use native.Mathlib.Nat.{mul-le-mul_right, eq_of_mul-eq-mul_right}
use native.Mathlib.Decide.{dec_le}
use native.Mathlib.Omega.{arith}
use mathlib.Core.Bool.{Bool, true, false, not, ◌&&◌, ◌||◌, cond, true≢false}
use lib.Dec.{T, ltb, eqb, ltb→lt, lt→ltb, eqb→eq}
use lib.Pow.{pow_pos}
use lib.IntN.{ℤ}
use borrow.Author.Tests.{lt-ltb, le-ltb}
use lib.Ieee.{Float, nan, inf, fin, Format, prec, emax, low, up, down, size, hid, odd, units, fits, is_nan, lt, le, to_bits, of_bits}
use lib.Ieee.{round, sum, add, mul}
use lib.Ieee.Fits.{down_pos}
use lib.Ieee.Nearest.{div_same}
use lib.Ieee.Bits.{of_bits-to_bits, is_true}
use lib.Ieee.Exact.{HasValue}
use lib.Ieee.Order.{transfer, le_of_values}
use Rattle.floats.specs.Pick.{largest_of}
use Rattle.floats.specs.Root.{root_of}
use Rattle.floats.specs.Nearest.{NearestRoot}
use Rattle.floats.proofs.Delivered.{root_fits}
use Rattle.floats.proofs.Nearest.{correctly_rounded}

-- ---- two values with the sign clear that are a and b times the same: their order is that of a and b, and where a is b they are one value
le_is : (x y : Float) (a b c : ℕ) → 0 < c → HasValue x false a c → HasValue y false b c → T (le x y) → a ≤ b
unfolding le
le_is nan y a b c C v w t = absurd v
le_is (inf s) y a b c C v w t = absurd v
le_is (fin s m e) nan a b c C v w t = absurd w
le_is (fin s m e) (inf u) a b c C v w t = absurd w
le_is (fin true m e) (fin u n d) a b c C v w t = absurd (true≢false v.0)
le_is (fin false m e) (fin true n d) a b c C v w t = absurd (true≢false w.0)
le_is (fin false m e) (fin false n d) a b c C v w t =
    let x = m * up e in
    let y = n * up d in
    le_of_mul-le-mul_right
    (transfer a b c c x y (down e) (down d) (down_pos e) (down_pos d) (sym v.1) (sym w.1)
    (go (ltb (x * down d) (y * down e)) (eqb (x * down d) (y * down e)) (ltb→lt (x * down d) (y * down e))
    (eqb→eq (x * down d) (y * down e)) t))
    C
  where
    go : {p q : ℕ} (less same : Bool) → (T less → p < q) → (T same → p ≡ q) → T (less || (same && true)) → p ≤ q
    go true same g h t = le_of_lt (g tt)
    go false true g h t = le_of_eq (h tt)
    go false false g h t = absurd t

largest_is : (x y : Float) (a b c : ℕ) → 0 < c → HasValue x false a c → HasValue y false b c → largest_of x y ≡ cond (ltb a b) y x
unfolding largest_of is_nan lt
largest_is nan y a b c C v w = absurd v
largest_is (inf s) y a b c C v w = absurd v
largest_is (fin s m e) nan a b c C v w = absurd w
largest_is (fin s m e) (inf t) a b c C v w = absurd w
largest_is (fin true m e) (fin t n d) a b c C v w = absurd (true≢false v.0)
largest_is (fin false m e) (fin true n d) a b c C v w = absurd (true≢false w.0)
largest_is (fin false m e) (fin false n d) a b c C v w = ap (λ (t : Bool). cond t (fin false n d) (fin false m e)) (go (dec_le b a))
  where
    x : ℕ
    x = m * up e

    y : ℕ
    y = n * up d

    go : Dec (b ≤ a) → ltb (x * down d) (y * down e) ≡ ltb a b
    go (yes h) =
        le-ltb (x * down d) (y * down e) (transfer y x (down d) (down e) b a c c C C w.1 v.1 (mul-le-mul_right c h))
        ∙ sym (le-ltb a b h)
    go (no g) =
        lt-ltb (x * down d) (y * down e)
        (lt_of_not-le (λ h. g (le_of_mul-le-mul_right (transfer b a c c y x (down d) (down e) (down_pos d) (down_pos e) (sym w.1)
        (sym v.1) h) C)))
        ∙ sym (lt-ltb a b (lt_of_not-le g))

pub same_number : (f : Format) (x y : Float) (a c : ℕ) → 0 < c → T (fits f x) → T (fits f y) → HasValue x false a c → HasValue y false a c
    → x ≡ y
unfolding to_bits
same_number f x y a c C hx hy v w = sym (of_bits-to_bits f x hx) ∙ ap (of_bits f) (go x y v w) ∙ of_bits-to_bits f y hy
  where
    cross : (m n e d l : ℕ) → m * c ≡ a * e → n * c ≡ a * d → m * l * d ≡ n * l * e
    cross m n e d l p q =
        let g : m * c * (l * d) ≡ a * e * (l * d) = ap (λ (z : ℕ). z * (l * d)) p in
        let h : n * c * (l * e) ≡ a * d * (l * e) = ap (λ (z : ℕ). z * (l * e)) q in
        eq_of_mul-eq-mul_right c C (m * l * d) (n * l * e) (omega arith)

    go : (x y : Float) → HasValue x false a c → HasValue y false a c → to_bits f x ≡ to_bits f y
    go nan y v w = absurd v
    go (inf s) y v w = absurd v
    go (fin s m e) nan v w = absurd w
    go (fin s m e) (inf t) v w = absurd w
    go (fin s m e) (fin t n d) v w =
        ap (λ (b : Bool). to_bits f (fin b m e)) v.0
        ∙ ap (λ (z : ℕ). 0 + (size z - prec f) * hid f + z / 2 ^ (size z - prec f))
        (div_same (m * up e * 2 ^ low f) (down e) (n * up d * 2 ^ low f) (down d) (down_pos e) (down_pos d)
        (cross (m * up e) (n * up d) (down e) (down d) (2 ^ low f) v.1 w.1))
        ∙ ap (λ (b : Bool). to_bits f (fin b n d)) (sym w.0)

-- ---- two numbers, n and m units squared, and their roots
cond_same : {A : Type 0} (b : Bool) (x : A) → cond b x x ≡ x
cond_same true x = refl
cond_same false x = refl

module _ (f : Format) (x y : Float) (n r m s : ℕ) (p : NearestRoot f x n r) (q : NearestRoot f y m s) (hx : T (fits f x))
    (hy : T (fits f y)) where
  ordered : n < m → r ≤ s
  ordered h = go (dec_le r s)
    where
      go : Dec (r ≤ s) → r ≤ s
      go (yes g) = g
      go (no g) =
          let l : s < r = lt_of_not-le g in
          let a : (r + s) * (r + s) ≤ 4 * n = (p.no_nearer (root_of f y) s (root_fits f y hy) q.root).0 l in
          let b : 4 * m ≤ (s + r) * (s + r) = (q.no_nearer (root_of f x) r (root_fits f x hx) p.root).1 l in
          absurd (omega arith)

  one : n ≡ m → x ≡ y
  one e =
      same_number f x y m (2 ^ low f * 2 ^ low f) (mul-pos (pow_pos (low f)) (pow_pos (low f))) hx hy
      (subst (λ (z : ℕ). HasValue x false z (2 ^ low f * 2 ^ low f)) e p.number) q.number

  mono : T (le x y) → T (le (root_of f x) (root_of f y))
  mono h =
      let some = mul-pos (pow_pos (low f)) (pow_pos (low f)) in
      elim (eq-or-lt_of_le (le_is x y n m (2 ^ low f * 2 ^ low f) some p.number q.number h)) [
        | inl e ↦ subst (λ (z : Float). T (le (root_of f x) (root_of f z))) (one e)
            (le_of_values (root_of f x) (root_of f x) r (2 ^ low f) r (2 ^ low f) (pow_pos (low f)) (pow_pos (low f)) p.root p.root
            (le_refl (r * 2 ^ low f)))
        | inr l ↦ le_of_values (root_of f x) (root_of f y) r (2 ^ low f) s (2 ^ low f) (pow_pos (low f)) (pow_pos (low f)) p.root q.root
            (mul-le-mul_right (2 ^ low f) (ordered l))
      ]

  -- where y is the larger number, its root is the larger one, or both roots are one value
  upper : n < m → cond (ltb r s) (root_of f y) (root_of f x) ≡ root_of f y
  upper h =
      elim (eq-or-lt_of_le (ordered h)) [
        | inl e ↦
            rw (same_number f (root_of f x) (root_of f y) s (2 ^ low f) (pow_pos (low f)) (root_fits f x hx) (root_fits f y hy)
            (subst (λ (z : ℕ). HasValue (root_of f x) false z (2 ^ low f)) e p.root) q.root)
            (cond_same (ltb r s) (root_of f y))
        | inr l ↦ rw (lt-ltb r s l)
      ]

-- ---- finite, with the sign clear
zero_value : (e : ℤ) (c : ℕ) → HasValue (fin false zero e) false 0 c
zero_value e c = (refl, omega arith)

rooted : (f : Format) (m : ℕ) (e : ℤ) → T (fits f (fin false m e)) → (n : ℕ) × (r : ℕ) × NearestRoot f (fin false m e) n r
unfolding root_of
rooted f zero e h = (
  0,
  0,
  record {
    number = zero_value e (2 ^ low f * 2 ^ low f);
    in_format = root_fits f (fin false zero e) h;
    root = zero_value e (2 ^ low f);
    no_nearer = λ z y t w. (λ l. absurd (omega arith), λ l. omega arith);
  },
)
rooted f (suc m) e h = correctly_rounded f (fin false (suc m) e) h (lt→ltb 0 (suc m) (omega arith))

finite_largest : (f : Format) (x y : Float) (n r m s : ℕ) → NearestRoot f x n r → NearestRoot f y m s → T (fits f x) → T (fits f y)
    → largest_of (root_of f x) (root_of f y) ≡ root_of f (largest_of x y)
finite_largest f x y n r m s p q hx hy =
    largest_is (root_of f x) (root_of f y) r s (2 ^ low f) (pow_pos (low f)) p.root q.root
    ∙ go (dec_le m n)
    ∙ ap (root_of f) (sym (largest_is x y n m (2 ^ low f * 2 ^ low f) (mul-pos (pow_pos (low f)) (pow_pos (low f))) p.number q.number))
  where
    go : Dec (m ≤ n) → cond (ltb r s) (root_of f y) (root_of f x) ≡ root_of f (cond (ltb n m) y x)
    go (no g) = rw (lt-ltb n m (lt_of_not-le g)) (upper f x y n r m s p q hx hy (lt_of_not-le g))
    go (yes g) =
        elim (eq-or-lt_of_le g) [
          | inl e ↦ rw (one f x y n r m s p q hx hy (sym e), cond_same) (sym (ap (root_of f) (cond_same (ltb n m) y)))
          | inr l ↦ rw (le-ltb n m g, le-ltb r s (ordered f y x m s n r q p hy hx l))
        ]

-- ---- any value with the sign clear: +0, above zero, +infinity, or a NaN
abbrev pub unsigned : Float → Bool
unsigned nan = true
unsigned (inf s) = not s
unsigned (fin s m e) = not s

-- +infinity is the larger one wherever it stands, and a NaN never is
top_first : (v : Float) → largest_of (inf false) v ≡ inf false
unfolding largest_of is_nan lt
top_first nan = refl
top_first (inf s) = refl
top_first (fin s m e) = refl

top_last : (v : Float) → largest_of v (inf false) ≡ inf false
unfolding largest_of is_nan lt
top_last nan = refl
top_last (inf true) = refl
top_last (inf false) = refl
top_last (fin s m e) = refl

nan_last : (v : Float) → largest_of v nan ≡ v
unfolding largest_of is_nan
nan_last nan = refl
nan_last (inf s) = refl
nan_last (fin s m e) = refl

-- the larger of two roots is the root of the larger number
pub largest_root : (f : Format) (x y : Float) → T (fits f x) → T (fits f y) → T (unsigned x) → T (unsigned y)
    → largest_of (root_of f x) (root_of f y) ≡ root_of f (largest_of x y)
unfolding root_of largest_of is_nan
largest_root f nan y hx hy a b = refl
largest_root f (inf true) y hx hy a b = absurd a
largest_root f (fin true m e) y hx hy a b = absurd a
largest_root f (inf false) (inf true) hx hy a b = absurd b
largest_root f (inf false) (fin true n d) hx hy a b = absurd b
largest_root f (fin false m e) (inf true) hx hy a b = absurd b
largest_root f (fin false m e) (fin true n d) hx hy a b = absurd b
largest_root f (inf false) nan hx hy a b = refl
largest_root f (inf false) (inf false) hx hy a b = rw (top_first (inf false))
largest_root f (inf false) (fin false n d) hx hy a b = rw (top_first (fin false n d)) (top_first (root_of f (fin false n d)))
largest_root f (fin false m e) nan hx hy a b = nan_last (root_of f (fin false m e))
largest_root f (fin false m e) (inf false) hx hy a b = rw (top_last (fin false m e)) (top_last (root_of f (fin false m e)))
largest_root f (fin false m e) (fin false n d) hx hy a b =
    let p = rooted f m e hx in
    let q = rooted f n d hy in
    finite_largest f (fin false m e) (fin false n d) p.0 p.1 q.0 q.1 p.2 q.2 hx hy

below_top : (v : Float) (a c : ℕ) → HasValue v false a c → le v (inf false) ≡ true
unfolding le
below_top nan a c h = absurd h
below_top (inf s) a c h = absurd h
below_top (fin s m e) a c h = refl

-- the root grows with the number
pub root_mono : (f : Format) (x y : Float) → T (fits f x) → T (fits f y) → T (unsigned x) → T (unsigned y) → le x y ≡ true
    → le (root_of f x) (root_of f y) ≡ true
unfolding root_of le
root_mono f nan y hx hy a b h = absurd (true≢false (sym h))
root_mono f (inf true) y hx hy a b h = absurd a
root_mono f (fin true m e) y hx hy a b h = absurd a
root_mono f (inf false) nan hx hy a b h = absurd (true≢false (sym h))
root_mono f (inf false) (inf true) hx hy a b h = absurd b
root_mono f (inf false) (inf false) hx hy a b h = refl
root_mono f (inf false) (fin t n d) hx hy a b h = absurd (true≢false (sym h))
root_mono f (fin false m e) nan hx hy a b h = absurd (true≢false (sym h))
root_mono f (fin false m e) (inf true) hx hy a b h = absurd b
root_mono f (fin false m e) (inf false) hx hy a b h =
    let p = rooted f m e hx in below_top (root_of f (fin false m e)) p.1 (2 ^ low f) p.2.root
root_mono f (fin false m e) (fin true n d) hx hy a b h = absurd b
root_mono f (fin false m e) (fin false n d) hx hy a b h =
    let p = rooted f m e hx in
    let q = rooted f n d hy in
    is_true _ (mono f (fin false m e) (fin false n d) p.0 p.1 q.0 q.1 p.2 q.2 hx hy (subst T (sym h) tt))

-- what holds of two values holds of the larger one
pub largest_keeps : (P : Float → Type 0) (x y : Float) → P x → P y → P (largest_of x y)
unfolding largest_of
largest_keeps P x y p q = go (is_nan x) (is_nan y) (lt x y)
  where
    go : (a b c : Bool) → P (cond a y (cond b x (cond c y x)))
    go true b c = q
    go false true c = p
    go false false true = q
    go false false false = p

-- ---- what is rounded with the sign clear, a square, and a sum of two such have it clear
units_unsigned : (f : Format) (q k : ℕ) → T (unsigned (units f false q k))
unfolding units
units_unsigned f q k = go (ltb (q * 2 ^ k) (2 ^ (low f + suc (emax f)))) q
  where
    go : (b : Bool) (q : ℕ) → T (unsigned (cond b (odd (suc (prec f)) false q k (low f)) (inf false)))
    go false q = tt
    go true zero = tt
    go true (suc q) = tt

pub round_unsigned : (f : Format) (num den : ℕ) → T (unsigned (round f false num den))
unfolding round
round_unsigned f num den = units_unsigned f _ _

pub square_unsigned : (f : Format) (x : Float) → T (unsigned (mul f x x))
unfolding mul
square_unsigned f nan = tt
square_unsigned f (inf true) = tt
square_unsigned f (inf false) = tt
square_unsigned f (fin true m e) = round_unsigned f (m * up e * (m * up e)) (down e * down e)
square_unsigned f (fin false m e) = round_unsigned f (m * up e * (m * up e)) (down e * down e)

pub sum_unsigned : (f : Format) (x y : Float) → T (unsigned x) → T (unsigned y) → T (unsigned (add f x y))
unfolding add sum
sum_unsigned f nan y a b = tt
sum_unsigned f (inf true) y a b = absurd a
sum_unsigned f (fin true m e) y a b = absurd a
sum_unsigned f (inf false) nan a b = tt
sum_unsigned f (inf false) (inf true) a b = absurd b
sum_unsigned f (inf false) (inf false) a b = tt
sum_unsigned f (inf false) (fin t n d) a b = tt
sum_unsigned f (fin false m e) nan a b = tt
sum_unsigned f (fin false m e) (inf true) a b = absurd b
sum_unsigned f (fin false m e) (inf false) a b = tt
sum_unsigned f (fin false m e) (fin true n d) a b = absurd b
sum_unsigned f (fin false m e) (fin false n d) a b = round_unsigned f (m * up e * down d + n * up d * down e) (down e * down d)
