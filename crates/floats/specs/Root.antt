-- The square root of a float, rounded once: IEEE 754's squareRoot, to nearest, ties to even. It is computed on whole numbers;
-- specs/Nearest.antt states that no value of the format is nearer to the exact root, and that no tie arises. `round_root` serves the length
-- of two numbers as well (crate hypot), and there ties arise.
use Prim.Native.Nat.{ℕ, zero, suc, ◌+◌, ◌*◌, ◌/◌, ◌-◌, ◌^◌, ◌≤◌, ◌<◌, compare}
use Rattle.std.specs.Prelude.{false, cond, leb, eqb, Float}
use Rattle.std.specs.Float.{nan, inf, fin, Format}
use Rattle.std.specs.Float.Ieee.{prec, low, up, down, size, nearest, units}

-- r is the whole part of the root of n
pub record WholeRoot (n r : ℕ) : Type 0 where
  pub reached : r * r ≤ n
  pub not_passed : n < (r + 1) * (r + 1)

-- r + 1 where its square is still at most n, else r
abbrev pub raised : ℕ → ℕ → ℕ
raised n r = cond (leb ((r + 1) * (r + 1)) n) (r + 1) r

-- The whole root of an n of at most d pairs of binary digits: twice the root of all pairs but the last, and one more where that fits.
unfoldable pub root_of_pairs : ℕ → ℕ → ℕ
root_of_pairs zero n = 0
root_of_pairs (suc d) n = raised n (2 * root_of_pairs d (n / 4))

-- The largest r with r * r ≤ n (`floor_root_lem` of proofs/Squares.antt): n has `size n` binary digits, and no more pairs than that.
unfoldable pub floor_root : ℕ → ℕ
unfolding root_of_pairs size
floor_root n = root_of_pairs (size n) n

-- The value of the format that is nearest to the root of num / den, for a den above 0; of two that are equally near, the even one.
-- As in `round` of lib.Ieee, a unit is the format's smallest positive value, 2 ^ -low.
-- There the root is that of n / den, and `whole` is its whole part.
-- Of that the format keeps the `prec` leading binary digits, `kept`, and drops `dropped` of them.
-- So the result is `kept` or `kept + 1` times 2 ^ dropped units, by the `side` of the mid-point of the two on which the root lies.
-- `middle` is twice that mid-point, so 4 * n / den, the square of twice the root, is compared with its square.
unfoldable pub round_root : Format → ℕ → ℕ → Float
unfolding size units floor_root
round_root f num den =
    let n = num * (2 ^ low f * 2 ^ low f) in
    let whole = floor_root (n / den) in
    let dropped = size whole - prec f in
    let kept = whole / 2 ^ dropped in
    let middle = (2 * kept + 1) * 2 ^ dropped in
    let side = compare (4 * n) (middle * middle * den) in
    units f false (nearest kept side) dropped

-- The root of a NaN is a NaN, of +infinity itself, of a zero that zero with its sign, and of any other number with the sign set a NaN.
-- A number above zero is the fraction m * up e / down e, and its root is rounded once.
unfoldable pub root_of : Format → Float → Float
unfolding round_root
root_of f nan = nan
root_of f (inf s) = cond s nan (inf false)
root_of f (fin s m e) = cond (eqb m 0) (fin s m e) (cond s nan (round_root f (m * up e) (down e)))
