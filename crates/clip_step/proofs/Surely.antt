-- Sums of squares in place of distances: what is known of such a sum, and from which one on the root is sure to be above eps.
use mathlib.Core.Path.{◌≡◌, sym}
use mathlib.Core.Bool.{true, false, true≢false}
use lib.Dec.{T}
use lib.Ieee.{Float, binary64, of_bits, fits, div, lt, le}
use lib.Ieee.Fits.{add-fits, mul-fits}
use Rattle.floats.specs.F64.{◌-f◌, ◌*f◌, ◌/f◌, ◌+f◌, zero64}
use Rattle.floats.specs.Root.{root_of}
use Rattle.floats.proofs.Monotone.{unsigned, square_unsigned, sum_unsigned, root_mono}
use Rattle.floats.proofs.Order.{lt_le, lt_not_le}
use Rattle.flat.specs.Points.{Point, at}
use Rattle.clip_step.specs.Doubled.{square_of, dist3_of}
use Rattle.clip_step.specs.Steps.{Sure}

pub square_fits : (a b : Point) → T (fits binary64 (square_of a b))
unfolding square_of
square_fits a b = add-fits binary64 _ _

pub square_clear : (a b : Point) → T (unsigned (square_of a b))
unfolding square_of
square_clear a b =
    let x = at a 0 -f at b 0 in
    let y = at a 1 -f at b 1 in
    let z = at a 2 -f at b 2 in
    let first_two = sum_unsigned binary64 (x *f x) (y *f y) (square_unsigned binary64 x) (square_unsigned binary64 y) in
    sum_unsigned binary64 (x *f x +f y *f y) (z *f z) first_two (square_unsigned binary64 z)

-- ---- a square whose root is above eps, and a NaN, which no sum reaches
pub sure_of : (eps h : Float) → lt eps (root_of binary64 (h *f h)) ≡ true → Sure eps (h *f h)
unfolding dist3_of
sure_of eps h e =
    record {
      far = λ a b k. lt_le eps (root_of binary64 (h *f h)) (root_of binary64 (square_of a b)) e
          (root_mono binary64 (h *f h) (square_of a b) (mul-fits binary64 h h) (square_fits a b)
          (square_unsigned binary64 h) (square_clear a b) k);
    }

pub never_sure : (eps : Float) → Sure eps (zero64 /f zero64)
unfolding div of_bits le
never_sure eps = record { far = λ a b k. absurd (true≢false (sym k)) }

-- ---- a sum that is sure
module _ {eps sure s : Float} (a b : Point) (q : Sure eps sure) (e : s ≡ square_of a b) (h : le sure s ≡ true) where
  pub surely_far : true ≡ lt eps (dist3_of a b)
  surely_far = sym (q.far a b (rw (← e) h))

  pub surely_not_near : false ≡ le (dist3_of a b) eps
  surely_not_near = sym (lt_not_le eps (dist3_of a b) (sym surely_far))
