-- What `least` and `largest`, and `lesser` and `greater`, may answer after each of their tests.
use mathlib.Core.Path.{◌≡◌, refl, sym, ap, ◌∙◌}
use mathlib.Core.Bool.{Bool, true, false, cond}
use lib.Ieee.{Float, nan, inf, fin, is_nan, lt}
use Rattle.floats.specs.Pick.{least_of, largest_of}
use Rattle.floats.proofs.Nans.{is_nan_lem, not_below_nan}

-- ---- the earlier operand is a NaN
pub least_at_nan : (a b : Float) → is_nan a ≡ true → b ≡ least_of a b
unfolding least_of is_nan
least_at_nan a b h = rw (is_nan_lem a h)

pub largest_at_nan : (a b : Float) → is_nan a ≡ true → b ≡ largest_of a b
unfolding largest_of is_nan
largest_at_nan a b h = rw (is_nan_lem a h)

-- ---- it is a number: then the comparison decides, since a NaN is neither below nor above it
not_below_lem : (a : Float) → lt nan a ≡ false
unfolding lt
not_below_lem a = refl

-- a choice by a test t that is false where b is a NaN
by_test : (a b : Float) (t : Bool) → (b ≡ nan → t ≡ false) → cond t b a ≡ cond (is_nan b) a (cond t b a)
unfolding is_nan
by_test a nan t f = ap (λ (u : Bool). cond u nan a) (f refl)
by_test a (inf s) t f = refl
by_test a (fin s m e) t f = refl

pub least_below : (a b : Float) → is_nan a ≡ false → lt b a ≡ true → b ≡ least_of a b
unfolding least_of
least_below a b n e = rw (n, e) (by_test a b true (λ f. e' f))
  where
    e' : b ≡ nan → true ≡ false
    e' f = sym e ∙ rw f (not_below_lem a)

pub least_not_below : (a b : Float) → is_nan a ≡ false → lt b a ≡ false → a ≡ least_of a b
unfolding least_of
least_not_below a b n e = rw (n, e) (by_test a b false (λ f. refl))

pub largest_above : (a b : Float) → is_nan a ≡ false → lt a b ≡ true → b ≡ largest_of a b
unfolding largest_of
largest_above a b n e = rw (n, e) (by_test a b true (λ f. e' f))
  where
    e' : b ≡ nan → true ≡ false
    e' f = sym e ∙ rw f (not_below_nan a)

pub largest_not_above : (a b : Float) → is_nan a ≡ false → lt a b ≡ false → a ≡ largest_of a b
unfolding largest_of
largest_not_above a b n e = rw (n, e) (by_test a b false (λ f. refl))

-- what is answered is a number too
chosen : (a b : Float) (t : Bool) → is_nan a ≡ false → is_nan (cond (is_nan b) a (cond t b a)) ≡ false
unfolding is_nan
chosen a nan t n = n
chosen a (inf s) true n = refl
chosen a (inf s) false n = n
chosen a (fin s m e) true n = refl
chosen a (fin s m e) false n = n

pub least_number : (a b : Float) → is_nan a ≡ false → is_nan (least_of a b) ≡ false
unfolding least_of
least_number a b n = rw n (chosen a b (lt b a) n)

pub largest_number : (a b : Float) → is_nan a ≡ false → is_nan (largest_of a b) ≡ false
unfolding largest_of
largest_number a b n = rw n (chosen a b (lt a b) n)
