-- The Newell sums of at most 2,048 points whose coordinates are at most 2 ^ 40 in magnitude are at most 2 ^ 93: a difference and a sum of
-- two coordinates are at most 2 ^ 41, their product, a side's term, at most 2 ^ 82, and k terms at most k * 2 ^ 82, which is an f64.
use mathlib.Core.Path.{◌≡◌, subst}
use mathlib.Core.List.{List, [], ◌∷◌}
use Prim.Native.Nat.{ℕ, suc, ◌+◌, ◌*◌, ◌^◌, ◌≤◌, ◌<◌}
use native.Mathlib.Nat.{le_trans, lt_of_le_of_lt, mul-le-mul_right, zero-add}
use native.Mathlib.Omega.{arith}
use lib.Dec.{T, lit≤, lit<}
use lib.ListN.{length}
use lib.Ieee.{Float, binary64, fits, of_bits}
use lib.Ieee.Fits.{add-fits}
use Rattle.places.specs.Lists.{Each}
use Rattle.places.specs.Loops.{fold_list}
use Rattle.places.specs.Ring.{walk, fold_pairs}
use Rattle.places.proofs.Lists.{each_head, each_tail}
use Rattle.floats.specs.F64.{◌+f◌, ◌-f◌, ◌*f◌, zero64}
use Rattle.floats.proofs.AtMost.{AtMost, whole_value, at_most_to, at_most_add}
use Rattle.floats.proofs.Within.{Within, within_at_most, within_add, within_sub, within_mul}
use Rattle.flat.specs.Points.{Point, at}
use Rattle.flat.specs.Flat.{newell_side, newell_of}

-- a point of space whose coordinates are at most 2 ^ 40 in magnitude
pub record NearInSpace (p : Point) : Type 0 where
  pub x : Within 40 (at p 0)
  pub y : Within 40 (at p 1)
  pub z : Within 40 (at p 2)

-- ---- a sum of k terms
pub record Summed (k : ℕ) (s : Float) : Type 0 where
  pub an_f64 : T (fits binary64 s)
  pub bound : AtMost (k * 2 ^ 82) 1 s

term_within : (a b c d : Float) → Within 40 a → Within 40 b → Within 40 c → Within 40 d → Within 82 ((a -f b) *f (c +f d))
term_within a b c d A B C D =
    within_mul binary64 (a -f b) (c +f d) 41 41 (lit≤ tt) (within_sub binary64 a b 40 (lit≤ tt) A B)
    (within_add binary64 c d 40 (lit≤ tt) C D)

one_more : (k : ℕ) (s t : Float) → k < 2048 → Summed k s → Within 82 t → Summed (suc k) (s +f t)
one_more k s t h p w = record {
  an_f64 = add-fits binary64 s t;
  bound =
      subst (λ (z : ℕ). AtMost z 1 (s +f t)) (next (2 ^ 82))
      (at_most_add binary64 s t (k * 2 ^ 82) (2 ^ 82) 1 (lit< tt)
      (rw (next (2 ^ 82)) (whole_value binary64 (suc k) 82 (lt_of_le_of_lt h (lit< tt)) small)) p.bound (within_at_most t 82 w));
}
  where
    next : (u : ℕ) → k * u + u ≡ suc k * u
    next u = omega arith

    small : suc k * 2 ^ 82 < 2 ^ 1024
    small = lt_of_le_of_lt (mul-le-mul_right (2 ^ 82) h) (lit< tt)

-- the three Newell sums after k sides
pub record Sums (k : ℕ) (s : Point) : Type 0 where
  pub x : Summed k (at s 0)
  pub y : Summed k (at s 1)
  pub z : Summed k (at s 2)

-- ---- the sides one after the other
next_side : (k : ℕ) (a b s : Point) → k < 2048 → NearInSpace a → NearInSpace b → Sums k s → Sums (suc k) (newell_side a b s)
unfolding newell_side
next_side k a b s h A B p = record {
  x = one_more k (at s 0) _ h p.x (term_within _ _ _ _ A.y B.y A.z B.z);
  y = one_more k (at s 1) _ h p.y (term_within _ _ _ _ A.z B.z A.x B.x);
  z = one_more k (at s 2) _ h p.z (term_within _ _ _ _ A.x B.x A.y B.y);
}

along : (k : ℕ) (a : Point) (l : List Point) (z s : Point) → NearInSpace a → Each [] NearInSpace l → NearInSpace z
    → k + suc (length l) ≤ 2048 → Sums k s
    → Sums (k + suc (length l)) (fold_pairs newell_side (walk a l z) s)
unfolding fold_list
along k a [] z s A L Z h p = subst (λ (n : ℕ). Sums n (newell_side a z s)) (omega arith) (next_side k a z s (omega arith) A Z p)
along k a (b ∷ l) z s A L Z h p =
    subst (λ (n : ℕ). Sums n (fold_pairs newell_side (walk b l z) (newell_side a b s))) (omega arith)
    (along (suc k) b l z (newell_side a b s) (each_head L) (each_tail L) Z (omega arith)
    (next_side k a b s (omega arith) A (each_head L) p))

-- before the first side they are 0
none : Summed 0 zero64
unfolding of_bits fits
none = record { an_f64 = tt; bound = lit≤ tt }

pub newell_sums : (ps : List Point) → Each [] NearInSpace ps → length ps ≤ 2048 → Sums (length ps) (newell_of ps)
unfolding newell_of fold_list
newell_sums [] L h = record { x = none; y = none; z = none }
newell_sums (a ∷ l) L h =
    subst (λ (n : ℕ). Sums n (newell_of (a ∷ l))) (zero-add (suc (length l)))
    (along 0 a l a (zero64 ∷ zero64 ∷ zero64 ∷ []) (each_head L) (each_tail L) (each_head L) (omega arith)
    (record { x = none; y = none; z = none }))

-- so each is at most 2 ^ 93
pub summed_at_most : (k : ℕ) (s : Float) → k ≤ 2048 → Summed k s → AtMost (2 ^ 93) 1 s
summed_at_most k s h p =
    let l : k * 2 ^ 82 ≤ 2 ^ 93 = le_trans (mul-le-mul_right (2 ^ 82) h) (lit≤ tt) in
    at_most_to s (k * 2 ^ 82) 1 (2 ^ 93) 1 (lit< tt) (mul-le-mul_right 1 l) p.bound
