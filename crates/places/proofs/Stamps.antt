-- Lists of zeros, and lists of stamps, which a stamp that is written leaves below every later one; for the functions that lend a list of
-- their own, and for those that write numbers into it.
use mathlib.Core.Path.{◌≡◌}
use mathlib.Core.List.{List}
use Prim.Native.Nat.{ℕ, zero, suc, ◌+◌, ◌<◌, ◌≤◌}
use native.Mathlib.Decide.{ℕ_discrete, dec_lt}
use native.Mathlib.Omega.{arith}
use lib.ListN.{length, get_or, set, take, replicate}
use lib.Seq.{get_or-set_same, get_or-set_other, set_out}
use Rattle.places.specs.Steps.{Blank, Fresh}

-- ---- lists of zeros
pub zeros : (n : ℕ) → Blank (replicate n 0)
zeros n = record { zero = go n }
  where
    go : (m k : ℕ) → get_or (replicate m 0) k 0 ≤ 0
    go zero k = omega arith
    go (suc m) zero = omega arith
    go (suc m) (suc k) = go m k

-- the first n of k zeros
pub blank_part : (n k : ℕ) → Blank (take n (replicate k 0))
blank_part n k = record { zero = go n k }
  where
    go : (n k j : ℕ) → get_or (take n (replicate k 0)) j 0 ≤ 0
    go zero k j = omega arith
    go (suc n) zero j = omega arith
    go (suc n) (suc k) zero = omega arith
    go (suc n) (suc k) (suc j) = go n k j

-- ---- what holds of each place still does once a number is written, if it holds of that number at its place
pub set_holds : (P : ℕ → ℕ → Type 0) (t : List ℕ) (s x : ℕ) → P s x → ((p : ℕ) → P p (get_or t p 0)) → (p : ℕ)
    → P p (get_or (set t s x) p 0)
set_holds P t s x here all p = go (ℕ_discrete p s) (dec_lt s (length t))
  where
    go : Dec (p ≡ s) → Dec (s < length t) → P p (get_or (set t s x) p 0)
    go (yes e) (yes h) = rw (e, get_or-set_same t s x 0 h) here
    go (yes e) (no h) = rw (set_out t s x (omega arith)) (all p)
    go (no n) h = rw (get_or-set_other t s p x 0 n) (all p)

-- ---- stamps
pub fresh_none : {stamp : List ℕ} → Blank stamp → Fresh 1 stamp
fresh_none z = record { below = λ x. omega (arith, z.zero x) }

pub fresh_more : {own : ℕ} {stamp : List ℕ} → Fresh own stamp → Fresh (own + 1) stamp
fresh_more f = record { below = λ x. omega (arith, f.below x) }

-- a lower stamp is written
pub fresh_set : {own : ℕ} {stamp : List ℕ} (x b : ℕ) → x < own → Fresh own stamp → Fresh own (set stamp b x)
fresh_set {own} {stamp} x b h f = record { below = set_holds (λ p z. z < own) stamp b x h f.below }
