-- What holds of all corners of a cell holds of one that was read and of a face that was lent, for every loop over sides.
use mathlib.Core.Path.{◌≡◌}
use mathlib.Core.List.{List}
use Prim.Native.Nat.{ℕ, ◌<◌, ◌≤◌}
use native.Mathlib.Omega.{arith}
use lib.ListN.{length, get_or}
use lib.Seq.{slice}
use Rattle.places.specs.Lists.{Each}
use Rattle.places.proofs.Lists.{each_slice}

-- a corner that was read
pub each_at : {P : ℕ → Type 0} {c : List ℕ} {x : ℕ} (i : ℕ) → Each 0 P c → i < length c → x ≡ get_or c i 0 → P x
each_at i t h e = rw e (t.holds i h)

-- a face that was lent
pub each_face : {P : ℕ → Type 0} {face : List ℕ} (s e : ℕ) (c : List ℕ) → Each 0 P c → face ≡ slice s e c → Each 0 P face
each_face s e c t q = rw q (each_slice s e c t)

-- a bound may be raised
pub each_below : {v : ℕ} {c : List ℕ} (n : ℕ) → Each 0 (λ x. x < v) c → v ≤ n → Each 0 (λ x. x < n) c
each_below n t h = record { holds = λ k g. omega (arith, t.holds k g) }
