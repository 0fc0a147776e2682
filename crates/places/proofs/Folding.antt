-- A loop that changes a state at each of n places, whatever it does there, by its start, its next place and its end: the invariant of the
-- loops that fill or turn a list. It says that what is left to do from here makes the whole.
use mathlib.Core.Path.{◌≡◌, sym, ◌∙◌}
use Prim.Native.Nat.{ℕ, zero, suc, ◌+◌, ◌-◌, ◌<◌, ◌≤◌, zero-le}
use native.Mathlib.Nat.{sub-zero}
use native.Mathlib.Omega.{arith}

-- s after the next `left` places, from place i on
unfoldable pub fold_from : {S : Type 0} → (ℕ → S → S) → ℕ → ℕ → S → S
fold_from f zero i s = s
fold_from f (suc left) i s = fold_from f left (i + 1) (f i s)

-- what is left at i is one more than what is left at i + 1, and at the end nothing is left
pub left_suc : (n i : ℕ) → i < n → n - i ≡ suc (n - (i + 1))
left_suc n i h = omega arith

pub left_none : (n i : ℕ) → n ≤ i → n - i ≡ 0
left_none n i h = omega arith

-- from place i and state s on the loop comes to `whole`
pub record Folding {S : Type 0} (f : ℕ → S → S) (n : ℕ) (whole : S) (i : ℕ) (s : S) : Type 0 where
  pub within : i ≤ n
  pub so : fold_from f (n - i) i s ≡ whole

module _ {S : Type 0} {f : ℕ → S → S} {n : ℕ} {whole : S} where
  pub fold_start : {s : S} → fold_from f n 0 s ≡ whole → Folding f n whole 0 s
  fold_start e = record { within = zero-le; so = rw sub-zero e }

  pub fold_next : {i : ℕ} {s s' : S} → Folding f n whole i s → i < n → s' ≡ f i s → Folding f n whole (i + 1) s'
  unfolding fold_from
  fold_next {i} {s} {s'} p h e = record { within = omega arith; so = rw e (sym (rw (left_suc n i h)) ∙ p.so) }

  pub fold_end : {i : ℕ} {s : S} → Folding f n whole i s → n ≤ i → s ≡ whole
  unfolding fold_from
  fold_end {i} {s} p h = sym (rw (left_none n i h)) ∙ p.so
