-- What a caller is told of values that were put at the front of a list, and of a clipping.
use mathlib.Core.Path.{◌≡◌, refl, sym, ◌∙◌, ap}
use mathlib.Core.Logic.{◌≢◌}
use mathlib.Core.Bool.{Bool, true, false, cond, ◌||◌}
use mathlib.Core.List.{List, []}
use Prim.Native.Nat.{ℕ, ◌≤◌, ◌<◌, zero-le}
use native.Mathlib.Omega.{arith}
use lib.ListN.{length}
use lib.Ieee.{Float}
use borrow.Author.Tests.{lt-ltb, le-ltb}
use Rattle.geometry.specs.declared.Outline.{Outline}
use Rattle.geometry.specs.Answers.{Answer}
use Rattle.std.specs.Prelude.{Option, None, Some, Ok, Err}
use Rattle.geometry.specs.Answers.{front}
use Rattle.geometry.specs.Listed.{values, Reply, told, too_short, written, of_clipped, hidden, clipping_told}

-- ---- what a caller is told of numbers alone, and of counts alone
numbers_if : (short : Bool) (xs new : List Float)
    → told (cond short 6 0) (cond short xs new) [] ≡ cond (short || false) (told 6 xs []) (told 0 new [])
numbers_if true xs new = refl
numbers_if false xs new = refl

pub numbers_told : (vs xs : List Float) {r : ℕ} {after : List Float} → r ≡ cond (too_short vs xs) 6 0
    → after ≡ cond (too_short vs xs) xs (front vs xs) → told r after [] ≡ written (values vs []) xs []
numbers_told vs xs code list = rw (code, list) (numbers_if (too_short vs xs) xs (front vs xs))

counts_if : (short : Bool) (ns new : List ℕ) → told (cond short 6 0) [] (cond short ns new) ≡ cond short (told 6 [] ns) (told 0 [] new)
counts_if true ns new = refl
counts_if false ns new = refl

pub counts_told : (ms ns : List ℕ) {r : ℕ} {after : List ℕ} → r ≡ cond (too_short ms ns) 6 0
    → after ≡ cond (too_short ms ns) ns (front ms ns) → told r [] after ≡ written (values [] ms) [] ns
counts_told ms ns code list = rw (code, list) (counts_if (too_short ms ns) ns (front ms ns))

-- counts beside a list of numbers that is not written to
pub counts_beside : (ms : List ℕ) (xs : List Float) (ns : List ℕ) {code : ℕ} {after : List ℕ}
    → told code [] after ≡ written (values [] ms) [] ns → told code xs after ≡ written (values [] ms) xs ns
counts_beside ms xs ns {code} {after} e = go (too_short ms ns) refl
  where
    go : (b : Bool) → too_short ms ns ≡ b → told code xs after ≡ written (values [] ms) xs ns
    go true s =
        let all : told code [] after ≡ told 6 [] ns = e ∙ rw s in
        rw (le-ltb (length xs) 0 zero-le, s, ap (λ (t : Reply). t.0) all, ap (λ (t : Reply). t.2) all)
    go false s =
        let all : told code [] after ≡ told 0 [] (front ms ns) = e ∙ rw s in
        rw (le-ltb (length xs) 0 zero-le, s, ap (λ (t : Reply). t.0) all, ap (λ (t : Reply). t.2) all)

-- ---- of numbers and counts together: into neither list unless both have the room
module _ (vs : List Float) (ms : List ℕ) (xs : List Float) (ns : List ℕ) where
  pub both_first : length xs < length vs → told 6 xs ns ≡ written (values vs ms) xs ns
  both_first h = rw (lt-ltb (length xs) (length vs) h)

  -- the counts are told already
  module _ {code : ℕ} {after : List ℕ} (h : length vs ≤ length xs) (counts : told code [] after ≡ written (values [] ms) [] ns) where
    code_is : code ≡ (written (values [] ms) [] ns).0
    code_is = ap (λ (t : Reply). t.0) counts

    after_is : after ≡ (written (values [] ms) [] ns).2
    after_is = ap (λ (t : Reply). t.2) counts

    pub both_second : code ≢ 0 → told code xs after ≡ written (values vs ms) xs ns
    both_second n = go (too_short ms ns) refl
      where
        go : (b : Bool) → too_short ms ns ≡ b → told code xs after ≡ written (values vs ms) xs ns
        go true e = rw (le-ltb (length xs) (length vs) h, code_is, after_is, e)
        go false e = absurd (n (code_is ∙ rw e))

    -- and the numbers are then put
    pub both_put : {r : ℕ} {put : List Float} → code ≡ 0 → told r put [] ≡ written (values vs []) xs []
        → told r put after ≡ written (values vs ms) xs ns
    both_put {r} {put} z p = go (too_short ms ns) refl
      where
        room : too_short vs xs ≡ false
        room = le-ltb (length xs) (length vs) h

        all : told r put [] ≡ told 0 (front vs xs) []
        all = p ∙ rw room

        go : (b : Bool) → too_short ms ns ≡ b → told r put after ≡ written (values vs ms) xs ns
        go true e = absurd (let six : 0 ≡ 6 = sym z ∙ code_is ∙ rw e in omega arith)
        go false e = rw (room, after_is, e, ap (λ (t : Reply). t.0) all, ap (λ (t : Reply). t.1) all)

-- ---- of a clipping
module _ (a : Answer (Option Outline)) (shown : List ℕ) (first second : List Float) where
  pub shown_long : {r : ℕ} {shown' : List ℕ} → 2 ≤ length shown → told r [] shown' ≡ written (of_clipped a) [] shown
      → (r, shown', first, second) ≡ clipping_told (a, first, second) shown
  shown_long h e = rw (ap (λ (t : Reply). t.0) e, ap (λ (t : Reply). t.2) e, le-ltb (length shown) 2 h)

pub shown_short : (a : Answer (Option Outline)) (shown : List ℕ) (first second : List Float) {r : ℕ} {first' second' : List Float}
    → length shown < 2 → told r [] [] ≡ written (of_clipped a) [] [] → first' ≡ hidden a first → second' ≡ hidden a second
    → (r, shown, first', second') ≡ clipping_told (a, first, second) shown
shown_short (Ok None) shown first second h e f s = rw (ap (λ (t : Reply). t.0) e, f, s, lt-ltb (length shown) 2 h)
shown_short (Ok (Some o)) shown first second h e f s = rw (ap (λ (t : Reply). t.0) e, f, s, lt-ltb (length shown) 2 h)
shown_short (Err why) shown first second h e f s = rw (ap (λ (t : Reply). t.0) e, f, s, lt-ltb (length shown) 2 h)
