-- Text put behind text is one text (`then`), for every function that puts a line together; and the digits of a number, one after the
-- other, for `put_decimal` and `put_hex`.
use mathlib.Core.Path.{◌≡◌, refl, sym, ap, ◌∙◌}
use mathlib.Core.Bool.{Bool, true, false, cond}
use mathlib.Core.List.{List, [], ◌∷◌, ◌++◌, append_assoc}
use Prim.Native.Nat.{ℕ, zero, suc, ◌+◌, ◌*◌, ◌/◌, ◌%◌, ◌^◌, ◌-◌, ◌<◌, ◌≤◌}
use native.Mathlib.Nat.{add-zero, add-suc, suc-add, pow-suc}
use native.Mathlib.Omega.{arith}
use lib.ListN.{length, take, drop, set, length-append}
use lib.Seq.{sets, sets-eq, drop-drop}
use borrow.Rule.Slice.PartMut.{put_mid}
use lib.Dec.{ltb}
use borrow.Author.Tests.{lt-ltb, le-ltb}
use Rattle.lines.specs.Text.{Put, decimal, decimal_of, hex_of, digit_of}

pub sets_append : (l : List ℕ) (i : ℕ) (xs ys : List ℕ) → sets l i (xs ++ ys) ≡ sets (sets l i xs) (i + length xs) ys
sets_append l i [] ys = rw (add-zero i)
sets_append l i (x ∷ xs) ys = rw (add-suc i (length xs), ← suc-add i (length xs)) (sets_append (set l i x) (suc i) xs ys)

-- one after the other
pub then : {b : List ℕ} {at : ℕ} {xs : List ℕ} {m : List ℕ} {p : ℕ} {ys : List ℕ} {a : List ℕ} {q : ℕ}
    → Put b at xs m p → Put m p ys a q → Put b at (xs ++ ys) a q
then {b} {at} {xs} {m} {p} {ys} f g =
    record {
      holds = g.holds ∙ rw (f.holds, f.ends) (sym (sets_append b at xs ys));
      ends = simp length-append (omega (arith, f.ends, g.ends));
    }

-- a part of the list is the text, and the rest is as it was
pub put_part : (l : List ℕ) (at : ℕ) (s : List ℕ) {m : List ℕ} → m ≡ s → at + length s ≤ length l
    → put_mid at (at + length s - at) l m ≡ sets l at s
put_part l at s e h =
    let n : at + length s - at ≡ length s = omega arith in
    rw (e, n, drop-drop (length s) at l) (sym (append_assoc (take at l) s (drop (at + length s) l)) ∙ sym (sets-eq s l at h))

-- digits: there are no more than the bound, and a larger bound gives no more
short : (b : Bool) (x y : ℕ) (l : List ℕ) (k : ℕ) → length l ≤ k → length (cond b (x ∷ []) (l ++ (y ∷ []))) ≤ suc k
short true x y l k h = omega arith
short false x y l k h = simp length-append (omega arith)

pub decimal_length : (k n : ℕ) → length (decimal k n) ≤ k
unfolding decimal
decimal_length zero n = omega arith
decimal_length (suc k) n = short (ltb n 10) (48 + n) (48 + n % 10) (decimal k (n / 10)) k (decimal_length k (n / 10))

alike : (b : Bool) (x y : ℕ) (l m : List ℕ) → l ≡ m → cond b (x ∷ []) (l ++ (y ∷ [])) ≡ cond b (x ∷ []) (m ++ (y ∷ []))
alike b x y l m e = ap (λ (o : List ℕ). cond b (x ∷ []) (o ++ (y ∷ []))) e

tenth : (n p : ℕ) → n < p * 10 → n / 10 < p
tenth n p h = omega arith

pub decimal_more : (k n : ℕ) → n < 10 ^ suc k → decimal (suc (suc k)) n ≡ decimal (suc k) n
unfolding decimal
decimal_more zero n h = let l : n < 10 = h in rw (lt-ltb n 10 l)
decimal_more (suc k) n h =
    alike (ltb n 10) (48 + n) (48 + n % 10) (decimal (suc (suc k)) (n / 10)) (decimal (suc k) (n / 10))
    (decimal_more k (n / 10) (tenth n (10 ^ suc k) (rw (pow-suc 10 (suc k)) at h)))

pub decimal_small : (n : ℕ) → n < 10 → decimal_of n ≡ (48 + n) ∷ []
unfolding decimal
decimal_small n h = rw (lt-ltb n 10 h)

pub decimal_tenth : (n : ℕ) → n < 2 ^ 64 → decimal_of (n / 10) ≡ decimal 19 (n / 10)
decimal_tenth n h = decimal_more 18 (n / 10) (omega arith)

decimal_open : (n : ℕ) → 10 ≤ n → decimal_of n ≡ decimal 19 (n / 10) ++ ((48 + n % 10) ∷ [])
unfolding decimal
decimal_open n l = rw (le-ltb n 10 l)

pub decimal_step : (n : ℕ) → 10 ≤ n → n < 2 ^ 64 → decimal_of n ≡ decimal_of (n / 10) ++ ((48 + n % 10) ∷ [])
decimal_step n l h = decimal_open n l ∙ ap (λ (x : List ℕ). x ++ ((48 + n % 10) ∷ [])) (sym (decimal_tenth n h))

pub tenth_length : (n : ℕ) → n < 2 ^ 64 → length (decimal_of (n / 10)) ≤ 19
tenth_length n h = rw (decimal_tenth n h) (decimal_length 19 (n / 10))

pub hex_step : (k n : ℕ) → (k ≡ 0 → ⊥) → hex_of k n ≡ hex_of (k - 1) (n / 16) ++ (digit_of (n % 16) ∷ [])
unfolding hex_of
hex_step zero n h = absurd (h refl)
hex_step (suc k) n h = let e : suc k - 1 ≡ k = omega arith in rw e

pub hex_none : (k n : ℕ) → k ≡ 0 → hex_of k n ≡ []
unfolding hex_of
hex_none k n e = rw e

-- an equal byte
pub same_byte : {b : List ℕ} {at : ℕ} {x y : ℕ} {a : List ℕ} {q : ℕ} → x ≡ y → Put b at (x ∷ []) a q → Put b at (y ∷ []) a q
same_byte e p = rw e at p
