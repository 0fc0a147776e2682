-- The word of eight bytes is what the library makes of them (`word_bytes`); and bytes 1 to 7 are zero exactly where the little-endian word
-- is its first byte (`clear_word`), which is how `bytes::clear` tests them.
use mathlib.Core.Path.{◌≡◌, refl, sym}
use mathlib.Core.Bool.{Bool, true, false, ◌&&◌}
use mathlib.Core.List.{List, [], ◌∷◌}
use Prim.Native.Nat.{ℕ, ◌+◌, ◌*◌}
use native.Mathlib.Omega.{arith}
use lib.Dec.{eqb}
use lib.ListN.{get_or}
use borrow.Author.Tests.{eq-eqb, eqb-true}
use Rattle.std.specs.Int.{w64, from_le_bytes}
use Rattle.records.specs.Bytes.{word_of, clear_of}

-- two tests that hold together are equal
same : (x y : Bool) → (x ≡ true → y ≡ true) → (y ≡ true → x ≡ true) → x ≡ y
same true y f g = sym (f refl)
same false true f g = g refl
same false false f g = refl

both : (x y : Bool) → (x && y) ≡ true → (x ≡ true) × (y ≡ true)
both true y h = (refl, h)
both false y h = let z : ◌≡◌ {A = Bool} false true = h in let e : ◌≡◌ {A = ℕ} 0 1 = cc in absurd (omega arith)

module _ (a b c d e f g h : ℕ) where
  sum : from_le_bytes w64 (a ∷ b ∷ c ∷ d ∷ e ∷ f ∷ g ∷ h ∷ [])
      ≡ a + 256 * b + 65536 * c + 16777216 * d + 4294967296 * e + 1099511627776 * f + 281474976710656 * g + 72057594037927936 * h
  sum = omega arith

  zeros : a + 256 * b + 65536 * c + 16777216 * d + 4294967296 * e + 1099511627776 * f + 281474976710656 * g + 72057594037927936 * h ≡ a
      → (b ≡ 0) × (c ≡ 0) × (d ≡ 0) × (e ≡ 0) × (f ≡ 0) × (g ≡ 0) × (h ≡ 0)
  zeros z = omega arith

  alone : b ≡ 0 → c ≡ 0 → d ≡ 0 → e ≡ 0 → f ≡ 0 → g ≡ 0 → h ≡ 0
      → a + 256 * b + 65536 * c + 16777216 * d + 4294967296 * e + 1099511627776 * f + 281474976710656 * g + 72057594037927936 * h ≡ a
  alone p q r s t u v = omega arith

  word_alone : eqb (a + 256 * b + 65536 * c + 16777216 * d + 4294967296 * e + 1099511627776 * f + 281474976710656 * g
      + 72057594037927936 * h) a
      ≡ (eqb b 0 && (eqb c 0 && (eqb d 0 && (eqb e 0 && (eqb f 0 && (eqb g 0 && eqb h 0))))))
  word_alone =
      same _ _
      (λ w. let z = zeros (eqb-true _ a w) in rw (z.0, z.1, z.2, z.3, z.4, z.5, z.6))
      (λ w.
      let p = both (eqb b 0) _ w in
      let q = both (eqb c 0) _ p.1 in
      let r = both (eqb d 0) _ q.1 in
      let s = both (eqb e 0) _ r.1 in
      let t = both (eqb f 0) _ s.1 in
      let u = both (eqb g 0) (eqb h 0) t.1 in
      eq-eqb _ a
      (alone (eqb-true b 0 p.0) (eqb-true c 0 q.0) (eqb-true d 0 r.0) (eqb-true e 0 s.0) (eqb-true f 0 t.0)
      (eqb-true g 0 u.0) (eqb-true h 0 u.1)))

pub clear_word : (s : List ℕ) (at : ℕ) → eqb (word_of s at) (get_or s at 0) ≡ clear_of s at
unfolding word_of clear_of
clear_word s at =
    word_alone (get_or s at 0) (get_or s (at + 1) 0) (get_or s (at + 2) 0) (get_or s (at + 3) 0) (get_or s (at + 4) 0) (get_or s (at + 5) 0)
    (get_or s (at + 6) 0) (get_or s (at + 7) 0)

pub word_bytes : (s : List ℕ) (at : ℕ)
    → from_le_bytes w64 (get_or s at 0 ∷ get_or s (at + 1) 0 ∷ get_or s (at + 2) 0 ∷ get_or s (at + 3) 0 ∷ get_or s (at + 4) 0
    ∷ get_or s (at + 5) 0 ∷ get_or s (at + 6) 0 ∷ get_or s (at + 7) 0 ∷ [])
    ≡ word_of s at
unfolding word_of
word_bytes s at =
    sum (get_or s at 0) (get_or s (at + 1) 0) (get_or s (at + 2) 0) (get_or s (at + 3) 0) (get_or s (at + 4) 0) (get_or s (at + 5) 0)
    (get_or s (at + 6) 0) (get_or s (at + 7) 0)
