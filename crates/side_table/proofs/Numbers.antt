-- Numbers for vertices, for `number_vertex` and `number_all`: one more vertex is seen; and that each pair of numbered vertices has an entry
-- of its own in the table.
use mathlib.Core.Path.{◌≡◌, refl, sym, ◌∙◌, ap}
use mathlib.Core.Logic.{◌≢◌}
use mathlib.Core.List.{List, [], ◌∷◌}
use Prim.Native.Nat.{ℕ, zero, suc, ◌+◌, ◌*◌, ◌<◌, ◌≤◌}
use native.Mathlib.Nat.{mul-le-mul, mul-le-mul_right}
use native.Mathlib.Decide.{ℕ_discrete, dec_lt}
use native.Mathlib.Omega.{arith}
use lib.ListN.{length, get_or, set, length-set, replicate, length-replicate, get_or-replicate}
use lib.Seq.{get_or-set_same, get_or-set_other}
use borrow.Author.Tests.{eq-eqb, ne_eqb}
use Rattle.places.specs.Lists.{Each}
use Rattle.places.proofs.Loops.{Taking, take_start, take_next, take_end}
use Rattle.side_table.specs.Numbers.{Known, unnamed, Numbering, mention, mentioned, Follows, Named, entry_of}
use Rattle.side_table.proofs.Mentioned.{follows_still, follows_more, follows_nobody}
use Rattle.side_table.proofs.Pairs.{Tells}

-- ---- one more has a number
named_one : (number : List ℕ) (x w : ℕ) → x < length number → get_or number x 0 ≡ 256 → w ≢ 256
    → unnamed number ≡ suc (unnamed (set number x w))
named_one [] x w h e n = absurd (omega arith)
named_one (a ∷ number) zero w h e n = rw (eq-eqb a 256 e, ne_eqb w 256 n) (omega arith)
named_one (a ∷ number) (suc x) w h e n = omega (arith, named_one number x w (omega arith) e n)

module _ {number : List ℕ} {k x : ℕ} (g : Numbering number k) (h : x < 256) where
  -- the vertex has one already
  pub already : get_or number x 0 ≢ 256 → Named number k x number k
  already n = record {
    still = g;
    kept = λ y i. i;
    known = record { within = omega (arith, g.size); told = g.told x h n };
    mentions = λ vs f. follows_still g h f n;
  }

  -- the vertex gets the number k
  module _ (e : get_or number x 0 ≡ 256) where
    inside : x < length number
    inside = omega (arith, g.size)

    pub small : k < 256
    small =
        let n : ◌≢◌ {A = ℕ} 0 256 = λ z. absurd (omega arith) in
        omega (arith, g.given, named_one number x 0 inside e n)

    here : get_or (set number x k) x 0 ≡ k
    here = get_or-set_same number x k 0 inside

    there : (y : ℕ) → y ≢ x → get_or (set number x k) y 0 ≡ get_or number y 0
    there y n = get_or-set_other number x y k 0 n

    -- who has a number has another than k
    below : (y : ℕ) → y < 256 → y ≢ x → get_or (set number x k) y 0 ≢ 256 → get_or (set number x k) y 0 < k
    below y hy n f = rw (there y n) (g.told y hy (rw (there y n) at f))

    told' : (y : ℕ) → y < 256 → get_or (set number x k) y 0 ≢ 256 → Dec (y ≡ x) → get_or (set number x k) y 0 < k + 1
    told' y hy f (yes p) = rw (p, here) (omega arith)
    told' y hy f (no n) = omega (arith, below y hy n f)

    apart' : (y z : ℕ) → y < 256 → z < 256 → get_or (set number x k) y 0 ≢ 256 → get_or (set number x k) y 0 ≡ get_or (set number x k) z 0
        → Dec (y ≡ x) → Dec (z ≡ x) → y ≡ z
    apart' y z hy hz f q (yes p) (yes r) = p ∙ sym r
    apart' y z hy hz f q (yes p) (no r) =
        let w : get_or (set number x k) y 0 ≡ k = rw p here in
        absurd (omega (arith, below z hz r (rw q at f)))
    apart' y z hy hz f q (no p) (yes r) =
        let w : get_or (set number x k) z 0 ≡ k = rw r here in
        absurd (omega (arith, below y hy p f))
    apart' y z hy hz f q (no p) (no r) = g.apart y z hy hz (rw (there y p) at f) (sym (there y p) ∙ q ∙ there z r)

    kept' : (y : ℕ) → Known number k y → Dec (y ≡ x) → get_or (set number x k) y 0 < k + 1
    kept' y i (yes p) = rw (p, here) (omega arith)
    kept' y i (no n) = rw (there y n) (omega (arith, i.told))

    pub newly : Named number k x (set number x k) (k + 1)
    newly = record {
      still = record {
        size = length-set number x k ∙ g.size;
        given = omega (arith, g.given, named_one number x k inside e (λ z. absurd (omega (arith, small))));
        told = λ y hy f. told' y hy f (ℕ_discrete y x);
        apart = λ y z hy hz f q. apart' y z hy hz f q (ℕ_discrete y x) (ℕ_discrete z x);
      };
      kept = λ y i. record { within = rw length-set i.within; told = kept' y i (ℕ_discrete y x) };
      known = record { within = rw length-set inside; told = rw here (omega arith) };
      mentions = λ vs f. follows_more g h f e small;
    }

-- ---- the corners seen so far
pub record Seen (number : List ℕ) (k : ℕ) (corners : List ℕ) (i : ℕ) : Type 0 where
  pub within : i ≤ length corners
  pub numbering : Numbering number k
  pub known : (j : ℕ) → j < i → Known number k (get_or corners j 0)
  pub so_far : List ℕ
  pub taking : Taking mention corners (mentioned corners) i so_far
  pub follows : Follows number k so_far

pub seen_none : {number : List ℕ} (corners : List ℕ) → Numbering number 0 → Seen number 0 corners 0
unfolding mentioned
seen_none corners g = record {
  within = omega arith;
  numbering = g;
  known = λ j h. absurd (omega arith);
  so_far = [];
  taking = take_start refl;
  follows = follows_nobody g;
}

pub seen_more : {number number' corners : List ℕ} {k k' i x : ℕ} → Seen number k corners i → i < length corners → x ≡ get_or corners i 0
    → Named number k x number' k' → Seen number' k' corners (i + 1)
seen_more {number} {number'} {corners} {k} {k'} {i} {x} s h e n =
    record {
      within = omega arith;
      numbering = n.still;
      known = λ j q. go j q (ℕ_discrete j i);
      so_far = mention x s.so_far;
      taking = take_next 0 s.taking h (rw e);
      follows = n.mentions s.so_far s.follows;
    }
  where
    go : (j : ℕ) → j < i + 1 → Dec (j ≡ i) → Known number' k' (get_or corners j 0)
    go j q (yes p) = rw (p, ← e) n.known
    go j q (no p) = n.kept (get_or corners j 0) (s.known j (omega arith))

pub seen_all : {number corners : List ℕ} {k i : ℕ} → Seen number k corners i → length corners ≤ i
    → Numbering number k × Each 0 (Known number k) corners × Follows number k (mentioned corners)
seen_all s h =
    (s.numbering, record { holds = λ j q. s.known j (omega arith) }, rw (take_end s.taking h) at s.follows)

-- ---- no vertex has a number
blank_names : (n : ℕ) → unnamed (replicate n 256) ≡ n
blank_names zero = refl
blank_names (suc n) = omega (arith, blank_names n)

pub nobody : (n : ℕ) → n ≡ 256 → Numbering (replicate n 256) 0
nobody n e = record {
  size = length-replicate n 256 ∙ e;
  given = omega (arith, blank_names n);
  told = λ x h f. absurd (f (get_or-replicate n x 256 0 (omega arith)));
  apart = λ x y h h' f q. absurd (f (get_or-replicate n x 256 0 (omega arith)));
}

-- ---- entries of the table
pub few : {number : List ℕ} {k : ℕ} → Numbering number k → k ≤ 256
few g = omega (arith, g.given)

row : (k a b x y : ℕ) → b < k → y < k → a * k + b ≡ x * k + y → a ≡ x
row k a b x y hb hy e = go (dec_lt a x) (dec_lt x a)
  where
    go : Dec (a < x) → Dec (x < a) → a ≡ x
    go (yes h) d = absurd (omega (arith, mul-le-mul_right k h))
    go (no g) (yes h) = absurd (omega (arith, mul-le-mul_right k h))
    go (no g) (no h) = omega arith

pub entry_below : {number : List ℕ} {k a b : ℕ} → Known number k a → Known number k b → entry_of number k a b < k * k
unfolding entry_of
entry_below {number} {k} {a} {b} ha hb = omega (arith, mul-le-mul_right k ha.told, hb.told)

-- what the code computes on the way to an entry is small
pub entry_fits : {number : List ℕ} {k a b : ℕ} → Known number k a → Known number k b → k ≤ 256
    → get_or number a 0 * k + get_or number b 0 ≤ 65536
entry_fits {number} {k} {a} {b} ha hb h = omega (arith, mul-le-mul_right k ha.told, hb.told, mul-le-mul h h)

-- each pair of vertices that have a number has an entry of its own
pub entries : {number : List ℕ} {k : ℕ} → Numbering number k → Tells (Known number k) (entry_of number k) (k * k)
unfolding entry_of
entries {number} {k} g = record { within = entry_below; apart = go }
  where
    one : {x y : ℕ} → Known number k x → Known number k y → get_or number x 0 ≡ get_or number y 0 → x ≡ y
    one {x} {y} hx hy e =
        g.apart x y (omega (arith, hx.within, g.size)) (omega (arith, hy.within, g.size))
        (λ z. absurd (omega (arith, hx.told, few g))) e

    go : {a b x y : ℕ} → Known number k a → Known number k b → Known number k x → Known number k y
        → entry_of number k a b ≡ entry_of number k x y → (a ≡ x) × (b ≡ y)
    go {a} {b} {x} {y} ha hb hx hy e =
        let r : get_or number a 0 ≡ get_or number x 0 =
        row k (get_or number a 0) (get_or number b 0) (get_or number x 0) (get_or number y 0) hb.told hy.told e
        in
        (one ha hx r, one hb hy (omega (arith, ap (λ n. n * k) r)))
