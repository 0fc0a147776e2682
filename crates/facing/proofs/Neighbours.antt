-- One side of a face that asks: of the two marks there one is its own, and the other face, if it was not reached, is turned against it.
-- With all sides asked every neighbour is reached.
use mathlib.Core.Path.{◌≡◌, refl, sym, ◌∙◌, ap}
use mathlib.Core.Logic.{◌≢◌}
use mathlib.Core.Bool.{Bool, true, false, not, ◌&&◌, beq, cond}
use mathlib.Core.List.{List, []}
use Prim.Native.Nat.{ℕ, ◌+◌, ◌<◌, ◌≤◌}
use native.Mathlib.Decide.{ℕ_discrete}
use native.Mathlib.Omega.{arith}
use lib.Dec.{eqb}
use lib.ListN.{length, get_or, set}
use borrow.Author.Tests.{eq-eqb, ne_eqb, lt-ltb, le-ltb}
use Rattle.places.specs.Ring.{sides}
use Rattle.places.specs.Loops.{one_if}
use Rattle.exact.specs.Sides.{count}
use Rattle.exact.specs.Facing.{face_by, Twice, has, Share}
use Rattle.shared_sides.specs.Steps.{face_of, down_of, runs_up, Pair}
use Rattle.facing.specs.Steps.{code_choice, other_of, up_of, against_of, Met, as_was, now_reached, Spread}
use Rattle.facing.proofs.Going.{code_on, reached_on, reached_now}
use Rattle.facing.proofs.Spread.{still_in, spread_room, spread_asked}

-- ---- the two marks at a side in the other order
pub pair_swap : {fs : List (List ℕ)} {i j x y : ℕ} → Pair fs i j x y → Pair fs i j y x
pair_swap p = record {
  first = p.second;
  second = p.first;
  first_above = p.second_above;
  second_above = p.first_above;
  has_is = λ g. omega (arith, p.has_is g);
  up_is = λ g back. omega (arith, p.up_is g back);
  ups = λ c. omega (arith, p.ups c);
  downs = λ c. omega (arith, p.downs c);
}

-- ---- which way a face runs a side
-- a face that is turned against one that runs a side up, or down, runs it down, or up
against_runs : (m : ℕ) (up : Bool) → runs_up (eqb (against_of m up) 2) m ≡ not up
against_runs m up = go (down_of m) up
  where
    go : (d u : Bool) → beq (eqb (cond (beq d u) 1 2) 2) d ≡ not u
    go true true = refl
    go true false = refl
    go false true = refl
    go false false = refl

against_some : (m : ℕ) (up : Bool) → 0 < against_of m up
against_some m up = go (beq (down_of m) up)
  where
    go : (b : Bool) → 0 < cond {A = ℕ} b 1 2
    go true = omega arith
    go false = omega arith

-- a face runs its side from a to b up where a is the lower, and the other way where it is reversed
pub up_forth : (a b w : ℕ) → a < b → up_of a b w ≡ beq (eqb w 2) false
up_forth a b w h = rw (lt-ltb a b h, le-ltb b a (omega arith)) (go (eqb w 2))
  where
    go : (c : Bool) → cond c false true ≡ beq c false
    go true = refl
    go false = refl

pub up_back : (a b w : ℕ) → b < a → up_of a b w ≡ beq (eqb w 2) true
up_back a b w h = rw (lt-ltb b a h, le-ltb a b (omega arith)) (go (eqb w 2))
  where
    go : (c : Bool) → cond c true false ≡ beq c true
    go true = refl
    go false = refl

one_way : (u : Bool) → one_if u + one_if (not u) ≡ 1
one_way true = refl
one_way false = refl

-- ---- what the asking of the neighbour over the side between i and j leaves
pub record Moved (fs : List (List ℕ)) (t list : List ℕ) (low head tail : ℕ) (t' list' : List ℕ) (tail' : ℕ) (i j : ℕ) : Type 0 where
  pub spread : Spread fs t' list' low head tail'
  -- who is reached keeps the code, and who stands in the list the place
  pub codes : (m : ℕ) → 0 < get_or t m 0 → get_or t' m 0 ≡ get_or t m 0
  pub entries : (p : ℕ) → p < tail → get_or list' p 0 ≡ get_or list p 0
  pub more : tail ≤ tail'
  -- every face that has the side is reached
  pub all : (g : ℕ) → 0 < has i j (get_or fs g []) → 0 < get_or t' g 0

module _ {fs : List (List ℕ)} {t list : List ℕ} {low head tail : ℕ} (s : Spread fs t list low head tail) where
  -- nothing changes where both faces are reached
  both_reached : {i j x y : ℕ} → Pair fs i j x y → 0 < get_or t (face_of x) 0 → 0 < get_or t (face_of y) 0
      → (g : ℕ) → 0 < has i j (get_or fs g []) → 0 < get_or t g 0
  both_reached {i} {j} {x} {y} p hx hy g h = go (ℕ_discrete (face_of x) g) (ℕ_discrete (face_of y) g)
    where
      go : Dec (face_of x ≡ g) → Dec (face_of y ≡ g) → 0 < get_or t g 0
      go (yes e) d = rw (← e) hx
      go (no n) (yes e) = rw (← e) hy
      go (no n) (no m) =
          let a : one_if (eqb (face_of x) g) ≡ 0 = rw (ne_eqb (face_of x) g n) in
          let b : one_if (eqb (face_of y) g) ≡ 0 = rw (ne_eqb (face_of y) g m) in
          absurd (omega (arith, p.has_is g))

  -- x is the mark of the asking face f, which, reversed where `back`, runs the side up
  module _ (tw : Twice fs) (i j x y f : ℕ) (back up : Bool) (apart : i ≢ j) (p : Pair fs i j x y) (hf : 0 < get_or t f 0)
      (own : face_of x ≡ f)
      (run : 0 < count i j (sides (face_by back (get_or fs f [])))) (way : up ≡ beq (code_choice t f) back) where
    self : (g : ℕ) → one_if (eqb (face_of g) (face_of g)) ≡ 1
    self g = rw (eq-eqb (face_of g) (face_of g) refl)

    module _ (un : get_or t (face_of y) 0 ≡ 0) where
      ne : f ≢ face_of y
      ne e = let q : get_or t f 0 ≡ get_or t (face_of y) 0 = rw e in omega arith

      hy : face_of y < length t
      hy = omega (arith, s.codes, p.second)

      -- the side is f's only by the mark x
      mine : (b : Bool) → count i j (sides (face_by b (get_or fs f []))) ≡ one_if (runs_up b x)
      mine b = p.up_is f b ∙ rw (own, eq-eqb f f refl, ne_eqb (face_of y) f (λ e. ne (sym e))) (omega arith)

      theirs : (b : Bool) → count i j (sides (face_by b (get_or fs (face_of y) []))) ≡ one_if (runs_up b y)
      theirs b = p.up_is (face_of y) b ∙ rw (own, eq-eqb (face_of y) (face_of y) refl, ne_eqb f (face_of y) ne) (omega arith)

      down : down_of x ≡ back
      down = go back (down_of x) (omega (arith, mine back))
        where
          go : (b d : Bool) → 0 < one_if (beq b d) → d ≡ b
          go true true h = refl
          go true false h = absurd (omega arith)
          go false true h = absurd (omega arith)
          go false false h = refl

      abbrev shared : Share fs f (face_of y)
      shared = record {
        i = i;
        j = j;
        apart = apart;
        one = omega (arith, p.has_is f, ap (λ g. one_if (eqb (face_of x) g)) (sym own), self x);
        other = omega (arith, p.has_is (face_of y), self y);
      }

      opposed : count i j (sides (face_by (code_choice t f) (get_or fs f [])))
          + count i j (sides (face_by (eqb (against_of y up) 2) (get_or fs (face_of y) []))) ≡ 1
      opposed =
          let a : runs_up (code_choice t f) x ≡ up = rw down (sym way) in
          rw (mine (code_choice t f), theirs (eqb (against_of y up) 2), a, against_runs y up) (one_way up)

      reach : Moved fs t list low head tail (set t (face_of y) (against_of y up)) (set list tail (face_of y)) (tail + 1) i j
      reach =
          let w = against_of y up in
          let hw : 0 < w = against_some y up in
          let s' = spread_asked s (face_of y) w hy un hw tw f hf shared opposed in
          record {
            spread = s';
            codes = λ m h. code_on t (face_of y) w hy un hw m h;
            entries = λ q h. still_in list tail (face_of y) (spread_room s (face_of y) hy un) q h;
            more = omega arith;
            all = λ g h. all g h (ℕ_discrete (face_of y) g);
          }
        where
          all : (g : ℕ) → 0 < has i j (get_or fs g []) → Dec (face_of y ≡ g) → 0 < get_or (set t (face_of y) (against_of y up)) g 0
          all g h (yes e) = rw (← e) (reached_now t (face_of y) (against_of y up) hy un (against_some y up))
          all g h (no n) = reached_on t (face_of y) (against_of y up) hy un (against_some y up) g (rw (mine_only g h n) hf)
            where
              mine_only : (g : ℕ) → 0 < has i j (get_or fs g []) → (face_of y ≡ g → ⊥) → g ≡ f
              mine_only g h n = go (ℕ_discrete (face_of x) g)
                where
                  go : Dec (face_of x ≡ g) → g ≡ f
                  go (yes e) = sym e ∙ own
                  go (no o) =
                      let a : one_if (eqb (face_of x) g) ≡ 0 = rw (ne_eqb (face_of x) g o) in
                      let b : one_if (eqb (face_of y) g) ≡ 0 = rw (ne_eqb (face_of y) g n) in
                      absurd (omega (arith, p.has_is g))

    met_own : {t' list' : List ℕ} {tail' : ℕ} → Met t list tail y up t' list' tail' → Moved fs t list low head tail t' list' tail' i j
    met_own (as_was h e l n) = rw (e, l, n) (record {
      spread = s;
      codes = λ m q. refl;
      entries = λ q h. refl;
      more = omega arith;
      all = both_reached p (rw own hf) (h p.second_above);
    })
    met_own (now_reached h un e l n) = rw (e, l, n) (reach un)

  -- a neighbour is met over a side, whichever of the two marks there is that of the asking face
  pub met_side : Twice fs → (i j x y f : ℕ) (back up : Bool) → i ≢ j → Pair fs i j x y → 0 < get_or t f 0
      → 0 < count i j (sides (face_by back (get_or fs f []))) → up ≡ beq (code_choice t f) back
      → {t' list' : List ℕ} {tail' : ℕ} → Met t list tail (other_of x y f) up t' list' tail'
      → Moved fs t list low head tail t' list' tail' i j
  met_side tw i j x y f back up apart p hf run way {t'} {list'} {tail'} met = go (ℕ_discrete (face_of x) f) (ℕ_discrete (face_of y) f)
    where
      go : Dec (face_of x ≡ f) → Dec (face_of y ≡ f) → Moved fs t list low head tail t' list' tail' i j
      go (yes e) d = met_own tw i j x y f back up apart p hf e run way (rw (eq-eqb (face_of x) f e) at met)
      go (no n) (yes e) = met_own tw i j y x f back up apart (pair_swap p) hf e run way (rw (ne_eqb (face_of x) f n) at met)
      go (no n) (no m) =
          let z : one_if (eqb (face_of x) f && runs_up back x) ≡ 0 = rw (ne_eqb (face_of x) f n) in
          let o : one_if (eqb (face_of y) f && runs_up back y) ≡ 0 = rw (ne_eqb (face_of y) f m) in
          absurd (omega (arith, p.up_is f back))
