-- In a closed cell a side that occurs twice runs once each way. So two choices that close agree at both faces that share it, or at neither,
-- and the choice is unique once the lowest face of each group keeps its direction.
use mathlib.Core.Path.{◌≡◌, refl, sym, ◌∙◌, ap}
use mathlib.Core.Logic.{◌≢◌, by_cases}
use mathlib.Core.Bool.{Bool, true, false, not, Bool-discrete, cond}
use mathlib.Core.List.{List, [], ◌∷◌}
use Prim.Native.Nat.{ℕ, zero, suc, ◌+◌, ◌<◌}
use native.Mathlib.Decide.{ℕ_discrete, dec_lt}
use native.Mathlib.Omega.{arith}
use lib.ListN.{get_or}
use Rattle.places.specs.Ring.{sides}
use Rattle.exact.specs.Sides.{count, runs, Closed}
use Rattle.exact.specs.Facing.{face_by, reversed_by, how_many, occurs, Twice, has, Share, Group, itself, over, Lowest, Made}
use Rattle.exact.proofs.Reversed.{sides_back, by_has, by_not, runs_none, runs_cons, occurs_by, face_by_lem, two_of, User, user}

-- ---- two choices at a face: whether they differ
abbrev pub differ : Bool → Bool → Bool
differ true b = not b
differ false b = b

pub differ_comm : (a b : Bool) → differ a b ≡ differ b a
differ_comm true true = refl
differ_comm true false = refl
differ_comm false true = refl
differ_comm false false = refl

pub differ_same : (a : Bool) → differ a a ≡ false
differ_same true = refl
differ_same false = refl

differ_undo : (a b : Bool) → differ (differ a b) a ≡ b
differ_undo true true = refl
differ_undo true false = refl
differ_undo false true = refl
differ_undo false false = refl

-- one of the two, from the other and whether they differ
pub differ_tells : (a b x : Bool) → differ a b ≡ x → a ≡ differ x b
differ_tells a b x e = sym (differ_undo b a) ∙ rw (differ_comm b a, e)

-- ---- groups
pub share_sym : {fs : List (List ℕ)} {f g : ℕ} → Share fs f g → Share fs g f
share_sym s = record { i = s.i; j = s.j; apart = s.apart; one = s.other; other = s.one }

pub group_join : {fs : List (List ℕ)} {f g h : ℕ} → Group fs f g → Group fs g h → Group fs f h
group_join itself q = q
group_join (over s p) q = over s (group_join p q)

pub group_back : {fs : List (List ℕ)} {f g : ℕ} → Group fs f g → Group fs g f
group_back itself = itself
group_back (over s p) = group_join (group_back p) (over (share_sym s) itself)

-- ---- one shared side
-- by two choices a face runs a side the same way where they agree, and back where they differ
by_differ : (i j : ℕ) (b a : Bool) (f : List ℕ)
    → count i j (sides (face_by (differ b a) f)) ≡ count (cond b j i) (cond b i j) (sides (face_by a f))
by_differ i j true a f = by_not i j a f
by_differ i j false a f = refl

-- a face that has the side once runs it from i to j by one of the two choices alone
by_way : (i j : ℕ) (f : List ℕ) → has i j f ≡ 1 → (a b : Bool) → count i j (sides (face_by a f)) ≡ count i j (sides (face_by b f)) → a ≡ b
by_way i j f h true true e = refl
by_way i j f h true false e = absurd (omega (arith, sides_back i j f))
by_way i j f h false true e = absurd (omega (arith, sides_back i j f))
by_way i j f h false false e = refl

-- of the faces f and g, turned by a and b, one runs from i to j
abbrev pub Opposed : List (List ℕ) → (i j f g : ℕ) → Bool → Bool → Type 0
Opposed fs i j f g a b = count i j (sides (face_by a (get_or fs f []))) + count i j (sides (face_by b (get_or fs g []))) ≡ 1

module _ (fs : List (List ℕ)) (tw : Twice fs) (i j f g : ℕ) (apart : i ≢ j) (ne : f ≢ g)
    (hf : 0 < has i j (get_or fs f [])) (hg : 0 < has i j (get_or fs g [])) where
  two : occurs i j fs ≡ 2
  two = tw i j apart (omega (arith, two_of i j fs f g ne, two_of j i fs f g ne))

  -- each of two faces that share a side has it once
  pub once : (has i j (get_or fs f []) ≡ 1) × (has i j (get_or fs g []) ≡ 1)
  once =
      let a = two_of i j fs f g ne in
      let b = two_of j i fs f g ne in
      (omega (arith, two), omega (arith, two))

  -- and a choice that closes has one of them run it from i to j
  pub opposed : (c : ℕ → Bool) → Closed (reversed_by c fs) → Opposed fs i j f g (c f) (c g)
  opposed c cl =
      let a = rw (face_by_lem c fs f, face_by_lem c fs g) at (two_of i j (reversed_by c fs) f g ne) in
      let b = rw (face_by_lem c fs f, face_by_lem c fs g) at (two_of j i (reversed_by c fs) f g ne) in
      omega (arith, two, occurs_by i j c fs, cl i j apart, by_has i j (c f) (get_or fs f []), by_has i j (c g) (get_or fs g []))

  -- two ways to have them opposed differ at both faces or at none: turn both by what differs at f, and g has one way left
  pub same_way : (a b x y : Bool) → Opposed fs i j f g a b → Opposed fs i j f g x y → differ a x ≡ differ b y
  same_way a b x y p q =
      let t = differ a x in
      let u = rw (differ_undo a x) at (both t p) in
      differ_tells t b y (by_way i j (get_or fs g []) once.1 (differ t b) y (omega arith)) ∙ differ_comm y b
    where
      both : (t : Bool) → Opposed fs i j f g a b → Opposed fs i j f g (differ t a) (differ t b)
      both true p =
          omega (
            arith,
            once,
            by_not i j a (get_or fs f []),
            by_not i j b (get_or fs g []),
            by_has i j a (get_or fs f []),
            by_has i j b (get_or fs g []),
          )
      both false p = p

-- ---- the choice is unique
module _ (fs : List (List ℕ)) (tw : Twice fs) (c d : ℕ → Bool) (hc : Closed (reversed_by c fs)) (hd : Closed (reversed_by d fs)) where
  over_side : (f g : ℕ) → Share fs f g → differ (c f) (d f) ≡ differ (c g) (d g)
  over_side f g s = by_cases (ℕ_discrete f g) (λ e. rw e) apart
    where
      apart : f ≢ g → differ (c f) (d f) ≡ differ (c g) (d g)
      apart n =
          let way = opposed fs tw s.i s.j f g s.apart n s.one s.other in
          same_way fs tw s.i s.j f g s.apart n s.one s.other (c f) (c g) (d f) (d g) (way c hc) (way d hd)

  -- two choices that close differ at all faces of a group or at none
  pub over_group : {f g : ℕ} → Group fs f g → differ (c f) (d f) ≡ differ (c g) (d g)
  over_group itself = refl
  over_group (over {f} {g} s p) = over_side f g s ∙ over_group p

  agree : {f g : ℕ} → Group fs f g → c g ≡ d g → c f ≡ d f
  agree {f} {g} p e = differ_tells (c f) (d f) false (over_group p ∙ rw e (differ_same (d g)))

module _ (fs : List (List ℕ)) (tw : Twice fs) (c d : ℕ → Bool) (mc : Made fs c) (md : Made fs d) where
  -- where they differed first, the face would be the lowest of its group
  below : (n k : ℕ) → k < n → c k ≡ d k
  below zero k h = absurd (omega arith)
  below (suc n) k h = by_cases (Bool-discrete (c k) (d k)) (λ e. e) (λ ne.
      let low : Lowest fs k = λ m l p. ne (agree fs tw c d mc.closes md.closes p (below n m (omega arith))) in
      mc.keeps k low ∙ sym (md.keeps k low))

  -- the choice that is made is the only one
  pub unique : (k : ℕ) → c k ≡ d k
  unique k = below (suc k) k (omega arith)

-- equal choices give the same faces, and reverse as many
pub same_choice : (fs : List (List ℕ)) (n : ℕ) (c d : ℕ → Bool) → ((k : ℕ) → c k ≡ d k)
    → (reversed_by c fs ≡ reversed_by d fs) × (how_many c n ≡ how_many d n)
same_choice fs n c d h =
    let e : c ≡ d = λ i k. h k i in
    (ap (λ x. reversed_by x fs) e, ap (λ x. how_many x n) e)

-- ---- a choice that agrees with a closing one over each shared side closes
-- where the choices differ at all faces with the side between i and j (b), or at none, they run it back, or the same way
all_alike : (i j : ℕ) (b : Bool) (fs : List (List ℕ)) (c d : ℕ → Bool) → ((k : ℕ) → 0 < has i j (get_or fs k []) → differ (c k) (d k) ≡ b)
    → runs i j (reversed_by c fs) ≡ runs (cond b j i) (cond b i j) (reversed_by d fs)
all_alike i j b [] c d h = runs_none i j ∙ sym (runs_none (cond b j i) (cond b i j))
all_alike i j b (f ∷ fs) c d h =
    rw (
      runs_cons i j (face_by (c 0) f) (reversed_by (λ k. c (suc k)) fs),
      runs_cons (cond b j i) (cond b i j) (face_by (d 0) f) (reversed_by (λ k. d (suc k)) fs),
      all_alike i j b fs (λ k. c (suc k)) (λ k. d (suc k)) (λ k. h (suc k)),
      go (dec_lt 0 (has i j f)),
    )
  where
    none : (b : Bool) → has i j (face_by (d 0) f) ≡ 0 → count (cond b j i) (cond b i j) (sides (face_by (d 0) f)) ≡ 0
    none true e = omega arith
    none false e = omega arith

    go : Dec (0 < has i j f) → count i j (sides (face_by (c 0) f)) ≡ count (cond b j i) (cond b i j) (sides (face_by (d 0) f))
    go (yes p) = rw (differ_tells (c 0) (d 0) b (h 0 p)) (by_differ i j b (d 0) f)
    go (no n) = omega (arith, by_has i j (c 0) f, none b (omega (arith, by_has i j (d 0) f)))

-- so it is enough that c and d differ alike over each shared side
pub carries : (fs : List (List ℕ)) (c d : ℕ → Bool) → ((f g : ℕ) → Share fs f g → differ (c f) (d f) ≡ differ (c g) (d g))
    → Closed (reversed_by d fs) → Closed (reversed_by c fs)
carries fs c d h cl i j apart = by_cases (dec_lt 0 (occurs i j fs)) (λ p. at (user i j fs p)) (λ n. omega (arith, occurs_by i j c fs))
  where
    level : (b : Bool) → runs (cond b j i) (cond b i j) (reversed_by d fs) ≡ runs (cond b i j) (cond b j i) (reversed_by d fs)
    level true = sym (cl i j apart)
    level false = cl i j apart

    -- at every face that has the side they differ, or not, as at one of them
    same : (u : User i j fs) (k : ℕ) → 0 < has i j (get_or fs k []) → differ (c k) (d k) ≡ differ (c u.k) (d u.k)
    same u k l = h k u.k (record { i = i; j = j; apart = apart; one = l; other = u.so })

    at : User i j fs → runs i j (reversed_by c fs) ≡ runs j i (reversed_by c fs)
    at u =
        let b = differ (c u.k) (d u.k) in
        all_alike i j b fs c d (same u) ∙ level b ∙ sym (all_alike j i b fs c d (λ k l. same u k (omega arith)))
