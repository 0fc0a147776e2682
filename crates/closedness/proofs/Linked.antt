-- Chains of sides, for `link_side`, `link_face` and `link_faces`: a side that is put before the first of a chain leaves every chain as it
-- was, since the places of a chain lie before it.
use mathlib.Core.Path.{◌≡◌, refl, sym, ap, subst, ◌∙◌}
use mathlib.Core.Logic.{◌≢◌}
use mathlib.Core.List.{List, [], ◌∷◌}
use Prim.Native.Nat.{ℕ, ◌+◌, ◌-◌, ◌<◌, ◌≤◌, min}
use native.Mathlib.Decide.{ℕ_discrete, dec_lt}
use native.Mathlib.Omega.{arith}
use lib.Dec.{T, eqb→eq}
use lib.ListN.{length, get_or, set, drop, drop_of_length-le, replicate}
use lib.Seq.{slice, length-slice, get_or-set_same, get_or-set_other}
use borrow.Author.Tests.{lt-ltb, le-ltb, eq-eqb, ne_eqb}
use Rattle.places.specs.Ring.{next_of}
use Rattle.places.proofs.Loops.{Rounding, round_start, round_next, round_end}
use Rattle.places.proofs.Stamps.{zeros}
use Rattle.cell.specs.Faces.{faces_of, rises}
use Rattle.cell.proofs.Faces.{Facing, face_start, face_next, face_end_lem}
use Rattle.closedness.specs.Steps.{lower_of, code_of, codes_at, Chain, Lists}
use Rattle.closedness.specs.Steps.{Gains, push, push_face, push_faces}

-- ---- what is stored at a place that a chain does not reach
chain_keep : (next other : List ℕ) (s x y h : ℕ) (cs : List ℕ) → ((p : ℕ) → get_or next p 0 ≤ p) → h ≤ s → Chain next other h cs
    → Chain (set next s x) (set other s y) h cs
chain_keep next other s x y h [] back g t = t
chain_keep next other s x y h (c ∷ cs) back g t =
    let above : 0 < h = t.0 in
    let n : h - 1 ≢ s = λ e. absurd (omega arith) in
    let rest = chain_keep next other s x y (get_or next (h - 1) 0) cs back (omega (arith, back (h - 1))) t.2 in
    (t.0, get_or-set_other other s (h - 1) y 0 n ∙ t.1, rw (get_or-set_other next s (h - 1) x 0 n) rest)

-- the lesser end of a side is the lower
pub lower_min : {m : ℕ} (a b : ℕ) → m ≡ min a b → m ≡ lower_of a b
lower_min {m} a b e = go (dec_lt a b)
  where
    go : Dec (a < b) → m ≡ lower_of a b
    go (yes h) = rw (lt-ltb a b h) (omega arith)
    go (no n) = rw (le-ltb a b (omega arith)) (omega arith)

-- ---- a side at the place s becomes the first of the chain of m, with the code y
module _ {head next other : List ℕ} {s m y : ℕ} (first : (i : ℕ) → get_or head i 0 ≤ s) (back : (p : ℕ) → get_or next p 0 ≤ p)
    (in_next : s < length next) (in_other : s < length other) (in_head : m < length head) where
  lists_more : (l l' : List (ℕ × ℕ)) → codes_at m l' ≡ y ∷ codes_at m l → ((i : ℕ) → i ≢ m → codes_at i l' ≡ codes_at i l)
      → Lists head next other l → Lists (set head m (s + 1)) (set next s (get_or head m 0)) (set other s y) l'
  lists_more l l' here there t = record { chain = λ i b. go i b (ℕ_discrete i m) }
    where
      kept : (i : ℕ) → i < 256 → Chain (set next s (get_or head m 0)) (set other s y) (get_or head i 0) (codes_at i l)
      kept i b = chain_keep next other s (get_or head m 0) y (get_or head i 0) (codes_at i l) back (first i) (t.chain i b)

      top : m < 256 → Chain (set next s (get_or head m 0)) (set other s y) (s + 1) (y ∷ codes_at m l)
      top b =
          let q : s + 1 - 1 ≡ s = omega arith in
          (omega arith, rw (q, get_or-set_same other s y 0 in_other), rw (q, get_or-set_same next s (get_or head m 0) 0 in_next) (kept m b))

      go : (i : ℕ) → i < 256 → Dec (i ≡ m)
          → Chain (set next s (get_or head m 0)) (set other s y) (get_or (set head m (s + 1)) i 0) (codes_at i l')
      go i b (yes e) = rw (e, here, get_or-set_same head m (s + 1) 0 in_head) (top (omega (arith, e)))
      go i b (no n) = rw (there i n, get_or-set_other head m i (s + 1) 0 n) (kept i b)

  -- a side from a to b, which are two vertices
  pub lists_one : (a b : ℕ) (l : List (ℕ × ℕ)) → a ≢ b → m ≡ lower_of a b → y ≡ code_of a b → Lists head next other l
      → Lists (set head m (s + 1)) (set next s (get_or head m 0)) (set other s y) (push a b l)
  lists_one a b l n p q t = lists_more l (push a b l) here there t
    where
      here : codes_at m (push a b l) ≡ y ∷ codes_at m l
      here = rw (p, q, ne_eqb a b n, eq-eqb (lower_of a b) (lower_of a b) refl) (ap (λ (i : ℕ). code_of a b ∷ codes_at i l) p)

      there : (i : ℕ) → i ≢ m → codes_at i (push a b l) ≡ codes_at i l
      there i e = rw (ne_eqb a b n, ne_eqb (lower_of a b) i (λ z. e (sym (p ∙ z))))

-- one from a vertex to itself is in no chain
pub lists_none : {head next other : List ℕ} (a b : ℕ) (l : List (ℕ × ℕ)) → a ≡ b → Lists head next other l
    → Lists head next other (push a b l)
lists_none {head} {next} {other} a b l e t = record {
  chain = λ m g. subst (Chain next other (get_or head m 0)) (sym (none m)) (t.chain m g);
}
  where
    none : (m : ℕ) → codes_at m (push a b l) ≡ codes_at m l
    none m = rw (eq-eqb a b e)

-- ---- the sides of a face: those before place i are there
pub record FaceLinked (Holds : List (ℕ × ℕ) → Type 0) (face : List ℕ) (l : List (ℕ × ℕ)) (i : ℕ) : Type 0 where
  pub so_far : List (ℕ × ℕ)
  pub holds : Holds so_far
  pub rounding : Rounding push face (push_face face l) i so_far

module _ {Held : List (ℕ × ℕ) → Type 0} {face : List ℕ} {l : List (ℕ × ℕ)} where
  pub face_none : Held l → FaceLinked Held face l 0
  unfolding push_face
  face_none t = record { so_far = l; holds = t; rounding = round_start refl }

  pub face_more : {Holds : List (ℕ × ℕ) → Type 0} {i a b : ℕ} → FaceLinked Held face l i → i < length face → a ≡ get_or face i 0
      → b ≡ get_or face (next_of i (length face)) 0 → Gains Held Holds (push a b) → FaceLinked Holds face l (i + 1)
  face_more {Holds} {i} {a} {b} t h p q g = record {
    so_far = push a b t.so_far;
    holds = g t.so_far t.holds;
    rounding = round_next 0 t.rounding h (rw (p, q));
  }

  pub face_whole : {i : ℕ} → FaceLinked Held face l i → length face ≤ i → Held (push_face face l)
  face_whole t h = subst Held (round_end t.rounding h) t.holds

-- ---- the sides of all faces: those before face j are there, and p is the end before it
pub record FacesLinked (Holds : List (ℕ × ℕ) → Type 0) (c es : List ℕ) (l : List (ℕ × ℕ)) (p j : ℕ) : Type 0 where
  pub so_far : List (ℕ × ℕ)
  pub holds : Holds so_far
  pub facing : Facing push_face c es (push_faces (faces_of c es) l) p j so_far

module _ {Held : List (ℕ × ℕ) → Type 0} {c es : List ℕ} {l : List (ℕ × ℕ)} where
  pub faces_none : T (rises 0 es (length c)) → Held l → FacesLinked Held c es l 0 0
  unfolding push_faces
  faces_none o t = record { so_far = l; holds = t; facing = face_start o refl }

  pub faces_more : {Holds : List (ℕ × ℕ) → Type 0} {p j e : ℕ} {face : List ℕ} → FacesLinked Held c es l p j → j < length es
      → e ≡ get_or es j 0 → face ≡ slice p e c → Gains Held Holds (push_face face) → FacesLinked Holds c es l e (j + 1)
  faces_more {Holds} {p} {j} {e} {face} t h q f g = record {
    so_far = push_face face t.so_far;
    holds = g t.so_far t.holds;
    facing = face_next t.facing h q (rw f);
  }

  pub faces_whole : {p j : ℕ} → FacesLinked Held c es l p j → length es ≤ j → Held (push_faces (faces_of c es) l)
  faces_whole t h = subst Held (face_end_lem t.facing h) t.holds

-- a face of the corners c from p up to e
pub face_length : {face : List ℕ} (p e : ℕ) (c : List ℕ) → face ≡ slice p e c → p ≤ e → e ≤ length c → p + length face ≡ e
face_length p e c q a b = rw q (omega (arith, length-slice p e c b))

-- after the last face the end before the next is the number of the corners
pub all_read : (p : ℕ) (es : List ℕ) (n k : ℕ) → length es ≤ k → T (rises p (drop k es) n) → p ≡ n
all_read p es n k h t = eqb→eq p n (rw (drop_of_length-le es h) at t)

-- ---- before the first side
pub lists_start : {next other : List ℕ} → Lists (replicate 256 0) next other []
lists_start = record { chain = λ m g. none m }
  where
    none : (m : ℕ) → ◌≡◌ {A = ℕ} (get_or (replicate 256 0) m 0) 0
    none m = omega (arith, (zeros 256).zero m)
