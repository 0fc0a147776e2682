-- Pairs of vertices that are In: each has an entry of its own in the table, and both ends of a side of a face with such corners are In.
use mathlib.Core.Path.{◌≡◌}
use mathlib.Core.List.{List, [], ◌∷◌}
use Prim.Native.Nat.{ℕ, ◌<◌}
use lib.Seq.{slice}
use Rattle.places.specs.Lists.{Each}
use Rattle.places.specs.Ring.{walk, sides}
use Rattle.places.proofs.Lists.{each_nil, each_cons, each_head, each_tail, each_append, each_slice}
use Rattle.exact.specs.Sides.{all_sides}
use Rattle.cell.specs.Faces.{faces_from}

-- among the vertices that are In, `at` gives each pair an entry of its own, below n
pub record Tells (In : ℕ → Type 0) (at : ℕ → ℕ → ℕ) (n : ℕ) : Type 0 where
  pub within : {a b : ℕ} → In a → In b → at a b < n
  pub apart : {a b x y : ℕ} → In a → In b → In x → In y → at a b ≡ at x y → (a ≡ x) × (b ≡ y)

-- both ends of a side are In
abbrev pub Both : (ℕ → Type 0) → ℕ × ℕ → Type 0
Both In e = In e.0 × In e.1

-- ---- the sides of faces whose corners are In
module _ {In : ℕ → Type 0} where
  walk_both : (a : ℕ) (l : List ℕ) (z : ℕ) → In a → Each 0 In l → In z → Each (0, 0) (Both In) (walk a l z)
  walk_both a [] z ha t hz = each_cons (ha, hz) each_nil
  walk_both a (b ∷ l) z ha t hz = each_cons (ha, each_head t) (walk_both b l z (each_head t) (each_tail t) hz)

  sides_both : (l : List ℕ) → Each 0 In l → Each (0, 0) (Both In) (sides l)
  sides_both [] t = each_nil
  sides_both (a ∷ l) t = walk_both a l a (each_head t) (each_tail t) (each_head t)

  pub all_both : (p : ℕ) (c es : List ℕ) → Each 0 In c → Each (0, 0) (Both In) (all_sides (faces_from p c es))
  all_both p c [] t = each_nil
  all_both p c (e ∷ es) t =
      let first = sides_both (slice p e c) (each_slice p e c t) in
      each_append (sides (slice p e c)) (all_sides (faces_from e c es)) first (all_both e c es t)
