-- What a loop over a list computes, by recursion on the list; and what a search over places finds.
use Rattle.std.specs.Prelude.{ℕ, zero, suc, ◌+◌, List, [], ◌∷◌, Bool, true, false, cond, Option, Some, None}

-- 1 for yes, 0 for no
abbrev pub one_if : Bool → ℕ
one_if b = cond b 1 0

-- the elements of a list taken in one after the other, from the state s on
unfoldable pub fold_list : {A S : Type 0} → (A → S → S) → List A → S → S
fold_list f [] s = s
fold_list f (x ∷ xs) s = fold_list f xs (f x s)

-- the test holds of an element of the list
unfoldable pub any_of : {A : Type 0} → (A → Bool) → List A → Bool
any_of test [] = false
any_of test (x ∷ xs) =
    let rest = any_of test xs in
    cond (test x) true rest

-- of how many elements of the list the test holds
unfoldable pub count_of : {A : Type 0} → (A → Bool) → List A → ℕ
count_of test [] = 0
count_of test (x ∷ xs) = one_if (test x) + count_of test xs

-- the first of the next `left` places, from i on, at which the test holds
unfoldable pub first_from : (ℕ → Bool) → ℕ → ℕ → Option ℕ
first_from test zero i = None
first_from test (suc left) i =
    let rest = first_from test left (i + 1) in
    cond (test i) (Some i) rest

-- the first of the places below n at which the test holds
abbrev pub first_place : (ℕ → Bool) → ℕ → Option ℕ
first_place test n = first_from test n 0
