-- An answer in lists, as it crosses a boundary that only numbers and lent lists pass: for each answer of an entry its number
-- in SCOPE 3 and its values.
use Rattle.std.specs.Prelude.{ℕ, ◌≡◌, Bool, true, false, ◌||◌, cond, List, [], ◌∷◌, ltb, eqb, length, replicate, Float, Option, None, Some}
use Rattle.std.specs.Prelude.{Ok, Err}
use Rattle.places.specs.Refusals.{Check, number_of}
use Rattle.places.specs.declared.refusal.Refusal.TheVariants.{Size, Room}
use Rattle.places.specs.Loops.{one_if}
use Rattle.floats.specs.F64.{zero64}
use Rattle.flat.specs.Points.{at}
use Rattle.geometry.specs.declared.Point3.{Point3}
use Rattle.geometry.specs.declared.Point2.{Point2}
use Rattle.geometry.specs.declared.Bounds3.{Bounds3}
use Rattle.geometry.specs.declared.Bounds2.{Bounds2}
use Rattle.geometry.specs.declared.Cell.{Cell}
use Rattle.geometry.specs.declared.Plane.{Plane}
use Rattle.geometry.specs.declared.Shared.{Shared}
use Rattle.geometry.specs.declared.Outline.{Outline}
use Rattle.geometry.specs.declared.CutCounts.{CutCounts}
use Rattle.geometry.specs.declared.Findings.{Findings}
use Rattle.geometry.specs.declared.Convexity.{Convexity}
use Rattle.geometry.specs.declared.Convexity.TheVariants.{Convex, Concave, Unknown}
use Rattle.geometry.specs.Answers.{Answer, front}
use Rattle.geometry.specs.Cells.{triangles_answer, triangle_places_answer}
use Rattle.geometry.specs.Points.{to_local_answer}
use Rattle.geometry.specs.TurnFaces.{can_turn_answer, TurnFacesGives}

-- refused by a number of SCOPE 3, or values: numbers for one lent list, counts for another
pub data Listed : Type 0 where
  refused : ℕ → Listed
  values : List Float → List ℕ → Listed

-- a list is too short for values
abbrev pub too_short : {A : Type 0} → List A → List A → Bool
too_short vs list = ltb (length list) (length vs)

-- what a caller gets: a code, a list of numbers and a list of counts
abbrev pub Reply : Type 0
Reply = ℕ × List Float × List ℕ

abbrev pub told : ℕ → List Float → List ℕ → Reply
told code xs ns = (code, xs, ns)

-- the reply to a caller who lends a list for numbers and one for counts: the code, and what then stands in both.
-- Where either is too short the code is 6; on every refusal both lists are as they were.
abbrev pub written : Listed → List Float → List ℕ → Reply
written (refused why) xs ns = told why xs ns
written (values vs ms) xs ns = cond (too_short vs xs || too_short ms ns) (told (number_of Room) xs ns) (told 0 (front vs xs) (front ms ns))

-- what is known of a cell's shape as a number, and by a number: 0 convex, 1 concave, any other number nothing
abbrev pub shape_number : Convexity → ℕ
shape_number Convex = 0
shape_number Concave = 1
shape_number Unknown = 2

unfoldable pub shape_known : ℕ → Convexity
shape_known shape = cond (eqb shape 0) Convex (cond (eqb shape 1) Concave Unknown)

-- ---- the answers, one by one
-- an answer as its values are listed, a refusal by its number
abbrev pub listed : {A : Type 0} → (A → Listed) → Answer A → Listed
listed list (Ok value) = list value
listed list (Err why) = refused (number_of why)

abbrev pub of_number : Answer Float → Listed
of_number = listed (λ x. values (x ∷ []) [])

abbrev pub of_truth : Answer Bool → Listed
of_truth = listed (λ b. values [] (one_if b ∷ []))

abbrev pub of_count : Answer ℕ → Listed
of_count = listed (λ n. values [] (n ∷ []))

-- how many triangles, and how many turn tests
abbrev pub of_face_cut : Answer CutCounts → Listed
of_face_cut = listed (λ c. values [] (c.triangles ∷ c.tests ∷ []))

abbrev pub of_place : Answer Point3 → Listed
of_place = listed (λ p. values (p.x ∷ p.y ∷ p.z ∷ []) [])

abbrev pub of_plane_place : Answer Point2 → Listed
of_plane_place = listed (λ p. values (p.x ∷ p.y ∷ []) [])

-- the low corner, then the high one
abbrev pub of_extent : Answer Bounds3 → Listed
of_extent = listed (λ b. values (b.low.x ∷ b.low.y ∷ b.low.z ∷ b.high.x ∷ b.high.y ∷ b.high.z ∷ []) [])

abbrev pub of_plane_extent : Answer Bounds2 → Listed
of_plane_extent = listed (λ b. values (b.low.x ∷ b.low.y ∷ b.high.x ∷ b.high.y ∷ []) [])

-- nothing but the code
abbrev pub of_done : Check → Listed
of_done = listed (λ done. values [] [])

-- triangles, closed, short, contained; and the volume
abbrev pub of_surveyed : Answer Findings → Listed
of_surveyed = listed (λ s. values (s.volume ∷ []) (s.triangles ∷ one_if s.closed ∷ s.short ∷ s.contained ∷ []))

-- how many vertices, corners and faces, and what is known of the shape
abbrev pub of_described : Answer Cell → Listed
of_described = listed (λ c. values [] (c.vertices ∷ c.corners ∷ c.faces ∷ shape_number c.convexity ∷ []))

-- the normal, then the offset, and the count 1; for no area the count 0 alone
abbrev pub plane_listed : Option Plane → Listed
plane_listed (Some p) = values (at p.n 0 ∷ at p.n 1 ∷ at p.n 2 ∷ p.d ∷ []) (1 ∷ [])
plane_listed None = values [] (0 ∷ [])

abbrev pub of_face_plane : Answer (Option Plane) → Listed
of_face_plane = listed plane_listed

-- the volume; and how many faces of the first cell and of the second have no area
abbrev pub of_overlapped : Answer Shared → Listed
of_overlapped = listed (λ o. values (o.volume ∷ []) (o.arealess ∷ o.arealess2 ∷ []))

-- how many points are left, 0 for nothing, and 1 where they stand in the second work list
abbrev pub outline_listed : Option Outline → Listed
outline_listed None = values [] (0 ∷ 0 ∷ [])
outline_listed (Some o) = values [] (o.points ∷ one_if o.in_second ∷ [])

abbrev pub of_clipped : Answer (Option Outline) → Listed
of_clipped = listed outline_listed

-- ---- answers beside other lent lists
-- a list that is turned in its place: the code, and the list
abbrev pub done_told : {L : Type 0} → Check × L → ℕ × L
done_told a = ((written (of_done a.0) [] []).0, a.1)

-- a fixed shape in one list: 1 where it has not just so many numbers
abbrev pub of_shape : ℕ → List Float → Listed → Listed
of_shape n p answer = cond (eqb (length p) n) answer (refused (number_of Size))

-- a work list after a clipping that cannot be told: +0 throughout where an outline was left, else as it was
abbrev pub hidden : Answer (Option Outline) → List Float → List Float
hidden (Ok (Some o)) list = replicate (length list) zero64
hidden _ list = list

-- a clipping, told by two counts in `shown`: the code, that list, and both work lists; where the counts have no room nothing is shown
abbrev pub clipping_told : Answer (Option Outline) × List Float × List Float → List ℕ → ℕ × List ℕ × List Float × List Float
clipping_told c shown =
    let short = ltb (length shown) 2 in (
      (written (of_clipped c.0) [] shown).0,
      (written (of_clipped c.0) [] shown).2,
      cond short (hidden c.0 c.1) c.1,
      cond short (hidden c.0 c.2) c.2,
    )

-- a measure, told by one number in `out`: the code, that list, and both work lists
abbrev pub measure_told : Answer Float × List Float × List Float → List Float → ℕ × List Float × List Float × List Float
measure_told m out = ((written (of_number m.0) out []).0, (written (of_number m.0) out []).1, m.1, m.2)

-- an overlap, told by one number in `out` and two counts in `arealess`: the code, those lists, and both work lists
abbrev pub overlap_told : Answer Shared × List Float × List Float → List Float → List ℕ → ℕ × List Float × List ℕ × List Float × List Float
overlap_told o out arealess =
    let reply = written (of_overlapped o.0) out arealess in
    (reply.0, reply.1, reply.2, o.1, o.2)

-- triangles in the list `out`, as `answer` gives them for that list, and the two counts in the list `count`: the code, and what then stands
-- in both; where `count` is too short for two there is no room for a triangle either
abbrev pub count_told : (List (List ℕ) → Answer CutCounts × List (List ℕ)) → List (List ℕ) → List ℕ → ℕ × List (List ℕ) × List ℕ
count_told answer out count =
    let short = ltb (length count) 2 in
    let a = answer (cond short [] out) in
    ((written (of_face_cut a.0) [] count).0, cond short out a.1, (written (of_face_cut a.0) [] count).2)

-- `triangles` under its C name, and `triangle_places`
abbrev pub triangles_told : List Float → List ℕ → List ℕ → ℕ → List (List ℕ) → List ℕ → ℕ × List (List ℕ) × List ℕ
triangles_told coords corners ends k out count = count_told (triangles_answer coords corners ends k) out count

abbrev pub triangle_places_told : List Float → List ℕ → List ℕ → ℕ → List (List ℕ) → List ℕ → ℕ × List (List ℕ) × List ℕ
triangle_places_told coords corners ends k out count = count_told (triangle_places_answer coords corners ends k) out count

-- to_local, its vector told in `out`: the code and both lists; where the vector has no room nothing is moved
abbrev pub to_local_told : List Float → List Float → ℕ × List Float × List Float
to_local_told coords out =
    let a = to_local_answer coords in
    let reply = written (of_place a.0) out [] in
    (reply.0, cond (ltb (length out) 3) coords a.1, reply.1)

-- the code of turn_faces where its count has no room: the refusal, else 6
abbrev pub code_without_room : Check → ℕ
code_without_room (Ok _) = number_of Room
code_without_room (Err why) = number_of why

-- turn_faces, its count told in `out`: as the entry answers; where the count has no room both lists are as they were
pub record TurnFacesTold (coords : List Float) (corners ends out : List ℕ) (code : ℕ) (after out' : List ℕ) : Type 0 where
  pub count : Answer ℕ
  pub turns : ltb (length out) 1 ≡ false
      → TurnFacesGives coords corners ends count after × (told code [] out' ≡ written (of_count count) [] out)
  pub untold : ltb (length out) 1 ≡ true
      → (code ≡ code_without_room (can_turn_answer coords corners ends)) × (after ≡ corners) × (out' ≡ out)
