-- Request 3, 'Turn the backward faces', in the customer's words: what follows for every cell from the promise of turn_faces,
-- `TurnFacesGives`.
-- `TurnFacesGives coords corners ends r after` says: on the cell with these lists it answers r, and the corner list is `after` afterwards.
-- The answer is `Ok n` where n faces were reversed, and `Err why` where the call is refused.
use Rattle.std.specs.Prelude.{◌≡◌, ◌↔◌, ◌≢◌, ◌⊎◌, Bool, true, false, not, List, [], ℕ, length, get_or, neg_ℤ, Float, Ok, Err}
use Rattle.places.specs.Refusals.{no_refusal}
use Rattle.places.specs.declared.refusal.Refusal.{Refusal}
use Rattle.places.specs.declared.refusal.Refusal.TheVariants.{Sides, Choice}
use Rattle.places.specs.Lists.{Each}
use Rattle.exact.specs.Sides.{Closed, closed_of}
use Rattle.exact.specs.Space.{V3, triples}
use Rattle.exact.specs.Facing.{face_by, reversed_by, how_many, Fit, Group, Lowest}
use Rattle.flat.specs.Points.{Point, vertices_of}
use Rattle.cell.specs.Faces.{faces_of}
use Rattle.volume.specs.Triangles.{triangles_of}
use Rattle.refusals.specs.Refusals.{cell_refusal, turn_faces_refusal}
use Rattle.geometry.specs.Answers.{Answer}
use Rattle.geometry.specs.TurnFaces.{TurnFacesGives}
use Rattle.geometry.specs.Listed.{TurnFacesTold}
use Rattle.demand3.specs.Demand3.{Full, place_of, Sums}

-- ---- one outcome
-- The promise allows one outcome: any two answers that it allows are equal, and so are the corner lists afterwards.
abbrev pub OneOutcome : List Float → List ℕ → List ℕ → Type 0
OneOutcome coords corners ends =
    (r r' : Answer ℕ) (after after' : List ℕ)
    → TurnFacesGives coords corners ends r after → TurnFacesGives coords corners ends r' after' → (r ≡ r') × (after ≡ after')

-- The same under its C name: the code, the corner list and the list for the count are fixed.
abbrev pub OneOutcomeTold : List Float → List ℕ → List ℕ → Type 0
OneOutcomeTold coords corners ends =
    (out : List ℕ) (code code' : ℕ) (after after' told told' : List ℕ)
    → TurnFacesTold coords corners ends out code after told → TurnFacesTold coords corners ends out code' after' told'
    → (code ≡ code') × (after ≡ after') × (told ≡ told')

-- ---- the refusals
-- A choice of reversals that closes the faces fs.
pub record Closing (fs : List (List ℕ)) : Type 0 where
  pub choice : ℕ → Bool
  pub closes : Closed (reversed_by choice fs)

-- What the refusal says, and in which order.
pub record Refuses (coords : List Float) (corners ends : List ℕ) : Type 0 where
  -- A cell that is refused 1 to 4, as every entry on a cell refuses it, is refused with that number; 5 is not given.
  pub first : cell_refusal coords corners ends ≢ no_refusal → turn_faces_refusal coords corners ends ≡ cell_refusal coords corners ends
  -- 11, `Sides`, says exactly that the cell is not refused 1 to 4, and that a condition fails, on sides or on doubled vertices.
  pub eleven :
      (turn_faces_refusal coords corners ends ≡ Err Sides)
      ↔ ((cell_refusal coords corners ends ≡ no_refusal) × (Fit (faces_of corners ends) → ⊥))
  -- 12, `Choice`, says exactly that the cell is not refused 1 to 4, that both conditions hold, and that no choice of reversals at all
  -- closes it.
  pub twelve :
      (turn_faces_refusal coords corners ends ≡ Err Choice)
      ↔ ((cell_refusal coords corners ends ≡ no_refusal)
      × Fit (faces_of corners ends)
      × ((choice : ℕ → Bool) → Closed (reversed_by choice (faces_of corners ends)) → ⊥))
  -- No refusal says exactly that the cell is not refused 1 to 4, that both conditions hold, and that a choice of reversals closes it.
  pub none :
      (turn_faces_refusal coords corners ends ≡ no_refusal)
      ↔ ((cell_refusal coords corners ends ≡ no_refusal) × Fit (faces_of corners ends) × Closing (faces_of corners ends))

-- A refused call answers its refusal, and the corner list is as it was.
abbrev pub RefusedLeaves : List Float → List ℕ → List ℕ → Type 0
RefusedLeaves coords corners ends =
    (why : Refusal) (after : List ℕ)
    → TurnFacesGives coords corners ends (Err why) after → (Err why ≡ turn_faces_refusal coords corners ends) × (after ≡ corners)

-- ---- success
-- What holds where the answer is the count n.
pub record Success (coords : List Float) (corners ends : List ℕ) (n : ℕ) (after : List ℕ) : Type 0 where
  -- The turned cell is closed, by the definition by which `closed` answers yes.
  pub closed : closed_of (faces_of after ends) ≡ true
  -- The turned cell is not refused 1 to 4.
  pub accepted : cell_refusal coords after ends ≡ no_refusal
  -- The turned cell has as many corners as the cell before.
  pub corners_kept : length after ≡ length corners
  -- Which faces were reversed is a yes or no for each face number.
  pub choice : ℕ → Bool
  -- The count answered is how many of the face numbers have a yes.
  pub counted : n ≡ how_many choice (length ends)
  -- Each face of the turned cell is the face before, reversed where the choice says yes and as it was where it says no.
  pub face : (k : ℕ) → get_or (faces_of after ends) k [] ≡ face_by (choice k) (get_or (faces_of corners ends) k [])
  -- The lowest-numbered face of each group of faces joined by sides keeps its direction.
  pub keeps : (k : ℕ) → Lowest (faces_of corners ends) k → choice k ≡ false

-- Where the answer is a count, all of this is so.
abbrev pub Succeeds : List Float → List ℕ → List ℕ → Type 0
Succeeds coords corners ends =
    (n : ℕ) (after : List ℕ) → TurnFacesGives coords corners ends (Ok n) after → Success coords corners ends n after

-- A cell that is not refused 1 to 4, meets both conditions and is closed already is answered 0, and its corner list is as it was.
abbrev pub ClosedAlready : List Float → List ℕ → List ℕ → Type 0
ClosedAlready coords corners ends =
    cell_refusal coords corners ends ≡ no_refusal → Fit (faces_of corners ends) → closed_of (faces_of corners ends) ≡ true
    → (r : Answer ℕ) (after : List ℕ) → TurnFacesGives coords corners ends r after → (r ≡ Ok 0) × (after ≡ corners)

-- Turning twice is turning once: on a turned cell the answer is 0, and the corner list stays as it is.
abbrev pub TwiceIsOnce : List Float → List ℕ → List ℕ → Type 0
TwiceIsOnce coords corners ends =
    (n : ℕ) (after : List ℕ) → TurnFacesGives coords corners ends (Ok n) after
    → (r : Answer ℕ) (again : List ℕ) → TurnFacesGives coords after ends r again → (r ≡ Ok 0) × (again ≡ after)

-- ---- demand 3 on a turned cell
-- On a turned cell demand 3 needs only full cuts: where every face of 3 or more corners gives its full n − 2 triangles, what the
-- second sentence concludes of them holds.
abbrev pub OnlyFullCuts : List Float → List ℕ → List ℕ → Type 0
OnlyFullCuts coords corners ends =
    (n : ℕ) (after : List ℕ) → TurnFacesGives coords corners ends (Ok n) after
    → Each [] (Full (vertices_of coords)) (faces_of after ends) → Sums (vertices_of coords) (faces_of after ends)

-- ---- the two ways to close a group
-- Two choices that close a cell which meets both conditions agree on a whole group of faces, or are opposite on all of it.
abbrev pub WholeGroups : List (List ℕ) → Type 0
WholeGroups fs =
    Fit fs → (c d : ℕ → Bool) → Closed (reversed_by c fs) → Closed (reversed_by d fs)
    → (f : ℕ) → ((g : ℕ) → Group fs f g → c g ≡ d g) ⊎ ((g : ℕ) → Group fs f g → c g ≡ not (d g))

-- fs are any faces that are triangles, for instance those of one group. Under a choice and under its opposite, that is the group kept and
-- the group reversed whole, the exact sums of the triple products differ in sign alone:
-- over the triangles that `volume` sums, about any point p.
abbrev pub SignAlone : List Point → List (List ℕ) → Type 0
SignAlone vs fs =
    Each [] (λ f. length f ≡ 3) fs → (choice : ℕ → Bool) (p : V3)
    → triples (place_of vs) p (triangles_of vs (reversed_by (λ k. not (choice k)) fs))
    ≡ neg_ℤ (triples (place_of vs) p (triangles_of vs (reversed_by choice fs)))

-- ---- all of it, of the cell with these coordinates, corners and face ends
-- That every cell has an outcome is the contract of turn_faces itself, which holds for every input.
pub record TurnFacesFacts (coords : List Float) (corners ends : List ℕ) : Type 0 where
  pub one : OneOutcome coords corners ends
  pub refuses : Refuses coords corners ends
  pub leaves : RefusedLeaves coords corners ends
  pub succeeds : Succeeds coords corners ends
  pub already : ClosedAlready coords corners ends
  pub twice : TwiceIsOnce coords corners ends
  pub full : OnlyFullCuts coords corners ends
  pub groups : WholeGroups (faces_of corners ends)
  pub sign : (fs : List (List ℕ)) → SignAlone (vertices_of coords) fs
