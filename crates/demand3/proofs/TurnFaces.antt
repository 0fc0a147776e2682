-- What specs/TurnFaces.antt states of turning the backward faces follows from the promise: the choice is unique, the faces of the turned
-- list are the faces before, reversed by it, and the rest is demand 3 and the refusals.
use mathlib.Core.Path.{◌≡◌, refl, sym, ◌∙◌, ap}
use mathlib.Core.Bool.{Bool, true, false, not}
use mathlib.Core.List.{List, [], ◌∷◌}
use Prim.Native.Nat.{ℕ, suc}
use native.Mathlib.Omega.{arith}
use lib.Dec.{T, ltb}
use lib.ListN.{length}
use lib.Ieee.{Float}
use Rattle.std.specs.Prelude.{Ok, Err}
use Rattle.places.specs.Refusals.{Check, no_refusal}
use Rattle.places.specs.declared.refusal.Refusal.{Refusal}
use Rattle.places.specs.Lists.{Each}
use Rattle.places.specs.Stored.{joined}
use Rattle.places.proofs.Lists.{each_nil, each_cons, each_head, each_tail}
use Rattle.exact.specs.Sides.{Closed}
use Rattle.exact.specs.Facing.{reversed_by, how_many, Twice, Fit, Made}
use Rattle.exact.proofs.Test.{closed_test}
use Rattle.exact.proofs.Volume.{Three}
use Rattle.exact.proofs.Reversed.{length_by, face_by_lem}
use Rattle.exact.proofs.Mirrored.{mirrored}
use Rattle.exact.proofs.OneOutcome.{one_outcome, nothing_faces, nothing_many, already, again, whole_group}
use Rattle.flat.specs.Points.{Point, vertices_of}
use Rattle.cut.specs.Cut.{cut_of}
use Rattle.cut.proofs.Facts.{cut_all}
use Rattle.cell.specs.Faces.{faces_of, rises}
use Rattle.cell.proofs.Faces.{length_faces}
use Rattle.cell.proofs.Refusals.{sound}
use Rattle.facing.proofs.Reversed.{joined_faces, length_reversed, faces_reversed, accepted_reversed}
use Rattle.volume.specs.Triangles.{triangles_of}
use Rattle.refusals.specs.Refusals.{cell_refusal, turn_faces_refusal}
use Rattle.geometry.specs.Answers.{answered}
use Rattle.geometry.specs.TurnFaces.{TurnFacesGives}
use Rattle.geometry.specs.Listed.{Reply, told, written, of_count}
use Rattle.demand3.specs.Demand3.{Premises, place_of}
use Rattle.demand3.specs.TurnFaces.{OneOutcome, OneOutcomeTold, RefusedLeaves, Success, Succeeds, ClosedAlready, TwiceIsOnce}
use Rattle.demand3.specs.TurnFaces.{Closing, OnlyFullCuts, WholeGroups, SignAlone, TurnFacesFacts}
use Rattle.demand3.proofs.Demand3.{sums}
use Rattle.demand3.proofs.Refused.{refuses}

-- ---- what an answer tells
told_refused : (check : Check) (w : Refusal) (m : ℕ) → Err w ≡ answered check m → Err w ≡ check
told_refused (Ok _) w m e = absurd cc
told_refused (Err why) w m e = let same : w ≡ why = cc in rw same

told_is : (check : Check) (n m : ℕ) → Ok n ≡ answered check m → (check ≡ no_refusal) × (n ≡ m)
told_is (Ok _) n m e = (refl, cc)
told_is (Err why) n m e = absurd cc

-- where counts are equal unless the call is refused, so are the answers
same_count : (check : Check) (n m : ℕ) → (check ≡ no_refusal → n ≡ m) → answered check n ≡ answered check m
same_count (Ok _) n m h = rw (h refl)
same_count (Err why) n m h = refl

-- ---- the cell
module _ (coords : List Float) (corners ends : List ℕ) where
  abbrev why : Check
  why = turn_faces_refusal coords corners ends

  abbrev fs : List (List ℕ)
  fs = faces_of corners ends

  ordered : cell_refusal coords corners ends ≡ no_refusal → T (rises 0 ends (length corners))
  ordered e = (sound coords corners ends [] [] e).ordered

  -- ---- one outcome: the choice is unique where the call is not refused, and else nothing depends on it
  pub one : OneOutcome coords corners ends
  one r r' after after' t u =
      let twice : why ≡ no_refusal → Twice fs = λ z. ((refuses coords corners ends).none.0 z).1.twice in
      let both = one_outcome why fs t.choice u.choice corners after after' twice t.reversed u.reversed in
      let many = rw (length_faces corners ends) at both.1 in
      (t.answer ∙ same_count why _ _ many ∙ sym u.answer, both.0)

  -- ---- and so under the C name: by the room for the count either the refusal alone decides, or the entry's promise does
  pub one_told : OneOutcomeTold coords corners ends
  one_told out code code' after after' told₁ told₂ t u = go (ltb (length out) 1) refl
    where
      go : (b : Bool) → ltb (length out) 1 ≡ b → (code ≡ code') × (after ≡ after') × (told₁ ≡ told₂)
      go true short =
          let p = t.untold short in
          let q = u.untold short in
          (p.0 ∙ sym q.0, p.1 ∙ sym q.1, p.2 ∙ sym q.2)
      go false long =
          let p = t.turns long in
          let q = u.turns long in
          let same = one t.count u.count after after' p.0 q.0 in
          let heard : told code [] told₁ ≡ told code' [] told₂ = p.1 ∙ ap (λ k. written (of_count k) [] out) same.0 ∙ sym q.1 in
          (ap (λ (h : Reply). h.0) heard, same.1, ap (λ (h : Reply). h.2) heard)

  -- ---- a refusal
  pub leaves : RefusedLeaves coords corners ends
  leaves w after t =
      let told = told_refused why w _ t.answer in
      (told, rw (← told) at t.reversed.list)

  -- ---- success
  module _ (n : ℕ) (after : List ℕ) (t : TurnFacesGives coords corners ends (Ok n) after) where
    passed : (why ≡ no_refusal) × (n ≡ how_many t.choice (length ends))
    passed = told_is why n _ t.answer

    made : Made fs t.choice
    made = t.reversed.made passed.0

    list : after ≡ joined (reversed_by t.choice fs)
    list = rw passed.0 at t.reversed.list

    cell : cell_refusal coords corners ends ≡ no_refusal
    cell = ((refuses coords corners ends).none.0 passed.0).0

    fit : Fit fs
    fit = ((refuses coords corners ends).none.0 passed.0).1

    faces : faces_of after ends ≡ reversed_by t.choice fs
    faces = rw list (faces_reversed t.choice corners ends (ordered cell))

    closed_now : Closed (faces_of after ends)
    closed_now = rw faces made.closes

    fit_now : Fit (faces_of after ends)
    fit_now = rw faces (again fs t.choice fit made).0

    pub success : Success coords corners ends n after
    success = record {
      closed = (closed_test (faces_of after ends)).1 closed_now;
      accepted = rw list (accepted_reversed t.choice coords corners ends [] [] cell);
      corners_kept = rw list (length_reversed t.choice corners ends (ordered cell));
      choice = t.choice;
      counted = passed.1;
      face = λ k. rw faces (face_by_lem t.choice fs k);
      keeps = made.keeps;
    }

  pub succeeds : Succeeds coords corners ends
  succeeds = success

  -- ---- a closed cell: the choice that reverses nothing is allowed, and the outcome is one
  pub closed_already : ClosedAlready coords corners ends
  closed_already cell fit closed r after t = one r (Ok 0) after corners t still
    where
      is_closed : Closed fs
      is_closed = (closed_test fs).0 closed

      none_refuses : why ≡ no_refusal
      none_refuses =
          let closing : Closing fs = record { choice = λ k. false; closes = rw (nothing_faces fs) is_closed } in
          (refuses coords corners ends).none.1 (cell, fit, closing)

      still : TurnFacesGives coords corners ends (Ok 0) corners
      still = record {
        choice = λ k. false;
        answer = rw (none_refuses, nothing_many (length ends));
        reversed = record {
          made = λ z. already fs is_closed;
          list = rw (none_refuses, nothing_faces fs, joined_faces corners ends (ordered cell));
        };
      }

  pub full_cuts : OnlyFullCuts coords corners ends
  full_cuts n after t full =
      let vs = vertices_of coords in
      let h : Premises vs (faces_of after ends) = record { full = full; balanced = closed_now n after t } in
      sums vs (faces_of after ends) h

-- ---- a second time: a turned cell is closed, is not refused and meets both conditions
pub twice_is_once : (coords : List Float) (corners ends : List ℕ) → TwiceIsOnce coords corners ends
twice_is_once coords corners ends n after t =
    let s = success coords corners ends n after t in
    closed_already coords after ends s.accepted (fit_now coords corners ends n after t) s.closed

-- ---- groups
pub whole_groups : (fs : List (List ℕ)) → WholeGroups fs
whole_groups fs fit = whole_group fs fit.twice

-- ---- triangles: each is its own cut
module _ (vs : List Point) where
  one_piece : (f : List ℕ) → Three f → (cut_of vs f).triangles ≡ f ∷ []
  one_piece f = cut_all vs f (λ r c. Three r → c.triangles ≡ r ∷ []) (record {
    small = λ r h e. absurd (omega arith);
    three = λ r h e. refl;
    stop = λ r h q e. absurd (omega arith);
    clip = λ k r c h l q e. absurd (omega arith);
  })

  own_pieces : (fs : List (List ℕ)) → Each [] Three fs → triangles_of vs fs ≡ fs
  unfolding triangles_of
  own_pieces [] e = refl
  own_pieces (f ∷ fs) e = rw (one_piece f (each_head e), own_pieces fs (each_tail e))

  threes_by : (choice : ℕ → Bool) (fs : List (List ℕ)) → Each [] Three fs → Each [] Three (reversed_by choice fs)
  threes_by choice [] e = each_nil
  threes_by choice (f ∷ fs) e = each_cons (length_by (choice 0) f ∙ each_head e) (threes_by (λ k. choice (suc k)) fs (each_tail e))

  pub sign_alone : (fs : List (List ℕ)) → SignAlone vs fs
  sign_alone fs e choice p =
      let opposite : ℕ → Bool = λ k. not (choice k) in
      rw (own_pieces (reversed_by opposite fs) (threes_by opposite fs e), own_pieces (reversed_by choice fs) (threes_by choice fs e))
      (mirrored (place_of vs) p choice fs e)

pub turn_faces_facts : (coords : List Float) (corners ends : List ℕ) → TurnFacesFacts coords corners ends
turn_faces_facts coords corners ends = record {
  one = one coords corners ends;
  refuses = refuses coords corners ends;
  leaves = leaves coords corners ends;
  succeeds = succeeds coords corners ends;
  already = closed_already coords corners ends;
  twice = twice_is_once coords corners ends;
  full = full_cuts coords corners ends;
  groups = whole_groups (faces_of corners ends);
  sign = sign_alone (vertices_of coords);
}
