-- An entry that cuts one face of a cell, by vertex number or by place, answers `cut_answer`, since its two tests are the two refusals of
-- the definition, in their order; and past both it may cut, since the face is then one of a sound cell and has room.
use mathlib.Core.Path.{◌≡◌, refl, sym, ◌∙◌, ap}
use mathlib.Core.Bool.{Bool, true, false, cond}
use mathlib.Core.List.{List, []}
use Prim.Native.Nat.{ℕ, ◌-◌, ◌<◌, ◌≤◌}
use lib.Dec.{T}
use lib.ListN.{length, get_or, take, drop}
use lib.Seq.{take_at}
use lib.Ieee.{Float}
use Rattle.std.specs.Prelude.{Ok, Err}
use Rattle.std.specs.Result.{IsErrAnd}
use Rattle.places.specs.Refusals.{Check, no_refusal}
use Rattle.places.specs.declared.refusal.Refusal.{Refusal}
use Rattle.places.specs.declared.refusal.Refusal.TheVariants.{Room}
use Rattle.flat.specs.Points.{vertices_of}
use Rattle.flat.specs.Steps.{Inside}
use Rattle.cell.specs.Faces.{faces_of, rises}
use Rattle.cut.specs.Cut.{Cut}
use Rattle.cut.specs.Steps.{Shown}
use Rattle.cut.specs.declared.Counts.{Counts}
use Rattle.refusals.specs.Refusals.{face_refusal, room_refused, triangles_refusal}
use Rattle.refusals.proofs.Refusals.{first_decides, room_decides, AskedFace, asked_face, fits}
use Rattle.geometry.specs.declared.CutCounts.{CutCounts}
use Rattle.geometry.specs.Answers.{Answer, front, beside}
use Rattle.geometry.specs.Cells.{counts_of, cut_answer}
use Rattle.geometry.proofs.Answers.{refused_beside, passed_beside}

module _ (coords : List Float) (corners ends : List ℕ) (k : ℕ) where
  known : no_refusal ≡ face_refusal coords corners ends k → AskedFace coords corners ends k
  known through = asked_face coords corners ends k (sym through)

  -- past the first test the face may be looked up
  pub is_there : no_refusal ≡ face_refusal coords corners ends k → T (rises 0 ends (length corners)) × (k < length ends)
  is_there through = ((known through).ordered, (known through).there)

  -- past both tests it may be cut
  pub may_cut : no_refusal ≡ face_refusal coords corners ends k → {face : List ℕ} → face ≡ get_or (faces_of corners ends) k []
      → (room : ℕ) {b : Bool} → b ≡ room_refused face room → b ≡ false
      → Inside (vertices_of coords) face × ((length face ≤ 2048) × (length face - 2 ≤ room))
  may_cut through {face} asked room r e =
      (rw asked (known through).inside, (rw asked (known through).few, fits face room (sym e ∙ r)))

  -- what is answered, by the two tests
  module _ (cut : Cut) (out : List (List ℕ)) where
    pub not_sound : {r : Answer CutCounts} {why : Refusal} → IsErrAnd r (λ y. y ≡ why) → Err why ≡ face_refusal coords corners ends k
        → (r, out) ≡ cut_answer cut coords corners ends k out
    not_sound up found = refused_beside _ up (first_decides coords corners ends k (length out) found)

    module _ (through : no_refusal ≡ face_refusal coords corners ends k) {face : List ℕ}
        (asked : face ≡ get_or (faces_of corners ends) k []) {b : Bool} (room : b ≡ room_refused face (length out)) where
      decides : cond b (Err Room) no_refusal ≡ triangles_refusal coords corners ends k (length out)
      decides = room_decides coords corners ends k (length out) b through (rw (← asked) room)

      pub no_room : b ≡ true → (Err Room, out) ≡ cut_answer cut coords corners ends k out
      no_room e = refused_beside _ refl (rw e at decides)

      pub is_cut : {r : Counts} {out' : List (List ℕ)} → b ≡ false → Shown cut r out out'
          → (Ok (record { triangles = r.triangles; tests = r.tests }), out') ≡ cut_answer cut coords corners ends k out
      is_cut e shown = passed_beside _ (rw e at decides) (rw (shown.written, shown.count, shown.tests))

-- ---- where counts are answered they are those of the cut, and the triangles of the cut stand at the front of the list
pub cut_written : (cut : Cut) (coords : List Float) (corners ends : List ℕ) (k : ℕ) (out after : List (List ℕ)) (c : CutCounts)
    → (Ok c, after) ≡ cut_answer cut coords corners ends k out → (c ≡ counts_of cut) × (take c.triangles after ≡ cut.triangles)
cut_written cut coords corners ends k out after c = go (triangles_refusal coords corners ends k (length out))
  where
    go : (check : Check) → (Ok c, after) ≡ beside check (Ok (counts_of cut), front cut.triangles out) out
        → (c ≡ counts_of cut) × (take c.triangles after ≡ cut.triangles)
    go (Ok _) e =
        let counts : ◌≡◌ {A = Answer CutCounts} (Ok c) (Ok (counts_of cut)) = ap (λ (x : Answer CutCounts × List (List ℕ)). x.0) e in
        let same : c ≡ counts_of cut = cc in
        let many = sym (ap (λ (x : CutCounts). x.triangles) same) in
        let ts = cut.triangles in
        (same, rw (ap (λ (x : Answer CutCounts × List (List ℕ)). x.1) e) (take_at ts (drop (length ts) out) c.triangles many))
    go (Err why) e =
        let refusal : ◌≡◌ {A = Answer CutCounts} (Ok c) (Err why) = ap (λ (x : Answer CutCounts × List (List ℕ)). x.0) e in
        absurd (cc)
