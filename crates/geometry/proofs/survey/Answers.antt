-- `geometry::survey` meets its contract: what passes the checks is sound, and each number is that of its room.
use mathlib.Core.Path.{sym, ap}
use Rattle.places.proofs.Stored.{length_threes}
use Rattle.volume.specs.Volume.{volume_of}
use Rattle.volume.specs.Steps.{measured_of}
use Rattle.volume.specs.declared.Measured.{Measured}
use Rattle.geometry.specs.Survey.{survey_of, survey_answer}
use Rattle.geometry.proofs.Answers.{refused, passed}
use Rattle.refusals.proofs.Refusals.{survey_sound, few_queries}
use Rattle.geometry.proofs.survey.Goals as goal

pub returns-in_err-survey_refusal : goal.returns-in_err-survey_refusal
unfolding survey_answer survey_of measured_of volume_of
returns-in_err-survey_refusal c = refused _ c.from_residual.ensures.1 c.in_err-survey_refusal.ensures

pub invariant_of-cell : goal.invariant_of-cell
invariant_of-cell c =
    record {
      sound = survey_sound c.args.coords.now c.args.corners.now c.args.ends.now c.args.queries.now
          (sym c.in_ok-survey_refusal.ensures);
    }

pub closed-requires : goal.closed-requires
closed-requires c =
    let s = survey_sound c.args.coords.now c.args.corners.now c.args.ends.now c.args.queries.now
    (sym c.in_ok-survey_refusal.ensures) in
    rw (← length_threes c.args.coords.now) (record { each = (s.inside, s.few); corners_len_bound = (s.few_corners, s.ordered) })

pub count_contained-requires : goal.count_contained-requires
count_contained-requires c =
    few_queries c.args.coords.now c.args.corners.now c.args.ends.now c.args.queries.now (sym c.in_ok-survey_refusal.ensures)

pub returns : goal.returns
unfolding survey_answer survey_of measured_of volume_of
returns c =
    let v = ap (λ (x : Measured). x.v6) c.measure-m.ensures in
    let t = ap (λ (x : Measured). x.triangles) c.measure-m.ensures in
    let k = ap (λ (x : Measured). x.short) c.measure-m.ensures in
    passed c.in_ok-survey_refusal.ensures (cc)
