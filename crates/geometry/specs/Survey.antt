-- What the cell report finds out about a cell with its query points.
use Rattle.std.specs.Prelude.{List, ℕ, length, Float}
use Rattle.places.specs.Loops.{count_of}
use Rattle.flat.specs.Points.{Point, vertices_of}
use Rattle.exact.specs.Sides.{closed_of}
use Rattle.cell.specs.Faces.{faces_of}
use Rattle.refusals.specs.Refusals.{survey_refusal}
use Rattle.volume.specs.Triangles.{triangles_of, short_of}
use Rattle.volume.specs.Volume.{volume_of}
use Rattle.inside.specs.Inside.{holds}
use Rattle.geometry.specs.declared.Findings.{Findings}
use Rattle.geometry.specs.Answers.{Answer, answered}

-- triangles, whether it is closed, faces cut short, the volume, and how many query points it contains
unfoldable pub survey_of : List Point → List (List ℕ) → List Point → Findings
survey_of vs fs queries =
    record {
      triangles = length (triangles_of vs fs);
      closed = closed_of fs;
      short = short_of vs fs;
      volume = volume_of vs fs;
      contained = count_of (holds vs fs) queries;
    }

-- that, or why the cell or its query points are refused
unfoldable pub survey_answer : List Float → List ℕ → List ℕ → List Float → Answer Findings
survey_answer coords corners ends queries =
    let survey = survey_of (vertices_of coords) (faces_of corners ends) (vertices_of queries) in
    answered (survey_refusal coords corners ends queries) survey
