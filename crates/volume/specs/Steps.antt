-- What functions below the gatehouse ask of and promise each other; no contract of a public entry speaks of these.
use Rattle.volume.specs.Volume.{add_triple, v6_of, add_moment}
use Rattle.std.specs.Prelude.{ℕ, ◌+◌, List, length}
use Rattle.places.specs.Loops.{fold_list, one_if}
use Rattle.flat.specs.Points.{Point}
use Rattle.volume.specs.Triangles.{triangles_of, short_of, is_short}
use Rattle.volume.specs.declared.Measured.{Measured}
use Rattle.volume.specs.declared.Moments.{Moments}
use Rattle.cut.specs.Cut.{cut_of}

-- what one pass over the faces tells: v6, how many triangles there are, and how many faces are short
unfoldable pub measured_of : List Point → List (List ℕ) → Measured
measured_of vs fs = record { v6 = v6_of vs fs; triangles = length (triangles_of vs fs); short = short_of vs fs }

-- ---- what one face adds in the passes over the faces of a cell; proofs/Passes.antt joins them
-- the triple products of its triangles, how many they are, and whether it is short
unfoldable pub add_face : List Point → Point → List ℕ → Measured → Measured
add_face vs ref f m =
    record {
      v6 = fold_list (add_triple vs ref) (cut_of vs f).triangles m.v6;
      triangles = m.triangles + length (cut_of vs f).triangles;
      short = m.short + one_if (is_short vs f);
    }

-- the moments of its triangles
unfoldable pub add_face_moments : List Point → Point → List ℕ → Moments → Moments
add_face_moments vs ref f m = fold_list (add_moment vs ref) (cut_of vs f).triangles m
