-- `facing::Paired::step` meets its contract: after `seed` a face waits in the list, and `ask` lets that one ask.
use native.Mathlib.Omega.{arith}
use Rattle.cell.specs.Faces.{faces_of}
use Rattle.cell.proofs.Faces.{length_faces}
use Rattle.facing.proofs.Paired.step.Goals as goal

pub seed-ready-requires : goal.seed-ready-requires
seed-ready-requires c =
    record {
      fs = faces_of c.args.self.now.corners.now c.args.self.now.ends.now;
      spread = c.requires.spread.0;
      few = omega (arith, c.args.self.now.ground.few_faces, length_faces c.args.self.now.corners.now c.args.self.now.ends.now);
      some = omega (arith, c.requires.spread.1, length_faces c.args.self.now.corners.now c.args.self.now.ends.now);
    }

pub ask-requires : goal.ask-requires
ask-requires c =
    record {
      spread = (
        c.seed-ready.ensures.spread (faces_of c.args.self.now.corners.now c.args.self.now.ends.now) c.requires.spread.0
            (omega (arith, c.requires.spread.1, length_faces c.args.self.now.corners.now c.args.self.now.ends.now)),
        c.seed-ready.ensures.waits,
      );
    }
