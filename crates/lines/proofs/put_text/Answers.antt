-- `lines::put_text` meets its contract: the part of the list behind `at` that is as long as the text is the text, and the rest is as it
-- was.
use mathlib.Core.Path.{refl}
use Rattle.lines.proofs.Writing.{put_part}
use Rattle.lines.proofs.put_text.Goals as goal

pub returns : goal.returns
returns c = record {
  holds = put_part c.args.out.now c.args.at c.args.text.now c.copy_from_slice.ensures.after c.requires;
  ends = refl;
}
