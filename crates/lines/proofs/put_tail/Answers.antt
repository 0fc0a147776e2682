-- `lines::put_tail` meets its contract: the text that is put is the tail line, byte for byte.
use Rattle.lines.specs.Lines.{tail_line}
use Rattle.lines.proofs.put_tail.Goals as goal

pub returns : goal.returns
unfolding tail_line
returns c =
    c.put_text.ensures
