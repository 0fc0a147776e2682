-- `records::bytes::word` meets its contract: the library's word of the eight bytes is the definition's.
use mathlib.Core.Path.{◌∙◌}
use Rattle.records.proofs.Words.{word_bytes}
use Rattle.records.proofs.bytes.word.Goals as goal

pub returns : goal.returns
returns c = c.from_le_bytes.ensures ∙ word_bytes c.args.s.now c.args.at
