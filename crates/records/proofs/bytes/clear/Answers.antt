-- `records::bytes::clear` meets its contract: a word is its own first byte exactly where its other seven bytes are zero.
use Rattle.records.proofs.Words.{clear_word}
use Rattle.records.proofs.bytes.clear.Goals as goal

pub returns : goal.returns
returns c =
    rw (c.word.ensures, c.from.ensures) (clear_word c.args.s.now c.args.at)
