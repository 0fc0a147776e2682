-- `shared_sides::put` meets its contract: a mark that is put changes one entry, that of the first free place of this side, and no other
-- side's.
use Rattle.side_table.proofs.Numbers.{entries}
use Rattle.shared_sides.proofs.Table.{put_first, put_second, put_third}
use Rattle.shared_sides.proofs.put.Goals as goal

pub returns-then-table-first-eq0 : goal.returns-then-table-first-eq0
returns-then-table-first-eq0 c =
    rw c.entry-first.ensures.0
    (put_first (entries c.requires.ready.numbering) c.args.table.now c.requires.ready.wide c.args.m c.requires.known.0 c.requires.known.1
    c.requires.known.2
    c.requires.known.3 c.requires.ready.sane (rw c.entry-first.ensures.0 at c.if-table-first-eq0.true))

pub returns-then-table-second-eq0 : goal.returns-then-table-second-eq0
returns-then-table-second-eq0 c =
    let taken = rw c.entry-first.ensures.0 at c.if-table-first-eq0.false in
    rw c.entry-second.ensures.0
    (put_second (entries c.requires.ready.numbering) c.args.table.now c.requires.ready.wide c.args.m c.requires.known.0 c.requires.known.1
    c.requires.known.2
    c.requires.known.3 c.requires.ready.sane taken (rw c.entry-second.ensures.0 at c.if-table-second-eq0.true))

pub returns : goal.returns
returns c =
    let taken = rw c.entry-first.ensures.0 at c.if-table-first-eq0.false in
    put_third (entries c.requires.ready.numbering) c.args.table.now c.requires.ready.wide c.args.m c.requires.known.0 c.requires.known.1
    c.requires.known.2
    c.requires.known.3 c.requires.ready.sane taken (rw c.entry-second.ensures.0 at c.if-table-second-eq0.false)
