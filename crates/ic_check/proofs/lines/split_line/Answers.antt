use Rattle.ic_check.proofs.Split.{split_first}
use Rattle.ic_check.proofs.lines.split_line.Goals as goal

pub returns-then-byte-eq10-clause-lines : goal.returns-then-byte-eq10-clause-lines
returns-then-byte-eq10-clause-lines c =
    split_first c.lines_are_parted_by_line_feeds.ensures.first c.args.text.now c.loop-place.place c.loop-place-test.true c.if-byte-eq10.true c.loop-place.invariant.none
