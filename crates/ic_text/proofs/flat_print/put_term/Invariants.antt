use Rattle.std.proofs.Common.{◌-◌, length, reverse}
use Rattle.ic_text.proofs.WordTextLemmas.{IsPrinting}
use Rattle.ic_text.proofs.flat_print.put_term.Given as goal

-- the words up to the end are written
abbrev pub invariant-loop-more : goal.invariant-loop-more
invariant-loop-more l = IsPrinting l.symbols l.words l.place l.end l.more (reverse l.due.items) l.fn.out.items l.out.items

abbrev pub decreases-loop-more : goal.decreases-loop-more
decreases-loop-more l = length l.initial.words - l.end
