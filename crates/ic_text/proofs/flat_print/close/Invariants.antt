use Rattle.std.proofs.Common.{reverse, vec_len}
use Rattle.ic_text.proofs.WordTextLemmas.{IsClosing}
use Rattle.ic_text.proofs.flat_print.close.Given as goal

-- of what is to be written, so much is left
abbrev pub invariant-loop-left : goal.invariant-loop-left
invariant-loop-left l = IsClosing (reverse l.fn.due.items) l.fn.out.items (reverse l.due.items) l.out.items

abbrev pub decreases-loop-left : goal.decreases-loop-left
decreases-loop-left l = vec_len l.due
