use Rattle.std.proofs.Common.{◌+◌}
use Rattle.ic_codec.proofs.WordReading.{IsReading}
use Rattle.ic_codec.proofs.words.words_at.Given as goal

-- so many words have been read
abbrev pub invariant-loop-due : goal.invariant-loop-due
invariant-loop-due l = IsReading l.symbols l.terms l.bytes l.words.items l.due l.spare l.rest

abbrev pub decreases-loop-due : goal.decreases-loop-due
decreases-loop-due l = l.due + l.spare
