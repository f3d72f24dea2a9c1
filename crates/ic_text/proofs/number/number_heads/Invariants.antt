use Rattle.std.proofs.Common.{false}
use Rattle.ic_text.specs.inner.Prefix.{head_words}
use Rattle.ic_text.proofs.Numbering.{go}
use Rattle.ic_text.proofs.NumberedSoFar.{SoFar}
use Rattle.ic_text.proofs.number.number_heads.Given as goal

-- the words so far are numbered after those that were
abbrev pub invariant-loop-head : goal.invariant-loop-head
invariant-loop-head l = SoFar l.limits (go l.limits l.fn.symbols false l.fn.words.items (head_words l.text l.heads)) (head_words l.text l.heads) l.head-index l.numbering
