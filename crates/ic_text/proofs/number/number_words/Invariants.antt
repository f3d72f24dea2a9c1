use Rattle.ic_text.specs.inner.Numbered.{numbered_words}
use Rattle.ic_text.specs.inner.Prefix.{nodes_of}
use Rattle.ic_text.proofs.NumberedSoFar.{SoFar}
use Rattle.ic_text.proofs.number.number_words.Given as goal

-- the words so far are numbered
abbrev pub invariant-loop-word : goal.invariant-loop-word
invariant-loop-word l = SoFar l.limits (numbered_words l.limits (nodes_of l.nodes)) (nodes_of l.nodes) l.word l.numbering
