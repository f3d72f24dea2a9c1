use Rattle.ic_text.specs.inner.Prefix.{nodes_of}
use Rattle.ic_text.proofs.RuleNodes.{Walked}
use Rattle.ic_text.proofs.excess.too_long_rule.Given as goal

-- the words so far keep the limit
abbrev pub invariant-loop-word : goal.invariant-loop-word
invariant-loop-word l = Walked (nodes_of l.nodes) l.word l.due l.second l.found
