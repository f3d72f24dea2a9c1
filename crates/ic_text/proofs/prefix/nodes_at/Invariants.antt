use Rattle.std.proofs.Common.{◌≡◌, take}
use Rattle.ic_text.specs.inner.Prefix.{head_words, nodes_of}
use Rattle.ic_text.proofs.prefix.nodes_at.Given as goal

-- so many words are found
abbrev pub invariant-loop-head : goal.invariant-loop-head
invariant-loop-head l = nodes_of l.nodes.items ≡ head_words l.text (take l.head-index l.heads)
