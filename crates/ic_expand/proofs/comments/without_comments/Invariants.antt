use Rattle.std.proofs.Common.{◌≡◌, ◌++◌, drop}
use Rattle.ic_expand.specs.Comments.{uncommented, uncommented_from}
use Rattle.ic_expand.proofs.comments.without_comments.Given as goal

-- what is kept so far, and what will be of the rest, is what is kept of all
abbrev pub invariant-loop-byte : goal.invariant-loop-byte
invariant-loop-byte l = l.body.items ++ uncommented_from l.inside (drop l.byte-index l.text) ≡ uncommented l.text
