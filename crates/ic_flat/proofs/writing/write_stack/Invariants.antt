use Rattle.std.proofs.Common.{◌≡◌, ◌++◌, sum_by}
use Rattle.std.specs.List.{flat_map}
use Rattle.ic_term.specs.Tree.{nodes}
use Rattle.ic_flat.specs.Words.{tree_words}
use Rattle.ic_flat.specs.inner.Stacks.{coming}
use Rattle.ic_flat.proofs.writing.write_stack.Given as goal

-- the words so far and those of what is on the stack are those of the whole
abbrev pub invariant-loop-term : goal.invariant-loop-term
invariant-loop-term l =
    l.words.items ++ flat_map tree_words (coming l.stack.items) ≡ l.fn.words.items ++ flat_map tree_words (coming l.fn.stack.items)

abbrev pub decreases-loop-term : goal.decreases-loop-term
decreases-loop-term l = sum_by nodes (coming l.stack.items)
