use Rattle.std.proofs.Common.{◌≡◌, ◌++◌, length, sum_by}
use Rattle.ic_term.specs.Tree.{nodes}
use Rattle.ic_nets.specs.inner.Hanging.{agents_hung, coming, links_hung}
use Rattle.ic_nets.proofs.sketch.add_hung.Given as goal

-- what is there, and what the stack is still to add
abbrev pub invariant-loop-port : goal.invariant-loop-port
invariant-loop-port l = (l.agents.items ++ agents_hung (coming l.stack.items) ≡ l.fn.agents.items ++ agents_hung (coming l.fn.stack.items))
    × (l.links.items ++ links_hung (length l.agents.items) (coming l.stack.items)
    ≡ l.fn.links.items ++ links_hung (length l.fn.agents.items) (coming l.fn.stack.items))

abbrev pub decreases-loop-port : goal.decreases-loop-port
decreases-loop-port l = sum_by (λ h. nodes h.1) (coming l.stack.items)
