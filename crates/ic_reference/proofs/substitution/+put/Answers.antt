use Rattle.std.proofs.Common.{◌≡◌, ◌≤◌, ◌∙◌, ap, map, length, arith}
use Rattle.std.proofs.lemmas.List.{take_all, drop_all, with_items_is}
use Rattle.ic_term.specs.declared.term.Term.TheVariants.{outs-Agent}
use Rattle.ic_term.specs.lemmas.TermLaws.{tree-Agent, cell_tree-out, cell_tree-roll}
use Rattle.ic_term.specs.Term.{tree}
use Rattle.ic_reference.specs.inner.Placing.{held_tree}
use Rattle.ic_reference.proofs.Placed.{placed-agent}
use Rattle.ic_reference.proofs.substitution.+put.Goals as goal

-- src/settling.rt:57:1
pub put-returns-in-Agent : goal.put-returns-in-Agent
put-returns-in-Agent t c =
    let now : c.deref_mut.result.now ≡ c.in-Agent.cell.value = c.deref_mut.ensures.value ∙ ap (λ b. b.value) c.in-Agent.cell-is in
    let ensured = rw now at c.put_in_cell.ensures in
    rw (c.in-Agent.is, outs-Agent, tree-Agent c.in-Agent.cell, tree-Agent) ensured

-- src/settling.rt:73:1
pub put_in_cell-returns : goal.put_in_cell-returns
put_in_cell-returns t c =
    let items = c.loop-term.term-items in
    let i = c.loop-term.term-index in
    let at_end : length items ≤ i = omega arith in
    let ended = rw (take_all i items at_end, drop_all i items at_end) at c.loop-term.invariant.1 in
    let done = placed-agent c.args.name (held_tree c.args.held.now) (held_tree c.loop-term.held) c.args.cell.now.sym
    (map tree c.args.cell.now.args.items) (map tree items) ended in
    let same_length : length items ≡ c.args.cell.now.args.len = c.loop-term.auto.term-items ∙ c.deref_mut-term-items.ensures.len in
    let refilled = with_items_is c.args.cell.now.args items same_length in
    rw (cell_tree-out c.args.cell.now, cell_tree-roll, refilled) done
