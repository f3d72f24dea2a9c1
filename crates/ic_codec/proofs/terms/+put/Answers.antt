use Rattle.std.proofs.Common.{◌+◌, drop, map, get_or, ap, ◌∙◌, arith}
use Rattle.ic_term.specs.Tree.{trees_of}
use Rattle.ic_term.specs.Term.{tree}
use Rattle.ic_codec.specs.Terms.{tree_bytes, trees_bytes}
use Rattle.ic_codec.proofs.TermLemmas.{argument_nodes}
use Rattle.ic_codec.proofs.Appending.{arguments_from, left_fits, goes_on}
use Rattle.ic_codec.proofs.terms.+put.Goals as goal

pub put_cell-put_term-requires : goal.put_cell-put_term-requires
put_cell-put_term-requires t c = (
  omega (
    arith,
    argument_nodes c.args.cell.now c.loop-term.term-index c.term-item.result (omega arith)
        (c.term-item.is ∙ ap (λ l. get_or l c.loop-term.term-index c.term-item.result) c.deref-term-items.ensures.value),
  ),
  left_fits (tree_bytes (tree c.term-item.result)) (trees_bytes (trees_of (map tree (drop (c.loop-term.term-index + 1) c.deref-term-items.result.now))))
      (arguments_from c.deref-term-items.result.now c.loop-term.term-index c.term-item.result (omega arith) c.term-item.is) c.loop-term.invariant,
)

pub put_cell-loop-term-preserved : goal.put_cell-loop-term-preserved
put_cell-loop-term-preserved t c =
    goes_on (tree_bytes (tree c.term-item.result)) (trees_bytes (trees_of (map tree (drop (c.loop-term.term-index + 1) c.deref-term-items.result.now))))
    (arguments_from c.deref-term-items.result.now c.loop-term.term-index c.term-item.result (omega arith) c.term-item.is) c.loop-term.invariant c.put_term.ensures
