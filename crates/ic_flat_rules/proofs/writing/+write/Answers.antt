use Rattle.std.proofs.Common.{get_or, ap, ◌∙◌, arith}
use Rattle.ic_term.specs.declared.term.Cell.{out-Cell}
use Rattle.ic_flat_rules.proofs.RuleWriting.{cell-written, argument_nodes}
use Rattle.ic_flat_rules.proofs.writing.+write.Goals as goal

pub write_cell-loop-term-init : goal.write_cell-loop-term-init
write_cell-loop-term-init t c =
    cell-written c.args.words.now.items c.push.new.self.items c.args.cell.now c.len.result c.deref-term-items.result.now (c.len.ensures ∙ (out-Cell c.args.cell.now).args.ok.0) c.deref-term-items.ensures.value c.in_ok-push.ensures.items

pub write_cell-write_term-requires : goal.write_cell-write_term-requires
write_cell-write_term-requires t c = (
  omega (
    arith,
    argument_nodes c.args.cell.now c.loop-term.term-index c.term-item.result (omega arith)
        (c.term-item.is ∙ ap (λ l. get_or l c.loop-term.term-index c.term-item.result) c.deref-term-items.ensures.value),
  ),
  tt,
)
