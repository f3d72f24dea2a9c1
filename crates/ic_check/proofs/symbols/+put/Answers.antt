use Rattle.std.proofs.Common.{map, refl}
use Rattle.ic_term.specs.Tree.{trees_of}
use Rattle.ic_term.specs.Term.{tree}
use Rattle.ic_confluence.specs.Agents.{symbols, symbols_of}
use Rattle.ic_check.proofs.Listing.{agent_begun, next}
use Rattle.ic_check.proofs.symbols.+put.Goals as goal

pub put_cell-loop-term-init : goal.put_cell-loop-term-init
put_cell-loop-term-init t c = record {
  whole = agent_begun c.args.cell.now c.deref-term-items.result.now c.args.out.now.items c.push.new.self.items c.deref-term-items.ensures.value c.in_ok-push.ensures.items;
}

pub put_cell-loop-term-preserved : goal.put_cell-loop-term-preserved
put_cell-loop-term-preserved t c = record {
  whole = next (λ ts. symbols_of (trees_of (map tree ts))) (λ t. symbols (tree t)) (λ t ts. refl) c.loop-term.term-index c.deref-term-items.result.now c.term-item.result
      c.loop-term.out.items c.put_term.new.out.items _ c.loop-term-test.true c.term-item.is c.in_ok-put_term.ensures c.loop-term.invariant.whole;
}
