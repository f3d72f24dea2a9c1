use Rattle.std.proofs.Common.{refl, map}
use Rattle.std.specs.List.{flat_map}
use Rattle.ic_term.specs.Term.{tree}
use Rattle.ic_confluence.specs.Agents.{symbols}
use Rattle.ic_check.proofs.Listing.{next}
use Rattle.ic_check.proofs.symbols.put_terms.Goals as goal

pub loop-term-preserved : goal.loop-term-preserved
loop-term-preserved c = record {
  whole = next (λ xs. flat_map symbols (map tree xs)) (λ x. symbols (tree x)) (λ x xs. refl) c.loop-term.term-index c.args.terms.now c.term-item.result
      c.loop-term.out.items c.put_term.new.out.items _ c.loop-term-test.true c.term-item.is c.in_ok-put_term.ensures c.loop-term.invariant.whole;
}
