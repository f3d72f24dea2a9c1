use Rattle.std.proofs.Common.{refl, map}
use Rattle.std.specs.List.{flat_map}
use Rattle.ic_term.specs.Term.{pair}
use Rattle.ic_confluence.specs.Agents.{pair_symbols}
use Rattle.ic_check.proofs.Listing.{next}
use Rattle.ic_check.proofs.symbols.put_equations.Goals as goal

pub loop-equation-preserved : goal.loop-equation-preserved
loop-equation-preserved c = record {
  whole = next (λ xs. flat_map pair_symbols (map pair xs)) (λ x. pair_symbols (pair x)) (λ x xs. refl) c.loop-equation.equation-index c.args.equations.now c.equation-item.result
      c.loop-equation.out.items c.put_equation.new.out.items _ c.loop-equation-test.true c.equation-item.is c.in_ok-put_equation.ensures c.loop-equation.invariant.whole;
}
