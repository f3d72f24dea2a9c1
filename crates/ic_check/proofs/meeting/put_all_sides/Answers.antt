use Rattle.std.proofs.Common.{refl, map}
use Rattle.std.specs.List.{flat_map}
use Rattle.ic_term.specs.Term.{pair}
use Rattle.ic_check.specs.Warnings.{pair_sides}
use Rattle.ic_check.proofs.Listing.{next}
use Rattle.ic_check.proofs.meeting.put_all_sides.Goals as goal

pub loop-equation-preserved : goal.loop-equation-preserved
loop-equation-preserved c = record {
  whole = next (λ xs. flat_map pair_sides (map pair xs)) (λ x. pair_sides (pair x)) (λ x xs. refl) c.loop-equation.equation-index c.args.equations.now c.equation-item.result
      c.loop-equation.out.items c.put_sides.new.out.items _ c.loop-equation-test.true c.equation-item.is c.in_ok-put_sides.ensures c.loop-equation.invariant.whole;
}
