use Rattle.std.proofs.Common.{◌++◌, map, ap, refl}
use Rattle.ic_term.specs.Term.{pair, tree}
use Rattle.ic_check.specs.Warnings.{ruleless, ruleless_pairs}
use Rattle.ic_check.proofs.Listing.{next}
use Rattle.ic_check.proofs.warnings.ruleless_pairs.Goals as goal

pub loop-equation-init : goal.loop-equation-init
loop-equation-init c = record { whole = ap (λ l. l ++ ruleless_pairs c.args.rules.now.rules (map pair c.args.equations.now)) c.new-pairs.ensures.items }

pub loop-equation-preserved : goal.loop-equation-preserved
loop-equation-preserved c =
    let rs = c.args.rules.now.rules in
    record {
      whole = next (λ es. ruleless_pairs rs (map pair es)) (λ e. ruleless rs (tree e.left) (tree e.right)) (λ e es. refl)
          c.loop-equation.equation-index c.args.equations.now c.equation-item.result c.loop-equation.pairs.items c.put_ruleless.new.out.items _
          c.loop-equation-test.true c.equation-item.is c.in_ok-put_ruleless.ensures c.loop-equation.invariant.whole;
    }
