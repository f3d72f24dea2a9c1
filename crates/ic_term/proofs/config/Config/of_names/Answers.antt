use Rattle.std.proofs.Common.{◌≡◌, ◌≤◌, sym, ◌∙◌, ap, true, None, arith, rules, map, nat_lt}
use Rattle.std.specs.List.{list_all}
use Rattle.ic_term.specs.Term.{tree, pair}
use Rattle.ic_term.specs.Configuration.{third_occurrence}
use Rattle.ic_term.specs.declared.limits.TheConstants.{MAX_NEXT}
use Rattle.ic_term.proofs.ConfigLemmas.{configuration_from_tests}
use Rattle.ic_term.proofs.config.Config.of_names.Goals as goal

pub invariant_of-result : goal.invariant_of-result
invariant_of-result c =
    let next : c.args.next ≤ MAX_NEXT = omega arith in
    let below : list_all (λ n. nat_lt n c.args.next) c.args.names.now ≡ true = search rules in
    let none : third_occurrence c.args.names.now ≡ None = search rules in
    configuration_from_tests (record { interface = map tree c.args.interface.items; equations = map pair c.args.equations.items; next = c.args.next })
    c.requires.small next
    (ap (list_all (λ n. nat_lt n c.args.next)) (sym c.requires.names) ∙ below)
    (ap third_occurrence (sym c.requires.names) ∙ none)
