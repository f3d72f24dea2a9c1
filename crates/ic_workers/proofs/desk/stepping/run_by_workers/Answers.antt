use Rattle.std.proofs.Common.{ℕ, List, length, map, ap, sym, ◌∙◌, subst}
use Rattle.ic_rules.specs.RuleSet.{Rules}
use Rattle.ic_meaning.specs.Plans.{ArePlansOf}
use Rattle.ic_workers.proofs.desk.stepping.run_by_workers.Goals as goal

pub run_compiled-requires-clause-arities : goal.run_compiled-requires-clause-arities
run_compiled-requires-clause-arities g c = λ κs outlives.
    c.in_ok-program.ensures.arities ∙ ap (λ (r : Rules). map (λ x. x.arity) r.symbols) (c.deref.ensures ∙ c.rules.ensures.rules)

pub run_compiled-requires-clause-numbers : goal.run_compiled-requires-clause-numbers
run_compiled-requires-clause-numbers g c = λ κs outlives. ap length c.deref-2.ensures.value ∙ c.in_ok-program.ensures.numbers

pub run_compiled-requires-clause-plans : goal.run_compiled-requires-clause-plans
run_compiled-requires-clause-plans g c = λ κs outlives.
    let p = c.in_ok-program.program in
    let compiled = subst (λ (r : Rules). ArePlansOf r c.in_ok-program.numbers.items p) (c.deref.ensures ∙ c.rules.ensures.rules) c.in_ok-program.ensures.plans in
    subst (λ (ns : List ℕ). ArePlansOf c.args.system.now.rules ns p) (sym c.deref-2.ensures.value) compiled
