use Rattle.std.proofs.Common.{ℕ, List, length, map, ap, sym, ◌∙◌, subst}
use Rattle.ic_rules.specs.RuleSet.{Rules}
use Rattle.ic_meaning.specs.Plans.{ArePlansOf}
use Rattle.ic_in_place.proofs.rounded.round_system.Goals as goal

pub round_compiled-requires-clause-arities : goal.round_compiled-requires-clause-arities
round_compiled-requires-clause-arities g c =
    c.in_ok-program.ensures.arities ∙ ap (λ (r : Rules). map (λ x. x.arity) r.symbols) (c.deref.ensures ∙ c.rules.ensures.rules)

pub round_compiled-requires-clause-numbers : goal.round_compiled-requires-clause-numbers
round_compiled-requires-clause-numbers g c = ap length c.deref-2.ensures.value ∙ c.in_ok-program.ensures.numbers

pub round_compiled-requires-clause-plans : goal.round_compiled-requires-clause-plans
round_compiled-requires-clause-plans g c =
    let p = c.in_ok-program.program in
    let compiled = subst (λ (r : Rules). ArePlansOf r c.in_ok-program.numbers.items p) (c.deref.ensures ∙ c.rules.ensures.rules) c.in_ok-program.ensures.plans in
    subst (λ (ns : List ℕ). ArePlansOf c.args.system.now.rules ns p) (sym c.deref-2.ensures.value) compiled
