use Rattle.std.proofs.Common.{◌≡◌, List, subst, ◌∙◌}
use Rattle.std.specs.Arc.{arc_value}
use Rattle.ic_term.specs.Symbol.{Symbol, AreSymbols}
use Rattle.ic_term.specs.Configuration.{Configuration, IsConfiguration}
use Rattle.ic_rules.specs.RuleSet.{Rules, IsRuleSet}
use Rattle.ic_jobs.specs.Job.{open_state}
use Rattle.ic_jobs.proofs.JobLemmas.{IsJob-of_parts}
use Rattle.ic_jobs.proofs.job.Job.begun.Goals as goal

pub invariant_of-result : goal.invariant_of-result
invariant_of-result c =
    let rules : c.rules.result.now ≡ arc_value c.args.rules = c.rules.ensures.rules ∙ c.deref-2.ensures in
    let again : c.rules-2.result.now ≡ arc_value c.args.rules = c.rules-2.ensures.rules ∙ c.deref-3.ensures in
    let set = subst (λ (r : Rules). IsRuleSet r) c.deref-2.ensures c.rules.ensures.sound in
    let symbols = subst (λ (r : Rules). AreSymbols r.symbols) rules (subst (λ (ss : List Symbol). AreSymbols ss) c.symbols.ensures.symbols c.len-count.ensures.sound) in
    let config = subst (λ (k : Configuration). IsConfiguration k) c.deref.ensures c.next-next.ensures.sound in
    IsJob-of_parts c.args.name (arc_value c.args.rules) (arc_value c.args.config) c.open_state-state.result c.args.budget c.as_bytes-text.ensures.name symbols set c.requires.served config c.requires.over
    c.is_within-none.ensures.sound (c.open_state-state.ensures ∙ (λ i. open_state (again i) (c.deref-4.ensures i)))

pub returns-clause-sound : goal.returns-clause-sound
returns-clause-sound c =
    let rules : c.rules.result.now ≡ arc_value c.args.rules = c.rules.ensures.rules ∙ c.deref-2.ensures in
    let again : c.rules-2.result.now ≡ arc_value c.args.rules = c.rules-2.ensures.rules ∙ c.deref-3.ensures in
    let set = subst (λ (r : Rules). IsRuleSet r) c.deref-2.ensures c.rules.ensures.sound in
    let symbols = subst (λ (r : Rules). AreSymbols r.symbols) rules (subst (λ (ss : List Symbol). AreSymbols ss) c.symbols.ensures.symbols c.len-count.ensures.sound) in
    let config = subst (λ (k : Configuration). IsConfiguration k) c.deref.ensures c.next-next.ensures.sound in
    IsJob-of_parts c.args.name (arc_value c.args.rules) (arc_value c.args.config) c.open_state-state.result c.args.budget c.as_bytes-text.ensures.name symbols set c.requires.served config c.requires.over
    c.is_within-none.ensures.sound (c.open_state-state.ensures ∙ (λ i. open_state (again i) (c.deref-4.ensures i)))
