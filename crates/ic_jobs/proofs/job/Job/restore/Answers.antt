use Rattle.std.proofs.Common.{◌≡◌, List, refl, sym, ap, subst, ◌∙◌, arith}
use Rattle.std.proofs.lemmas.Bool.{false≢true}
use Rattle.std.specs.Arc.{arc_value}
use Rattle.ic_term.specs.Symbol.{Symbol, AreSymbols, is_over}
use Rattle.ic_term.specs.Configuration.{Configuration, IsConfiguration}
use Rattle.ic_rules.specs.RuleSet.{Rules, AreServed, IsRuleSet}
use Rattle.ic_round.specs.Quiet.{is_quiet}
use Rattle.ic_jobs.specs.Budget.{is_used_up}
use Rattle.ic_jobs.specs.inner.States.{may_be}
use Rattle.ic_jobs.proofs.JobLemmas.{state_found, state_is}
use Rattle.ic_jobs.proofs.job.Job.restore.Goals as goal

pub returns-then-not-may_be-clause-job : goal.returns-then-not-may_be-clause-job
returns-then-not-may_be-clause-job c =
    let rules = arc_value c.args.rules in let config = arc_value c.args.config in
    let quiet : c.quiet.result ≡ is_quiet rules.rules config = c.quiet.ensures.test ∙ (λ i. is_quiet ((c.rules-3.ensures.rules ∙ c.deref-4.ensures) i).rules (c.deref-5.ensures i)) in
    let tested : c.may_be.result ≡ may_be c.args.state (is_quiet rules.rules config) (is_used_up c.args.budget c.args.rounds) =
    c.may_be.ensures ∙ (λ i. may_be c.args.state (quiet i) (c.is_used_up.ensures i)) in (
      λ e. absurd (false≢true e),
      λ is. sym c.if-not-may_be.true ∙ tested ∙ state_found c.args.state rules config c.args.rounds c.args.budget (record { done = is.done; spent = is.spent }),
    )

-- what the types of the parts keep, and what was tested
pub invariant_of-result : goal.invariant_of-result
invariant_of-result c =
    let given = arc_value c.args.rules in let config = arc_value c.args.config in
    let rules : c.rules.result.now ≡ given = c.rules.ensures.rules ∙ c.deref.ensures in
    let symbols : c.symbols-symbols.result.now ≡ given.symbols = c.symbols-symbols.ensures.symbols ∙ ap (λ (r : Rules). r.symbols) rules in
    let again : c.rules-2.result.now ≡ given = c.rules-2.ensures.rules ∙ c.deref-3.ensures in
    let quiet : c.quiet.result ≡ is_quiet given.rules config = c.quiet.ensures.test ∙ (λ i. is_quiet ((c.rules-3.ensures.rules ∙ c.deref-4.ensures) i).rules (c.deref-5.ensures i)) in
    let tested : c.may_be.result ≡ may_be c.args.state (is_quiet given.rules config) (is_used_up c.args.budget c.args.rounds) =
    c.may_be.ensures ∙ (λ i. may_be c.args.state (quiet i) (c.is_used_up.ensures i)) in
    let state = state_is c.args.state given config c.args.rounds c.args.budget (sym tested ∙ c.if-not-may_be.false) in
    record {
      name = c.as_bytes-text.ensures.name;
      symbols = subst (λ (ss : List Symbol). AreSymbols ss) symbols c.len-count.ensures.sound;
      rules = subst (λ (r : Rules). IsRuleSet r) c.deref.ensures c.rules.ensures.sound;
      served = subst (λ (r : Rules). AreServed r) again (c.are_served.ensures.served.0 c.if-not-are_served.false);
      config = subst (λ (k : Configuration). IsConfiguration k) c.deref-2.ensures c.next-next.ensures.sound;
      over = sym (c.over.ensures ∙ (λ i. is_over (symbols i) (c.deref-else-not-is_within.ensures i))) ∙ c.if-not-over.false;
      counted = omega (arith, c.if-rounds-gt-MAX_ROUNDS.false);
      budget = c.is_within.ensures.sound;
      within = c.is_within.ensures.within.0 c.if-not-is_within.false;
      done = state.done;
      spent = state.spent;
    }

pub returns-clause-job : goal.returns-clause-job
returns-clause-job c = (λ _. invariant_of-result c, λ _. refl)
