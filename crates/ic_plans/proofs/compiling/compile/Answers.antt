use Rattle.std.proofs.Common.{◌≡◌, ◌+◌, ◌<◌, ◌++◌, ◌∷◌, [], Some, length, take, get_or, slice_get, refl, sym, ap, subst, ◌∙◌, arith}
use Rattle.std.specs.Prelude.{IsSome}
use Rattle.std.specs.List.{AllByRecursion}
use Rattle.std.proofs.lemmas.List.{take_all, take_more}
use Rattle.std.proofs.lemmas.Option.{slice_get_read}
use Rattle.ic_rules.specs.RuleSet.{IsRuleOver, rule_for}
use Rattle.ic_rules.specs.lemmas.FitLaws.{rule_over_at}
use Rattle.ic_machine.specs.Plan.{number_of}
use Rattle.ic_machine.specs.lemmas.FiringKeeps.{all_append}
use Rattle.ic_plans.specs.inner.Entries.{HasPlans}
use Rattle.ic_plans.proofs.EntryLemmas.{are_plans_of, known_symbol, number_kept, own_pair, plans_more, rule_some}
use Rattle.ic_plans.proofs.compiling.compile.Goals as goal
use Rattle.ic_plans.proofs.compiling.compile.Goals.{After-right-right}

-- the rule whose pairs are added
rule_read : (c : After-right-right) → c.rule-item.result ≡ get_or c.args.rules.now.rules c.loop-rule.rule-index c.rule-item.result
rule_read c = c.rule-item.is ∙ ap (λ l. get_or l c.loop-rule.rule-index c.rule-item.result) c.rules-rule-items.ensures.rules

inside : (c : After-right-right) → c.loop-rule.rule-index < length c.args.rules.now.rules
inside c = omega (arith, c.loop-rule-test.true, ap length c.rules-rule-items.ensures.rules)

rule_there : (c : After-right-right) → slice_get c.args.rules.now.rules c.loop-rule.rule-index ≡ Some c.rule-item.result
rule_there c = slice_get_read c.args.rules.now.rules (length c.args.rules.now.rules) c.loop-rule.rule-index c.rule-item.result refl (inside c) (rule_read c)

rule_over : (c : After-right-right) → IsRuleOver c.args.rules.now.symbols c.rule-item.result
rule_over c = rule_over_at c.args.rules.now.symbols c.args.rules.now.rules c.loop-rule.rule-index c.rule-item.result c.rules-rule-items.ensures.sound.fitting (rule_there c)

pub add_pair-requires-clause-a : goal.add_pair-requires-clause-a
add_pair-requires-clause-a c =
    let r = c.rule-item.result in
    let over = rule_over (goal.at.add_pair-requires-clause-a c).After-right-right in
    omega (arith, c.left-left.ensures.left, known_symbol c.args.rules.now c.loop-rule.program r.left (length r.left_args) c.loop-rule.invariant.planned.arities over.left)

pub add_pair-requires-clause-b : goal.add_pair-requires-clause-b
add_pair-requires-clause-b c =
    let r = c.rule-item.result in
    let over = rule_over (goal.at.add_pair-requires-clause-b c).After-right-right in
    omega (arith, c.right-right.ensures.right, known_symbol c.args.rules.now c.loop-rule.program r.right (length r.right_args) c.loop-rule.invariant.planned.arities over.right)

pub add_pair-requires-in-loop-rule-clause-a : goal.add_pair-requires-in-loop-rule-clause-a
add_pair-requires-in-loop-rule-clause-a c =
    let r = c.rule-item.result in
    let over = rule_over (goal.at.add_pair-requires-in-loop-rule-clause-a c).After-right-right in
    omega (arith, c.right-right.ensures.right, known_symbol c.args.rules.now c.add_pair.new.program r.right (length r.right_args) c.in_ok-add_pair.ensures.planned.arities over.right)

pub add_pair-requires-in-loop-rule-clause-b : goal.add_pair-requires-in-loop-rule-clause-b
add_pair-requires-in-loop-rule-clause-b c =
    let r = c.rule-item.result in
    let over = rule_over (goal.at.add_pair-requires-in-loop-rule-clause-b c).After-right-right in
    omega (arith, c.left-left.ensures.left, known_symbol c.args.rules.now c.add_pair.new.program r.left (length r.left_args) c.in_ok-add_pair.ensures.planned.arities over.left)

pub loop-rule-preserved : goal.loop-rule-preserved
loop-rule-preserved c =
    let here = (goal.at.loop-rule-preserved c).After-right-right in
    let r = c.rule-item.result in
    let rules = c.args.rules.now.rules in
    let k = c.loop-rule.rule-index in
    let first = c.add_pair.new.program in
    let second = c.add_pair-in-loop-rule.new.program in
    let there = rule_there here in
    let on = c.in_ok-add_pair-2.ensures.pairs in
    let left = c.left-left.ensures.left in
    let right = c.right-right.ensures.right in
    let as_it_stands : IsSome (rule_for rules r.left r.right) → IsSome (number_of first r.left r.right) =
    subst (λ a. IsSome (rule_for rules a r.right) → IsSome (number_of first a r.right)) left
    (subst (λ b. IsSome (rule_for rules c.left-left.result b) → IsSome (number_of first c.left-left.result b)) right c.in_ok-add_pair.ensures.pair) in
    let turned : IsSome (rule_for rules r.right r.left) → IsSome (number_of second r.right r.left) =
    subst (λ a. IsSome (rule_for rules a r.left) → IsSome (number_of second a r.left)) right
    (subst (λ b. IsSome (rule_for rules c.right-right.result b) → IsSome (number_of second c.right-right.result b)) left c.in_ok-add_pair-2.ensures.pair) in
    let own : HasPlans second r = (
      number_kept r.left r.right first.pairs second.pairs on (as_it_stands (rule_some rules k r.left r.right r there (own_pair r).0)),
      turned (rule_some rules k r.right r.left r there (own_pair r).1),
    ) in
    let before : AllByRecursion (HasPlans second) (take k rules) =
    plans_more first second (take k rules) on (plans_more c.loop-rule.program first (take k rules) c.in_ok-add_pair.ensures.pairs c.loop-rule.invariant.plans) in
    let front : take (k + 1) rules ≡ take k rules ++ r ∷ [] = take_more rules k r (inside here) ∙ ap (λ x. take k rules ++ x ∷ []) (sym (rule_read here)) in
    record {
      planned = c.in_ok-add_pair-2.ensures.planned;
      few = omega (arith, c.loop-rule.invariant.few, c.in_ok-add_pair.ensures.few, c.in_ok-add_pair-2.ensures.few);
      plans = subst (λ l. AllByRecursion (HasPlans second) l) (sym front) (all_append (HasPlans second) (take k rules) (r ∷ []) before (own, tt));
    }

pub returns-clause-plans : goal.returns-clause-plans
returns-clause-plans c =
    let rules = c.args.rules.now.rules in
    let k = c.loop-rule.rule-index in
    let all : take k rules ≡ rules = take_all k rules (omega (arith, c.loop-rule-test.false, ap length c.rules-rule-items.ensures.rules)) in
    are_plans_of c.args.rules.now c.loop-rule.numbers.items c.loop-rule.program c.loop-rule.invariant.planned
    (subst (λ l. AllByRecursion (HasPlans c.loop-rule.program) l) all c.loop-rule.invariant.plans)
