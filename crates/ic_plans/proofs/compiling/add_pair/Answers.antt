use Rattle.std.proofs.Common.{◌≡◌, ◌++◌, ◌∷◌, [], None, sym, subst, ◌∙◌, arith}
use Rattle.std.specs.Prelude.{IsSome}
use Rattle.std.proofs.lemmas.Result.{on_ok_weaker}
use Rattle.ic_rules.specs.lemmas.FindLaws.{rule_for-found}
use Rattle.ic_machine.specs.Plan.{number_of, plan_of, planned}
use Rattle.ic_plans.specs.inner.Entries.{ArePlanned}
use Rattle.ic_plans.proofs.EntryLemmas.{fits, none_mapped, number_new, planned_more}
use Rattle.ic_plans.proofs.MetLemmas.{rules_within}
use Rattle.ic_plans.proofs.compiling.add_pair.Goals as goal

pub plan_of_rule-requires : goal.plan_of_rule-requires
plan_of_rule-requires c =
    (rule_for-found c.args.rules.now.rules c.args.a c.args.b c.in-Some.number c.in-Some.turned (sym c.find.ensures.rule ∙ c.in-Some.is)).there

pub overflow_cast-number : goal.overflow_cast-number
overflow_cast-number c =
    let there = (rule_for-found c.args.rules.now.rules c.args.a c.args.b c.in-Some.number c.in-Some.turned (sym c.find.ensures.rule ∙ c.in-Some.is)).there in
    omega (arith, there, rules_within c.args.rules.now c.find.ensures.sound)

pub add-requires-clause-plan : goal.add-requires-clause-plan
add-requires-clause-plan c =
    let none : plan_of c.args.program.now c.args.a c.args.b ≡ None = sym c.plan.ensures.plan ∙ none_mapped _ c.plan.result (sym c.is_some.ensures ∙ c.if-is_some.false) in
    fits c.args.rules.now c.args.numbers.now.items c.args.program.now c.args.a c.args.b c.in-Some.number c.in-Some.turned (planned c.in_ok-plan.plan)
    c.find.ensures.sound c.requires.planned c.requires.a c.requires.b none (sym c.find.ensures.rule ∙ c.in-Some.is) c.in_ok-plan.ensures

pub returns-clause-planned : goal.returns-clause-planned
returns-clause-planned c =
    let rs = c.args.rules.now in
    let none : plan_of c.args.program.now c.args.a c.args.b ≡ None = sym c.plan.ensures.plan ∙ none_mapped _ c.plan.result (sym c.is_some.ensures ∙ c.if-is_some.false) in
    let made =
    planned_more rs c.args.numbers.now.items c.args.program.now c.args.a c.args.b c.in-Some.number c.in-Some.turned (planned c.in_ok-plan.plan)
    c.find.ensures.sound c.requires.planned c.requires.a c.requires.b none (sym c.find.ensures.rule ∙ c.in-Some.is) c.in_ok-plan.ensures in
    on_ok_weaker c.add.result
    (λ added. subst (λ l. ArePlanned rs l c.add.new.self) (sym c.in_ok-push.ensures.items) (subst (λ p. ArePlanned rs (c.args.numbers.now.items ++ c.in-Some.number ∷ []) p) (sym added) made))
    c.add.ensures.added

pub returns-clause-pair : goal.returns-clause-pair
returns-clause-pair c =
    let none : plan_of c.args.program.now c.args.a c.args.b ≡ None = sym c.plan.ensures.plan ∙ none_mapped _ c.plan.result (sym c.is_some.ensures ∙ c.if-is_some.false) in
    let made =
    number_new c.args.rules.now c.args.numbers.now.items c.args.program.now c.args.a c.args.b c.in-Some.number c.in-Some.turned (planned c.in_ok-plan.plan)
    c.find.ensures.sound c.requires.planned c.requires.a c.requires.b none (sym c.find.ensures.rule ∙ c.in-Some.is) c.in_ok-plan.ensures in
    on_ok_weaker c.add.result (λ added _. subst (λ p. IsSome (number_of p c.args.a c.args.b)) (sym added) made) c.add.ensures.added
