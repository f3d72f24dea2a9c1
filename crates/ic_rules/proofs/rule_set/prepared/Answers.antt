use Rattle.std.proofs.Common.{◌≡◌, true, None, List, map, sym, ◌∙◌, subst}
use Rattle.std.specs.List.{AllByRecursion}
use Rattle.ic_rules.specs.Rule.{Rule, IsRule, numbered}
use Rattle.ic_rules.specs.RuleSet.{are_few, first_unfit, IsRuleSet}
use Rattle.ic_rules.specs.Written.{written}
use Rattle.ic_rules.specs.inner.Places.{ArePlaces}
use Rattle.ic_rules.proofs.RuleSetLemmas.{IsRuleSet-numbered, ArePlaces-numbered}
use Rattle.ic_rules.proofs.rule_set.prepared.Goals as goal

pub returns-clause-sound : goal.returns-clause-sound
returns-clause-sound c =
    let ss = c.args.symbols.now in
    let ws = map written c.args.rules.now in
    let few : are_few ws ≡ true = sym c.are_few.ensures ∙ c.if-not-are_few.false in
    let fitting : first_unfit ss ws ≡ None = sym c.first_unfit.ensures ∙ c.in_default.is in
    let rules : map numbered ws ≡ c.in_ok-rules.rules.items = sym c.in_ok-rules.ensures.rules in
    subst (λ (rs : List Rule). IsRuleSet (record { symbols = ss; rules = rs })) rules
    (IsRuleSet-numbered ss ws (subst (AllByRecursion IsRule) (sym rules) c.in_ok-rules.ensures.each) few fitting c.in_ok-places.ensures.single)

pub returns-clause-places : goal.returns-clause-places
returns-clause-places c =
    let ws = map written c.args.rules.now in
    subst (ArePlaces c.in_ok-places.places) (sym c.in_ok-rules.ensures.rules) (ArePlaces-numbered c.in_ok-places.places ws c.in_ok-places.ensures.places)
