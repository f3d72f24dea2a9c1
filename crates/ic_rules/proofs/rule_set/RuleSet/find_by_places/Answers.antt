use Rattle.std.proofs.Common.{true, false, None, ap, ◌∙◌}
use Rattle.std.specs.List.{position_from}
use Rattle.ic_rules.specs.Rule.{stands_for}
use Rattle.ic_rules.specs.RuleSet.{rule_for, found_or}
use Rattle.ic_rules.proofs.rule_set.RuleSet.find_by_places.Goals as goal

pub returns-in-Some : goal.returns-in-Some
returns-in-Some c =
    let rs = c.self.inside.rules.items in
    let a = c.args.a in
    let b = c.args.b in
    let found = c.in-Some.ensures.value ∙ c.self.invariant.1.each (record { first = a; second = b }) in
    ap (λ o. found_or false o (found_or true (position_from (stands_for b a) 0 rs) None)) found ∙ ap (λ s. rule_for s.rules a b) c.self.view_is

pub returns-in-Some-get : goal.returns-in-Some-get
returns-in-Some-get c =
    let rs = c.self.inside.rules.items in
    let a = c.args.a in
    let b = c.args.b in
    let none = c.in-None.ensures.value ∙ c.self.invariant.1.each (record { first = a; second = b }) in
    let found = c.in-Some-get.ensures.value ∙ c.self.invariant.1.each (record { first = b; second = a }) in
    (λ i. found_or false (none i) (found_or true (found i) None)) ∙ ap (λ s. rule_for s.rules a b) c.self.view_is

pub returns-in-None-get : goal.returns-in-None-get
returns-in-None-get c =
    let rs = c.self.inside.rules.items in
    let a = c.args.a in
    let b = c.args.b in
    let none = c.in-None.ensures.value ∙ c.self.invariant.1.each (record { first = a; second = b }) in
    let no_other = c.in-None-get.ensures.value ∙ c.self.invariant.1.each (record { first = b; second = a }) in
    (λ i. found_or false (none i) (found_or true (no_other i) None)) ∙ ap (λ s. rule_for s.rules a b) c.self.view_is
