use Rattle.std.proofs.Common.{sym, ◌∙◌, map, length}
use Rattle.ic_rules.specs.Renaming.{renamed, number_among}
use Rattle.ic_rules.specs.inner.Arguments.{firsts_of}
use Rattle.ic_term.specs.Term.{tree}
use Rattle.ic_rules.specs.Rule.{Rule}
use Rattle.ic_rules.proofs.RuleLemmas.{lopsided_test, numbered_is_rule}
use Rattle.ic_rules.proofs.rule.Rule.of_agents.Goals as goal

pub invariant_of-result : goal.invariant_of-result
invariant_of-result c =
    let a = c.in_ok-arguments.arguments in
    let ls = c.deref.ensures.value in
    let rs = c.deref-2.ensures.value in
    let r : Rule = record { left = c.args.left.now.sym; right = c.args.right.now.sym; left_args = map tree a.left.items; right_args = map tree a.right.items; names = a.names } in
    numbered_is_rule c.args.left.now.sym c.args.right.now.sym (map tree c.args.left.now.args.items) (map tree c.args.right.now.args.items)
    c.requires r
    (c.in_ok-arguments.ensures.left ∙ (λ i. map (renamed (number_among (firsts_of (ls i) (rs i)))) (map tree (ls i))))
    (c.in_ok-arguments.ensures.right ∙ (λ i. map (renamed (number_among (firsts_of (ls i) (rs i)))) (map tree (rs i))))
    (c.in_ok-arguments.ensures.names ∙ (λ i. length (firsts_of (ls i) (rs i))))
    (sym (lopsided_test r) ∙ sym c.in_ok-is_lopsided.ensures ∙ c.if-branch.false)

pub returns-clause-sound : goal.returns-clause-sound
returns-clause-sound c = invariant_of-result c
