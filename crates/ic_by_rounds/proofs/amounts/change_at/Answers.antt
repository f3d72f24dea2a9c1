use Rattle.std.proofs.Common.{◌≡◌, List, None, Some, length, slice_get, refl, sym, ap, ◌∙◌}
use Rattle.std.proofs.lemmas.Option.{slice_get_past, slice_get_read}
use Rattle.ic_rules.specs.Rule.{Rule}
use Rattle.ic_by_rounds.proofs.Changes.{CountLaws, if_both, is_change, no_change, past_end}
use Rattle.ic_by_rounds.proofs.amounts.change_at.Goals as goal

pub returns-in-Some : goal.returns-in-Some
returns-in-Some c =
    let rules : List Rule = c.rules.result.now in
    let rule : Rule = c.in-Some.rule.now in
    let found = c.in-Some.ensures.lookup in
    let read : slice_get rules c.args.number ≡ Some rule = slice_get_read rules (length rules) c.args.number rule refl found.3.0 found.1 in
    let there : slice_get c.args.rules.now.rules c.args.number ≡ Some rule = ap (λ (l : List Rule). slice_get l c.args.number) (sym c.rules.ensures.rules) ∙ read in
    let laws : CountLaws c.args.rules.now = record {
      nodes = λ d over. c.figures_add_up_over_agents.ensures.nodes c.args.rules.now.symbols d over;
      names = c.figures_add_up_over_agents.ensures.names;
    } in
    if_both c.change_of.result
    (λ change arities agents. is_change c.args.rules.now c.rules.ensures.sound laws c.args.number rule change there arities agents)
    c.change_of.ensures.arities c.change_of.ensures.agents

pub returns-in-None : goal.returns-in-None
returns-in-None c =
    let rules : List Rule = c.rules.result.now in
    let past = slice_get_past rules c.args.number (past_end c.args.number (length rules) c.in-None.ensures.lookup.0) in
    let there : slice_get c.args.rules.now.rules c.args.number ≡ None = ap (λ (l : List Rule). slice_get l c.args.number) (sym c.rules.ensures.rules) ∙ past in
    no_change c.args.rules.now c.args.number _ there refl refl
