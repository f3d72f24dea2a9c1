use Rattle.std.proofs.Common.{List, drop, subst, take}
use Rattle.ic_term.specs.Configuration.{wide_restored}
use Rattle.ic_flat.specs.Words.{forest}
use Rattle.ic_flat.specs.declared.word.Word.{Word}
use Rattle.ic_rules.specs.Rule.{Rule}
use Rattle.ic_rules.specs.RuleFault.{Answers}
use Rattle.ic_rules.specs.RuleSet.{built}
use Rattle.ic_text.specs.inner.Built.{configuration_from, rules_in}
use Rattle.ic_text.specs.inner.Numbered.{as_text_answer}
use Rattle.ic_text.proofs.JoinedLemmas.{GivesConfig, joined_so}
use Rattle.ic_text.proofs.build.system_of.Goals as goal

pub returns : goal.returns
returns c =
    let ws = c.args.words.items in
    let answered : Answers c.build-rules.result (built c.args.symbols (rules_in (forest (take c.args.before ws)))) =
    subst (λ (rs : List Rule). Answers c.build-rules.result (built c.args.symbols rs)) (rw c.deref.ensures.value at c.in_ok-rules.ensures) c.build-rules.ensures in
    let given : GivesConfig c.wide_of-config.result (as_text_answer (wide_restored (configuration_from c.args.terms (forest (drop c.args.before ws))))) =
    subst (λ (left : List Word). GivesConfig c.wide_of-config.result (as_text_answer (wide_restored (configuration_from c.args.terms (forest left))))) c.words_from.ensures c.wide_of-config.ensures in
    joined_so c.join.result c.build-rules.result _ c.wide_of-config.result _ answered given c.join.ensures
