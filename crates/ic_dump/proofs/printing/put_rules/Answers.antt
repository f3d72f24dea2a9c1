use Rattle.std.proofs.Common.{◌++◌, map, ◌∙◌}
use Rattle.ic_dump.specs.Telling.{rule_of}
use Rattle.ic_dump.specs.inner.Printing.{rules_list_text}
use Rattle.ic_dump.proofs.PrintLemmas.{in_braces}
use Rattle.ic_dump.proofs.RuleLemmas.{each_over}
use Rattle.ic_dump.proofs.printing.put_rules.Goals as goal

pub put_rule_list-requires : goal.put_rule_list-requires
put_rule_list-requires c =
    each_over c.args.rules.now c.symbols.result.now c.rules.result.now c.symbols.ensures.symbols c.rules.ensures.rules c.rules.ensures.sound

pub returns : goal.returns
returns c =
    let set = c.args.rules.now in
    in_braces c.args.out.now.items c.push.new.self.items c.put_rule_list.new.out.items c.push-2.new.self.items (map (rule_of set.symbols) set.rules)
    c.in_ok-push.ensures.items
    (c.in_ok-put_rule_list.ensures ∙ (λ i. c.push.new.self.items ++ rules_list_text (c.symbols.ensures.symbols i) (c.rules.ensures.rules i)))
    c.in_ok-push-2.ensures.items
