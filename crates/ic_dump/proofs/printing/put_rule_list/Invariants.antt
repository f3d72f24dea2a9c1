use Rattle.std.proofs.Common.{◌≡◌, ◌++◌, drop, map}
use Rattle.std.specs.List.{AllByRecursion}
use Rattle.ic_rules.specs.RuleSet.{IsRuleOver}
use Rattle.ic_text.specs.SystemSource.{rule_words}
use Rattle.ic_text.specs.Text.{text_of}
use Rattle.ic_text.specs.lemmas.Separated.{between_rules, separated_from}
use Rattle.ic_dump.specs.Telling.{rule_of}
use Rattle.ic_dump.specs.inner.Printing.{rules_list_text}
use Rattle.ic_dump.proofs.printing.put_rule_list.Given as goal

-- what is written and what is left are the whole
abbrev pub invariant-loop-place : goal.invariant-loop-place
invariant-loop-place l = record {
  over : AllByRecursion (IsRuleOver l.symbols) (drop l.place l.rules);
  whole : l.out.items ++ text_of (separated_from between_rules l.place (map rule_words (map (rule_of l.symbols) (drop l.place l.rules))))
      ≡ l.fn.out.items ++ rules_list_text l.symbols l.rules;
}
