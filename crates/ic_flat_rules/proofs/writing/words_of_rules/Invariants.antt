use Rattle.std.proofs.Common.{◌≡◌, ◌++◌, length, drop}
use Rattle.std.specs.List.{flat_map}
use Rattle.ic_flat_rules.specs.RuleWords.{rule_words, bounds_from}
use Rattle.ic_flat_rules.proofs.writing.words_of_rules.Given as goal

-- the words so far and those of the rules left are those of all, and so are the bounds
abbrev pub invariant-loop-rule : goal.invariant-loop-rule
invariant-loop-rule l = record {
  words : l.words.items ++ flat_map rule_words (drop l.rule-index l.rules) ≡ flat_map rule_words l.rules;
  bounds : l.bounds.items ++ bounds_from (length l.words.items) (drop l.rule-index l.rules) ≡ bounds_from 0 l.rules;
}
