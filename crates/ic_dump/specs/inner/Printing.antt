-- For private functions: the texts of the parts of rules.
use Rattle.std.specs.Prelude.{ℕ, List, map}
use Rattle.ic_term.specs.Symbol.{Symbol}
use Rattle.ic_rules.specs.Rule.{Rule}
use Rattle.ic_text.specs.SystemSource.{rule_words, rules_words}
use Rattle.ic_text.specs.Text.{text_of}
use Rattle.ic_dump.specs.Telling.{rule_of}

-- the text of a rule
abbrev pub rule_text : List Symbol → Rule → List ℕ
rule_text table r = text_of (rule_words (rule_of table r))

-- the text of rules with semicolons between them
abbrev pub rules_list_text : List Symbol → List Rule → List ℕ
rules_list_text table rs = text_of (rules_words (map (rule_of table) rs))
