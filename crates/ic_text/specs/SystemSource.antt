-- A system as it is written, rules and a configuration (Lafont 1990; Fernández
-- and Mackie 1999, section 2).
use Rattle.std.specs.Prelude.{ℕ, ◌+◌, List, ◌∷◌, ◌++◌, map}
use Rattle.std.specs.List.{flat_map, AllByRecursion}
use Rattle.ic_term.specs.Symbol.{Symbol}
use Rattle.ic_text.specs.declared.token.Mark.TheVariants.{LeftBrace, RightBrace, Less, Greater, Semicolon}
use Rattle.ic_text.specs.Token.{Token, mark}
use Rattle.ic_text.specs.Source.{Source, node, Sources, Phrase, IsSource, IsPhrase, words, phrase_words, separated, source_symbols, phrase_symbols, names_of_sources, phrase_names, nodes_of_sources}

-- an agent: the text of its symbol, and its arguments in order
pub record AgentPhrase : Type 0 where
  pub text : List ℕ
  pub arguments : Sources

abbrev pub agent_source : AgentPhrase → Source
agent_source a = node a.text a.arguments

-- a rule `A(t1,..,tn)><B(u1,..,um)`
pub record RulePhrase : Type 0 where
  pub left : AgentPhrase
  pub right : AgentPhrase

-- a system `{rules}<t1,..,tk|e1,..,em>`
pub record SystemPhrase : Type 0 where
  pub rules : List RulePhrase
  pub config : Phrase

-- each symbol has the text of a symbol
abbrev pub IsRulePhrase : RulePhrase → Type 0
IsRulePhrase r = IsSource (agent_source r.left) × IsSource (agent_source r.right)

pub record IsSystemPhrase (s : SystemPhrase) : Type 0 where
  pub rules : AllByRecursion IsRulePhrase s.rules
  pub config : IsPhrase s.config

-- the tokens of a rule
abbrev pub rule_words : RulePhrase → List Token
rule_words r =
    words (agent_source r.left) ++ mark Greater ∷ mark Less ∷ words (agent_source r.right)

-- the tokens of rules
abbrev pub rules_words : List RulePhrase → List Token
rules_words rs = separated Semicolon (map rule_words rs)

-- the tokens of a system
abbrev pub system_words : SystemPhrase → List Token
system_words s = mark LeftBrace ∷ (rules_words s.rules ++ mark RightBrace ∷ phrase_words s.config)

-- the symbols of a rule in the order of the text, each with its number of arguments there
abbrev pub rule_symbols : RulePhrase → List Symbol
rule_symbols r = source_symbols (agent_source r.left) ++ source_symbols (agent_source r.right)

-- the symbols of a system, rules first
abbrev pub system_symbols : SystemPhrase → List Symbol
system_symbols s = flat_map rule_symbols s.rules ++ phrase_symbols s.config

-- the names of a rule in the order of the text, each as often as it occurs
abbrev pub rule_names : RulePhrase → List ℕ
rule_names r = names_of_sources r.left.arguments ++ names_of_sources r.right.arguments

-- the names of a system, rules first
abbrev pub system_names : SystemPhrase → List ℕ
system_names s = flat_map rule_names s.rules ++ phrase_names s.config

-- the nodes of a rule's arguments
abbrev pub rule_nodes : RulePhrase → ℕ
rule_nodes r = nodes_of_sources r.left.arguments + nodes_of_sources r.right.arguments
