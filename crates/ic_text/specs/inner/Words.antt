-- For private functions: the words of what is written, in the order of the text, each with the number of arguments that
-- follow it (Łukasiewicz's notation, which needs no parentheses).
use Rattle.std.specs.Prelude.{ℕ, List, [], ◌∷◌, ◌++◌, if◌then◌else◌}
use Rattle.std.specs.List.{flat_map}
use Rattle.ic_term.specs.Symbol.{Symbol}
use Rattle.ic_text.specs.Name.{is_name, name_number, name_text}
use Rattle.ic_text.specs.Source.{Source, leaf, node, Sources, no_sources, more_sources, Phrase, count_of}
use Rattle.ic_text.specs.SystemSource.{RulePhrase, SystemPhrase, agent_source}

abbrev mutual
  pub prefix : Source → List Symbol
  prefix (leaf n) = record { text = name_text n; arity = 0 } ∷ []
  prefix (node text ts) = record { text = text; arity = count_of ts } ∷ prefix_of_sources ts

  pub prefix_of_sources : Sources → List Symbol
  prefix_of_sources no_sources = []
  prefix_of_sources (more_sources t ts) = prefix t ++ prefix_of_sources ts

abbrev pub phrase_prefix : Phrase → List Symbol
phrase_prefix p =
    flat_map prefix p.interface ++ flat_map (λ e. prefix e.left ++ prefix e.right) p.equations

-- the words of rules, those of the agent on the left before those of the agent on the right
abbrev pub rules_prefix : List RulePhrase → List Symbol
rules_prefix rs = flat_map (λ r. prefix (agent_source r.left) ++ prefix (agent_source r.right)) rs

-- the words of a system, its rules first
abbrev pub system_prefix : SystemPhrase → List Symbol
system_prefix s = rules_prefix s.rules ++ phrase_prefix s.config

-- the symbols among words
abbrev pub symbols_among : List Symbol → List Symbol
symbols_among [] = []
symbols_among (w ∷ ws) =
    if is_name w.text then symbols_among ws else w ∷ symbols_among ws

-- the names among words
abbrev pub names_among : List Symbol → List ℕ
names_among [] = []
names_among (w ∷ ws) =
    if is_name w.text then name_number w.text ∷ names_among ws else names_among ws
