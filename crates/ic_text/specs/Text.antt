-- What a text of a configuration is read as, and how a configuration is printed.
use Rattle.std.specs.Prelude.{ℕ, ◌+◌, ◌≤◌, List, [], ◌++◌, Option, None, Some, Result, length, map, slice_get, codes}
use Rattle.std.specs.List.{flat_map}
use Rattle.std.specs.Fmt.{decimal}
use Rattle.ic_term.specs.Tree.{Tree, name, agent, Trees, no_trees, more_trees, Pair}
use Rattle.ic_term.specs.Symbol.{Symbol}
use Rattle.ic_term.specs.Configuration.{Configuration}
use Rattle.ic_text.specs.declared.fault.TextFault.{TextFault}
use Rattle.ic_text.specs.declared.limits.Limits.{Limits}
use Rattle.ic_text.specs.declared.limits.Limits.TheVariants.{Served}
use Rattle.ic_text.specs.declared.fault.TextFault.TheVariants.{Syntax, Limit, Arity, NameCount, Name, Twice, Lopsided, Memory}
use Rattle.ic_text.specs.Limits.{most_bytes}
use Rattle.ic_text.specs.Token.{Token, token_text}
use Rattle.ic_text.specs.Name.{name_text}
use Rattle.ic_text.specs.Source.{Source, leaf, node, Sources, no_sources, more_sources, Sides, Phrase, IsPhrase, words, phrase_words}
use Rattle.ic_text.specs.Sense.{sense_within}
use Rattle.ic_text.specs.Reading.{IsSpelling, IsReadingWithin}

-- a text spells a configuration
abbrev pub Spells : List ℕ → Phrase → Type 0
Spells text p = IsSpelling IsPhrase phrase_words text p

-- a text that isn't too long spells some configuration
abbrev pub IsConfigTextWithin : Limits → List ℕ → Type 0
IsConfigTextWithin limits text = (length text ≤ most_bytes limits) × ((p : Phrase) × Spells text p)

-- what a text of a configuration is read as
abbrev pub ReadsWithin : Limits → List ℕ → Result (List Symbol × Configuration) TextFault → Type 0
ReadsWithin limits text answer = IsReadingWithin limits Spells (sense_within limits) text answer

-- the same with the limits of what is served
abbrev pub IsConfigText : List ℕ → Type 0
IsConfigText text = IsConfigTextWithin Served text

abbrev pub Reads : List ℕ → Result (List Symbol × Configuration) TextFault → Type 0
Reads text answer = ReadsWithin Served text answer

-- the text of the symbol with a number
abbrev pub text_or_none : Option Symbol → List ℕ
text_or_none None = []
text_or_none (Some s) = s.text

-- a term as it is written, over a table of symbols
abbrev mutual
  pub source_of : List Symbol → Tree → Source
  source_of table (name n) = leaf n
  source_of table (agent s ts) = node (text_or_none (slice_get table s)) (sources_of table ts)

  pub sources_of : List Symbol → Trees → Sources
  sources_of table no_trees = no_sources
  sources_of table (more_trees t ts) = more_sources (source_of table t) (sources_of table ts)

abbrev pub sides_of : List Symbol → Pair → Sides
sides_of table e = record { left = source_of table e.left; right = source_of table e.right }

-- a configuration as it is written
abbrev pub phrase_of : List Symbol → Configuration → Phrase
phrase_of table c = record {
  interface = map (source_of table) c.interface;
  equations = map (sides_of table) c.equations;
}

-- the tokens of a configuration, each name in its one spelling
abbrev pub configuration_words : List Symbol → Configuration → List Token
configuration_words table c = phrase_words (phrase_of table c)

-- tokens without blanks between them
abbrev pub text_of : List Token → List ℕ
text_of ts = flat_map token_text ts

-- the text of a term
abbrev pub term_text : List Symbol → Tree → List ℕ
term_text table t = text_of (words (source_of table t))

-- the text of a configuration: its tokens without blanks (this project's choice)
abbrev pub printed : List Symbol → Configuration → List ℕ
printed table c = text_of (configuration_words table c)

-- The line of a refusal. A rule's place is counted from 1 (this project's choice).
abbrev pub fault_text : TextFault → List ℕ
fault_text Syntax = codes "bad syntax"
fault_text Limit = codes "bad limit"
fault_text Arity = codes "bad arity"
fault_text (NameCount i) = codes "bad namecount " ++ decimal (i + 1)
fault_text (Name n) = codes "bad name " ++ name_text n
fault_text (Twice i) = codes "bad twice " ++ decimal (i + 1)
fault_text (Lopsided i) = codes "bad lopsided " ++ decimal (i + 1)
fault_text Memory = codes "bad memory"
