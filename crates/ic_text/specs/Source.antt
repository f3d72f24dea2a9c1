-- A configuration as it is written.
use Rattle.std.specs.Prelude.{ℕ, ◌+◌, List, [], ◌∷◌, ◌++◌, IsTrue, map, sum_by}
use Rattle.std.specs.List.{flat_map, AllByRecursion}
use Rattle.ic_term.specs.Symbol.{Symbol, is_symbol_text}
use Rattle.ic_text.specs.declared.token.Mark.{Mark}
use Rattle.ic_text.specs.declared.token.Mark.TheVariants.{Less, Greater, Bar, Equals, Comma, Open, Close}
use Rattle.ic_text.specs.Token.{Token, word, mark}
use Rattle.ic_text.specs.Name.{name_text}

-- A term as it is written: a name by its number, or a symbol by its text with its arguments in
-- order (Fernández and Mackie 1999, section 2; that names have numbers is this project's choice).
mutual
  pub data Source : Type 0 where
    leaf : ℕ → Source
    node : List ℕ → Sources → Source

  pub data Sources : Type 0 where
    no_sources : Sources
    more_sources : Source → Sources → Sources

-- an equation as it is written
pub record Sides : Type 0 where
  pub left : Source
  pub right : Source

-- a configuration `<t1,..,tk|e1,..,em>` as it is written
pub record Phrase : Type 0 where
  pub interface : List Source
  pub equations : List Sides

-- each symbol of a term has the text of a symbol
abbrev mutual
  pub IsSource : Source → Type 0
  IsSource (leaf n) = Unit {0}
  IsSource (node text ts) = IsTrue (is_symbol_text text) × AreSources ts

  pub AreSources : Sources → Type 0
  AreSources no_sources = Unit {0}
  AreSources (more_sources t ts) = IsSource t × AreSources ts

pub record IsPhrase (p : Phrase) : Type 0 where
  pub interface : AllByRecursion IsSource p.interface
  pub equations : AllByRecursion (λ e. IsSource e.left × IsSource e.right) p.equations

-- The tokens of a term. A symbol without arguments has no parentheses (this project's choice).
abbrev mutual
  pub words : Source → List Token
  words (leaf n) = word (name_text n) ∷ []
  words (node text ts) = word text ∷ argument_words ts

  -- `(`, the arguments with `,` between them, `)`
  pub argument_words : Sources → List Token
  argument_words no_sources = []
  argument_words (more_sources t ts) = mark Open ∷ (words t ++ further_words ts)

  pub further_words : Sources → List Token
  further_words no_sources = mark Close ∷ []
  further_words (more_sources t ts) = mark Comma ∷ (words t ++ further_words ts)

-- the tokens of an equation
abbrev pub sides_words : Sides → List Token
sides_words e = words e.left ++ mark Equals ∷ words e.right

-- lists of tokens with a mark between them
abbrev pub separated : Mark → List (List Token) → List Token
separated m [] = []
separated m (ts ∷ tss) = ts ++ flat_map (λ us. mark m ∷ us) tss

-- the tokens of a configuration
abbrev pub phrase_words : Phrase → List Token
phrase_words p =
    mark Less ∷ (separated Comma (map words p.interface)
    ++ mark Bar ∷ (separated Comma (map sides_words p.equations) ++ mark Greater ∷ []))

-- how many terms a list of arguments has
abbrev pub count_of : Sources → ℕ
count_of no_sources = 0
count_of (more_sources t ts) = 1 + count_of ts

-- the names of a term in the order of the text, each as often as it occurs
abbrev mutual
  pub source_names : Source → List ℕ
  source_names (leaf n) = n ∷ []
  source_names (node text ts) = names_of_sources ts

  pub names_of_sources : Sources → List ℕ
  names_of_sources no_sources = []
  names_of_sources (more_sources t ts) = source_names t ++ names_of_sources ts

-- the symbols of a term in the order of the text, each with its number of arguments there
abbrev mutual
  pub source_symbols : Source → List Symbol
  source_symbols (leaf n) = []
  source_symbols (node text ts) =
      record { text = text; arity = count_of ts } ∷ symbols_of_sources ts

  pub symbols_of_sources : Sources → List Symbol
  symbols_of_sources no_sources = []
  symbols_of_sources (more_sources t ts) = source_symbols t ++ symbols_of_sources ts

-- A name is one node, a symbol one and those of its arguments (this project's choice).
abbrev mutual
  pub source_nodes : Source → ℕ
  source_nodes (leaf n) = 1
  source_nodes (node text ts) = 1 + nodes_of_sources ts

  pub nodes_of_sources : Sources → ℕ
  nodes_of_sources no_sources = 0
  nodes_of_sources (more_sources t ts) = source_nodes t + nodes_of_sources ts

-- all of them over a configuration, the interface first
abbrev pub phrase_names : Phrase → List ℕ
phrase_names p =
    flat_map source_names p.interface
    ++ flat_map (λ e. source_names e.left ++ source_names e.right) p.equations

abbrev pub phrase_symbols : Phrase → List Symbol
phrase_symbols p =
    flat_map source_symbols p.interface
    ++ flat_map (λ e. source_symbols e.left ++ source_symbols e.right) p.equations

abbrev pub phrase_nodes : Phrase → ℕ
phrase_nodes p =
    sum_by source_nodes p.interface
    + sum_by (λ e. source_nodes e.left + source_nodes e.right) p.equations
