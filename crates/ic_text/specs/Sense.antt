-- What a configuration that is written means.
use Rattle.std.specs.Prelude.{ℕ, List, [], ◌∷◌, Bool, ◌&&◌, Option, None, Some, Result, Ok, Err, length, map, nat_le, if◌then◌else◌, slice_get, option_and_then, unwrap_or}
use Rattle.std.specs.List.{list_all}
use Rattle.ic_term.specs.Tree.{Tree, name, agent, Trees, no_trees, more_trees, Pair}
use Rattle.ic_term.specs.Symbol.{Symbol, fits_limits, number_of_text, has_arity, with_symbol}
use Rattle.ic_term.specs.Configuration.{Configuration, configured, third_occurrence}
use Rattle.ic_text.specs.declared.limits.Limits.{Limits}
use Rattle.ic_text.specs.declared.limits.Limits.TheVariants.{Served}
use Rattle.ic_text.specs.declared.limits.TheConstants.{MAX_NAME}
use Rattle.ic_text.specs.declared.fault.TextFault.{TextFault}
use Rattle.ic_text.specs.declared.fault.TextFault.TheVariants.{Limit, Arity, Name}
use Rattle.ic_text.specs.Limits.{most_interface, most_nodes, most_symbols}
use Rattle.ic_text.specs.Source.{Source, leaf, node, Sources, no_sources, more_sources, Sides, Phrase, phrase_names, phrase_symbols, phrase_nodes}

-- Symbols in the order in which their texts first occur, after those seen. A symbol has the arity
-- of its first occurrence (this project's choice).
abbrev pub symbols_after : List Symbol → List Symbol → List Symbol
symbols_after seen [] = seen
symbols_after seen (s ∷ ss) = symbols_after (with_symbol seen s.text s.arity) ss

-- the symbols of a configuration, numbered by first occurrence
abbrev pub symbol_table : Phrase → List Symbol
symbol_table p = symbols_after [] (phrase_symbols p)

-- an occurrence of a symbol has the arity that the table has for its text
abbrev pub has_its_arity : List Symbol → Symbol → Bool
has_its_arity table s =
    has_arity s.arity (option_and_then (slice_get table) (number_of_text table s.text))

-- no limit is passed (the limits are this project's choice)
abbrev pub is_in_limits_within : Limits → Phrase → Bool
is_in_limits_within limits p =
    list_all (λ s. fits_limits s.text s.arity) (phrase_symbols p)
    && list_all (λ n. nat_le n MAX_NAME) (phrase_names p)
    && nat_le (length (symbol_table p)) (most_symbols limits)
    && nat_le (length p.interface) (most_interface limits)
    && nat_le (phrase_nodes p) (most_nodes limits)

-- the number of a text in a table of symbols that has it
abbrev pub number_in_table : List Symbol → List ℕ → ℕ
number_in_table table text = unwrap_or (number_of_text table text) 0

-- a term with its symbols as numbers
abbrev mutual
  pub numbered_tree : List Symbol → Source → Tree
  numbered_tree table (leaf n) = name n
  numbered_tree table (node text ts) = agent (number_in_table table text) (numbered_trees table ts)

  pub numbered_trees : List Symbol → Sources → Trees
  numbered_trees table no_sources = no_trees
  numbered_trees table (more_sources t ts) =
      more_trees (numbered_tree table t) (numbered_trees table ts)

abbrev pub numbered_pair : List Symbol → Sides → Pair
numbered_pair table e =
    record { left = numbered_tree table e.left; right = numbered_tree table e.right }

-- the configuration that is written, over the symbols of a table
abbrev pub numbered_phrase : List Symbol → Phrase → Configuration
numbered_phrase table p =
    configured (map (numbered_tree table) p.interface) (map (numbered_pair table) p.equations)

-- a value, or the name that occurs a third time
abbrev pub unless_third_name : {A : Type 0} → A → Option ℕ → Result A TextFault
unless_third_name v None = Ok v
unless_third_name v (Some n) = Err (Name n)

-- What a configuration that is written means, or the first refusal: a limit that is passed, a
-- symbol with two arities, the first third occurrence of a name (the order is this project's choice).
abbrev pub sense_within : Limits → Phrase → Result (List Symbol × Configuration) TextFault
sense_within limits p =
    if is_in_limits_within limits p then
    (if list_all (has_its_arity (symbol_table p)) (phrase_symbols p)
    then unless_third_name (symbol_table p, numbered_phrase (symbol_table p) p)
    (third_occurrence (phrase_names p))
    else Err Arity)
    else Err Limit

-- the same with the limits of what is served
abbrev pub sense : Phrase → Result (List Symbol × Configuration) TextFault
sense p = sense_within Served p
