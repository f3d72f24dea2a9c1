-- What a system that is written means.
use Rattle.std.specs.Prelude.{ℕ, List, [], Bool, ◌&&◌, Option, None, Some, Result, Ok, Err, length, map, sum_by, nat_le, if◌then◌else◌}
use Rattle.std.specs.List.{list_all}
use Rattle.ic_term.specs.Tree.{list_of}
use Rattle.ic_term.specs.Symbol.{Symbol, fits_limits}
use Rattle.ic_term.specs.Configuration.{third_occurrence}
use Rattle.ic_rules.specs.Renaming.{first_occurrences}
use Rattle.ic_rules.specs.Rule.{Rule, numbered}
use Rattle.ic_rules.specs.RuleSet.{first_uncounted, first_repeated, first_lopsided}
use Rattle.ic_rules.specs.System.{SystemParts}
use Rattle.ic_rules.specs.declared.limits.TheConstants.{MAX_RULE_NODES}
use Rattle.ic_text.specs.declared.limits.Limits.{Limits}
use Rattle.ic_text.specs.declared.limits.Limits.TheVariants.{Served, Wide}
use Rattle.ic_text.specs.declared.limits.TheConstants.{MAX_NAME}
use Rattle.ic_text.specs.declared.fault.TextFault.{TextFault}
use Rattle.ic_text.specs.declared.fault.TextFault.TheVariants.{Limit, Arity, NameCount, Name, Twice, Lopsided}
use Rattle.ic_text.specs.Limits.{most_interface, most_nodes, most_rules, most_symbols}
use Rattle.ic_text.specs.Source.{phrase_names, phrase_nodes}
use Rattle.ic_text.specs.Sense.{symbols_after, has_its_arity, number_in_table, numbered_trees, numbered_phrase}
use Rattle.ic_text.specs.SystemSource.{RulePhrase, SystemPhrase, system_symbols, rule_names, system_names, rule_nodes}

-- the symbols of a system, numbered by first occurrence (this project's choice)
abbrev pub system_table : SystemPhrase → List Symbol
system_table s = symbols_after [] (system_symbols s)

-- The arguments of rules have few nodes: those of all rules together where they are served, and otherwise those of each
-- rule (this project's choice).
abbrev pub rules_are_small : Limits → List RulePhrase → Bool
rules_are_small Served rs = nat_le (sum_by rule_nodes rs) MAX_RULE_NODES
rules_are_small Wide rs = list_all (λ r. nat_le (rule_nodes r) MAX_RULE_NODES) rs

-- no limit is passed (the limits are this project's choice)
abbrev pub is_system_in_limits_within : Limits → SystemPhrase → Bool
is_system_in_limits_within limits s =
    list_all (λ s. fits_limits s.text s.arity) (system_symbols s)
    && list_all (λ n. nat_le n MAX_NAME) (system_names s)
    && nat_le (length (system_table s)) (most_symbols limits)
    && nat_le (length s.rules) (most_rules limits)
    && rules_are_small limits s.rules
    && nat_le (length s.config.interface) (most_interface limits)
    && nat_le (phrase_nodes s.config) (most_nodes limits)

-- none of those of what is served
abbrev pub is_system_in_limits : SystemPhrase → Bool
is_system_in_limits s = is_system_in_limits_within Served s

-- the rule that is written, over the symbols of a table, its names as they are written
abbrev pub rule_over : List Symbol → RulePhrase → Rule
rule_over table r = record {
  left = number_in_table table r.left.text;
  right = number_in_table table r.right.text;
  left_args = list_of (numbered_trees table r.left.arguments);
  right_args = list_of (numbered_trees table r.right.arguments);
  names = length (first_occurrences (rule_names r));
}

-- all rules that are written
abbrev pub rules_over : SystemPhrase → List Rule
rules_over s = map (rule_over (system_table s)) s.rules

-- the rules with their names numbered, and the configuration that is written
abbrev pub system_parts : SystemPhrase → SystemParts
system_parts s = record {
  rules = record { symbols = system_table s; rules = map numbered (rules_over s) };
  config = numbered_phrase (system_table s) s.config;
}

-- an answer where nothing is found, or the refusal of what is found
abbrev pub unless_found : Option ℕ → (ℕ → TextFault) → Result SystemParts TextFault
    → Result SystemParts TextFault
unless_found None fault answer = answer
unless_found (Some n) fault answer = Err (fault n)

-- What a system that is written means, or the first refusal. First come a limit that is passed and
-- a symbol with two arities, then the first rule with a name that doesn't occur exactly twice in
-- it. Then come the first third occurrence of a name in the configuration, the first rule whose
-- pair of symbols an earlier one has, and the first lopsided rule (the order is this project's
-- choice).
abbrev pub system_sense_within : Limits → SystemPhrase → Result SystemParts TextFault
system_sense_within limits s =
    if is_system_in_limits_within limits s then
    (if list_all (has_its_arity (system_table s)) (system_symbols s) then
    unless_found (first_uncounted (rules_over s)) NameCount
    (unless_found (third_occurrence (phrase_names s.config)) Name
    (unless_found (first_repeated (rules_over s)) Twice
    (unless_found (first_lopsided (rules_over s)) Lopsided (Ok (system_parts s)))))
    else Err Arity)
    else Err Limit

-- the same with the limits of what is served
abbrev pub system_sense : SystemPhrase → Result SystemParts TextFault
system_sense s = system_sense_within Served s
