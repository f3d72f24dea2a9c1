-- For private functions: whether too much is written.
use Rattle.std.specs.Prelude.{◌≡◌, ℕ, zero, suc, ◌+◌, ◌-◌, ◌*◌, List, [], ◌∷◌, Bool, true, false, not, ◌&&◌, Option, None, Some, length, nat_le, nat_lt, if◌then◌else◌}
use Rattle.ic_rules.specs.declared.limits.TheConstants.{MAX_RULE_NODES}
use Rattle.ic_term.specs.Symbol.{Symbol}
use Rattle.ic_text.specs.declared.excess.Excess.{Excess}
use Rattle.ic_text.specs.declared.limits.Limits.{Limits}
use Rattle.ic_text.specs.declared.limits.Limits.TheVariants.{Served, Wide}
use Rattle.ic_text.specs.Limits.{most_interface, most_nodes, most_rules}
use Rattle.ic_text.specs.Source.{Phrase, phrase_nodes}
use Rattle.ic_text.specs.SystemSource.{SystemPhrase}
use Rattle.ic_text.specs.SystemSense.{rules_are_small}
use Rattle.ic_text.specs.inner.Words.{rules_prefix, system_prefix}

-- no limit is passed
abbrev pub is_kept : Option Excess → Bool
is_kept None = true
is_kept (Some excess) = false

-- How many terms are due after a word in prefix notation, if so many were due before it: none in front
-- of a term that no other one holds.
abbrev pub due_after : ℕ → ℕ → ℕ
due_after zero arity = arity
due_after (suc due) arity = due + arity

-- In words of rules no rule has too many nodes. So many terms are due in front of them, the agent before
-- them is the second one of a rule or its first, and the rule has so many nodes so far.
abbrev pub each_keeps : ℕ → Bool → ℕ → List Symbol → Bool
each_keeps due second nodes [] = true
each_keeps zero second nodes (w ∷ ws) =
    each_keeps w.arity (not second) (if second then 0 else nodes) ws
each_keeps (suc due) second nodes (w ∷ ws) =
    nat_lt nodes MAX_RULE_NODES && each_keeps (due + w.arity) second (nodes + 1) ws

-- words of rules with so many agents as their sides have few nodes
abbrev pub rule_nodes_keep : Limits → ℕ → List Symbol → Bool
rule_nodes_keep Served agents ws = nat_le (length ws - agents) MAX_RULE_NODES
rule_nodes_keep Wide agents ws = each_keeps 0 true 0 ws

-- rules are neither too many nor too long
abbrev pub rules_fit : Limits → SystemPhrase → Bool
rules_fit limits s =
    nat_le (length s.rules) (most_rules limits) && rules_are_small limits s.rules

-- an interface hasn't too many terms, nor a configuration too many nodes
abbrev pub config_fits : Limits → Phrase → Bool
config_fits limits p =
    nat_le (length p.interface) (most_interface limits) && nat_le (phrase_nodes p) (most_nodes limits)

abbrev pub fits : Limits → SystemPhrase → Bool
fits limits s = rules_fit limits s && config_fits limits s.config

-- these are the words of a system, so many of them its rules', with so many agents as their sides,
-- and so many terms in its interface
pub record IsCounted (s : SystemPhrase) (ws : List Symbol) (rules agents terms : ℕ) : Type 0 where
  pub words : ws ≡ system_prefix s
  pub before : rules ≡ length (rules_prefix s.rules)
  pub sides : agents ≡ 2 * length s.rules
  pub interface : terms ≡ length s.config.interface
