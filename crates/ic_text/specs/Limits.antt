-- The limits with which a text is read (this project's choice).
use Rattle.std.specs.Prelude.{ℕ}
use Rattle.ic_rules.specs.declared.limits.TheConstants.{MAX_RULES, MAX_WIDE_RULES}
use Rattle.ic_term.specs.declared.limits.TheConstants.{MAX_NODES, MAX_INTERFACE, MAX_SYMBOLS, MAX_WIDE_NODES, MAX_WIDE_SYMBOLS}
use Rattle.ic_text.specs.declared.limits.Limits.{Limits}
use Rattle.ic_text.specs.declared.limits.Limits.TheVariants.{Served, Wide}
use Rattle.ic_text.specs.declared.limits.TheConstants.{MAX_TEXT, MAX_WIDE_TEXT}

-- so many bytes a text has at most
abbrev pub most_bytes : Limits → ℕ
most_bytes Served = MAX_TEXT
most_bytes Wide = MAX_WIDE_TEXT

-- so many nodes a configuration has at most
abbrev pub most_nodes : Limits → ℕ
most_nodes Served = MAX_NODES
most_nodes Wide = MAX_WIDE_NODES

-- so many terms an interface has at most
abbrev pub most_interface : Limits → ℕ
most_interface Served = MAX_INTERFACE
most_interface Wide = MAX_WIDE_NODES

-- so many symbols of different texts there are at most
abbrev pub most_symbols : Limits → ℕ
most_symbols Served = MAX_SYMBOLS
most_symbols Wide = MAX_WIDE_SYMBOLS

-- so many rules there are at most
abbrev pub most_rules : Limits → ℕ
most_rules Served = MAX_RULES
most_rules Wide = MAX_WIDE_RULES
