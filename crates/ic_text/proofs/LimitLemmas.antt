-- The limits are numbers that 64 bits count by far, and those of what is served are within the others.
use Rattle.std.proofs.Common.{◌≤◌, arith}
use Rattle.ic_rules.specs.declared.limits.TheConstants.{MAX_WIDE_RULES}
use Rattle.ic_text.specs.declared.limits.Limits.{Limits}
use Rattle.ic_text.specs.declared.limits.Limits.TheVariants.{Served, Wide}
use Rattle.ic_term.specs.declared.limits.TheConstants.{MAX_WIDE_NODES, MAX_WIDE_SYMBOLS}
use Rattle.ic_text.specs.Limits.{most_nodes, most_rules, most_symbols}

pub nodes-low : (limits : Limits) → most_nodes limits ≤ MAX_WIDE_NODES
nodes-low Served = omega arith
nodes-low Wide = omega arith

pub symbols-low : (limits : Limits) → most_symbols limits ≤ MAX_WIDE_SYMBOLS
symbols-low Served = omega arith
symbols-low Wide = omega arith

pub rules-low : (limits : Limits) → most_rules limits ≤ MAX_WIDE_RULES
rules-low Served = omega arith
rules-low Wide = omega arith
