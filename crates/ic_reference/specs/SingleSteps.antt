-- The single steps as functions: what a step at a place of the list of equations gives, if there is
-- one.
use Rattle.std.specs.Prelude.{ℕ, ◌+◌, ◌&&◌, List, ◌++◌, Bool, Option, take, drop, slice_get, nat_le, option_and_then}
use Rattle.std.specs.List.{flat_map}
use Rattle.std.specs.Option.{option_map}
use Rattle.ic_term.specs.Tree.{Pair, names, pair_names}
use Rattle.ic_term.specs.Configuration.{Configuration, configuration_nodes}
use Rattle.ic_term.specs.declared.limits.TheConstants.{MAX_NODES, MAX_NEXT}
use Rattle.ic_rules.specs.Rule.{Rule}
use Rattle.ic_settle.specs.Settling.{Binding, binding, subst_in}
use Rattle.ic_round.specs.Firing.{Active, active_pair, products_by, count_of}

-- an active equation at a place replaced by its products, whose names begin at `next`
abbrev pub interacted_by : List Rule → Configuration → ℕ → Active → Configuration
interacted_by rs c place a = record {
  interface = c.interface;
  equations = take place c.equations ++ (products_by rs c.next a ++ drop (place + 1) c.equations);
  next = c.next + count_of rs a.rule;
}

-- interaction at a place (Fernández and Mackie 1999)
abbrev pub interacted : List Rule → Configuration → ℕ → Option Configuration
interacted rs c place =
    option_map (interacted_by rs c place)
    (option_and_then (active_pair rs) (slice_get c.equations place))

-- the equations without the one at a place
abbrev pub others : Configuration → ℕ → List Pair
others c place = take place c.equations ++ drop (place + 1) c.equations

-- the equation at a place removed, and a term put for a name
abbrev pub bound_at : Configuration → ℕ → Binding → Configuration
bound_at c place b = subst_in b.name b.term (record c { equations = others c place })

-- Indirection at a place (Fernández and Mackie 1999). Where both sides would do, the left name is
-- used (this project's choice).
abbrev pub indirected : Configuration → ℕ → Option Configuration
indirected c place =
    option_map (bound_at c place)
    (option_and_then (binding (flat_map pair_names (others c place))) (slice_get c.equations place))

-- collect at a place, in the same way
abbrev pub collected : Configuration → ℕ → Option Configuration
collected c place =
    option_map (bound_at c place)
    (option_and_then (binding (flat_map names c.interface)) (slice_get c.equations place))

-- the nodes and `next` of a configuration are within the limits
abbrev pub is_within : Configuration → Bool
is_within c = nat_le (configuration_nodes c) MAX_NODES && nat_le c.next MAX_NEXT
