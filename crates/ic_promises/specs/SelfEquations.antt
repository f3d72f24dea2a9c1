-- Self-equations, of which settling makes nothing: what two wrong bodies make of them.
use Rattle.std.specs.Prelude.{Bool, false, ◌||◌, not, filter, map, if◌then◌else◌}
use Rattle.ic_term.specs.Tree.{Tree, name, agent, names, Pair}
use Rattle.ic_term.specs.Configuration.{Configuration}
use Rattle.ic_settle.specs.Settling.{occurs}

-- a side is a name that stands in the other
abbrev pub is_self_side : Tree → Tree → Bool
is_self_side (name n) u = occurs n (names u)
is_self_side (agent s ts) u = false

abbrev pub is_self_equation : Pair → Bool
is_self_equation p = is_self_side p.left p.right || is_self_side p.right p.left

-- a configuration without its self-equations
abbrev pub without_self_equations : Configuration → Configuration
without_self_equations c = record c {
  equations = filter (λ p. not (is_self_equation p)) c.equations;
}

-- an equation with the term put for the name, where the name stands in it
abbrev pub applied : Pair → Pair
applied p =
    if is_self_side p.left p.right then record { left = p.right; right = p.right } else
    (if is_self_side p.right p.left then record { left = p.left; right = p.left } else p)

-- a configuration with the term put for the name in each of its self-equations
abbrev pub with_self_equations_applied : Configuration → Configuration
with_self_equations_applied c = record c { equations = map applied c.equations }
