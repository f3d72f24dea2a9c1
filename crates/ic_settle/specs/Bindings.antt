-- What settling replaces: each name in its order, with the opposite side of the equation that is
-- removed for it.
use Rattle.std.specs.Prelude.{◌≡◌, ℕ, zero, suc, ◌==◌, List, [], ◌∷◌, ◌++◌, Bool, false, length, map, slice_get, if◌then◌else◌, ◌⊎◌}
use Rattle.std.specs.List.{remove, zip}
use Rattle.std.specs.Option.{option_map, option_map_or, option_to_list}
use Rattle.ic_term.specs.Tree.{Tree, name, agent, Pair}
use Rattle.ic_term.specs.Configuration.{Configuration}
use Rattle.ic_settle.specs.Settling.{Binding, Choice, subst, first_choice, applied}

-- whether a term is this name
abbrev pub is_name : ℕ → Tree → Bool
is_name x (name y) = y == x
is_name x (agent s ts) = false

-- An equation that is removed for a name, as it is and as it was given: the name, with the opposite
-- side as given.
abbrev pub replacement : ℕ → Pair × Pair → Binding
replacement x p = record { name = x; term = if is_name x p.0.left then p.1.right else p.1.left }

-- what a step replaces; `given` has each equation of the configuration as it was given
abbrev pub replaced_by : Configuration → List Pair → Choice → List Binding
replaced_by c given choice =
    option_to_list
    (option_map (replacement choice.bound.name)
    (slice_get (zip c.equations given) (length choice.before)))

-- what at most so many steps of settling replace, in their order
abbrev pub replaced_in : ℕ → Configuration → List Pair → List Binding
replaced_in zero c given = []
replaced_in (suc n) c given =
    option_map_or
    (λ choice. replaced_by c given choice
    ++ replaced_in n (applied c choice) (remove given (length choice.before)))
    (first_choice c.interface [] c.equations) []

-- what settling a configuration replaces
abbrev pub replaced : Configuration → List Binding
replaced c = replaced_in (length c.equations) c c.equations

-- the names that bindings bind, in their order
abbrev pub bound_names : List Binding → List ℕ
bound_names bs = map (λ b. b.name) bs

-- a term is a side of one of these equations
abbrev pub IsSideIn : List Pair → Tree → Type 0
IsSideIn [] t = ⊥
IsSideIn (p ∷ ps) t = (t ≡ p.left) ⊎ ((t ≡ p.right) ⊎ IsSideIn ps t)

-- a later binding, with the term of an earlier one put for its name
abbrev pub put_into : Binding → Binding → Binding
put_into b later = record later { term = subst b.name b.term later.term }

-- The binding of this first step is replaced first; what is replaced after it, with its term put
-- for its name, is what settling what is left replaces.
abbrev pub ReplacesFirst : Configuration → Choice → Type 0
ReplacesFirst c choice =
    (later : List Binding)
    × (replaced c ≡ choice.bound ∷ later)
    × (replaced (applied c choice) ≡ map (put_into choice.bound) later)
