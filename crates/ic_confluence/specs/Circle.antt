-- The smallest circle that indirection ends in two ways: `<|x=A(y),y=B(x)>`, for any symbols A, B.
use Rattle.std.specs.Prelude.{ℕ, List, [], ◌∷◌}
use Rattle.ic_term.specs.Tree.{Tree, name, agent, no_trees, more_trees, Pair}
use Rattle.ic_term.specs.Configuration.{Configuration}

-- an agent with one argument
abbrev pub one_argument : ℕ → Tree → Tree
one_argument s t = agent s (more_trees t no_trees)

-- a configuration of only one equation or two, whose names are x, numbered 0, and y, numbered 1
abbrev pub of_equations : List Pair → Configuration
of_equations es = record { interface = []; equations = es; next = 2 }

-- `<|x=A(y),y=B(x)>`
abbrev pub uncut : ℕ → ℕ → Configuration
uncut a b = of_equations (
    record { left = name 0; right = one_argument a (name 1) }
    ∷ record { left = name 1; right = one_argument b (name 0) } ∷ [])

-- `y=B(A(y))` and `x=A(B(x))`
abbrev pub cut_at_y : ℕ → ℕ → Pair
cut_at_y a b = record { left = name 1; right = one_argument b (one_argument a (name 1)) }

abbrev pub cut_at_x : ℕ → ℕ → Pair
cut_at_x a b = record { left = name 0; right = one_argument a (one_argument b (name 0)) }

-- agents of one argument with these symbols, one in the other, round x
abbrev pub nested : List ℕ → Tree
nested [] = name 0
nested (s ∷ ss) = one_argument s (nested ss)

-- `x=A(B(..(x)))`
abbrev pub circle_of : List ℕ → Pair
circle_of ss = record { left = name 0; right = nested ss }
