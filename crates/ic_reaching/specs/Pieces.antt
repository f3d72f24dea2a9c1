-- Pieces of a net: a term that stands by itself, in an equation of a name with it.
use Rattle.std.specs.Prelude.{◌≡◌, ℕ, ◌<◌, List, [], ◌∷◌, map}
use Rattle.ic_term.specs.Tree.{Tree, name, Pair}
use Rattle.ic_term.specs.Configuration.{Configuration, configuration_names, occurrences}
use Rattle.ic_settle.specs.Settling.{Binding, subst_in}

-- the piece that is this term, of this name
abbrev pub piece : ℕ → Tree → Pair
piece x t = record { left = name x; right = t }

abbrev pub piece_of : Binding → Pair
piece_of b = piece b.name b.term

-- the names of pieces
abbrev pub names_of_pieces : List Binding → List ℕ
names_of_pieces bs = map (λ b. b.name) bs

-- The terms of pieces put for their names, one after another. Those of agents within a term are put
-- after it.
abbrev pub put_in_turn : List Binding → Configuration → Configuration
put_in_turn [] c = c
put_in_turn (b ∷ bs) c = put_in_turn bs (subst_in b.name b.term c)

-- each name occurs once, as its turn comes
abbrev pub OccurInTurn : List Binding → Configuration → Type 0
OccurInTurn [] c = Unit {0}
OccurInTurn (b ∷ bs) c =
    (occurrences b.name (configuration_names c) ≡ 1) × OccurInTurn bs (subst_in b.name b.term c)

-- the names of pieces don't occur, no two of them are one, and each is below a bound
abbrev pub AreNew : Configuration → ℕ → List Binding → Type 0
AreNew c bound [] = Unit {0}
AreNew c bound (b ∷ bs) =
    (occurrences b.name (configuration_names c) ≡ 0) × (occurrences b.name (names_of_pieces bs) ≡ 0)
    × (b.name < bound) × AreNew c bound bs
