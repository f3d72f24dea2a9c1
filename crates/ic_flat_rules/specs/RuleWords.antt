-- A rule's arguments as words, and the words of equations.
use Rattle.std.specs.Prelude.{ℕ, ◌+◌, List, [], ◌∷◌, ◌++◌, length}
use Rattle.std.specs.List.{flat_map}
use Rattle.ic_term.specs.Tree.{Pair}
use Rattle.ic_rules.specs.Rule.{Rule}
use Rattle.ic_flat.specs.declared.word.Word.{Word}
use Rattle.ic_flat.specs.Words.{tree_words}
use Rattle.ic_flat.specs.Flat.{sides}

-- the words of a rule's arguments, the left agent's before the right one's
abbrev pub rule_words : Rule → List Word
rule_words r = flat_map tree_words r.left_args ++ flat_map tree_words r.right_args

-- where the words of each rule begin, where these follow one another from a place on, and where the last ones end
abbrev pub bounds_from : ℕ → List Rule → List ℕ
bounds_from place [] = place ∷ []
bounds_from place (r ∷ rs) = place ∷ bounds_from (place + length (rule_words r)) rs

-- the words of the sides of equations
abbrev pub pairs_words : List Pair → List Word
pairs_words ps = flat_map tree_words (sides ps)
