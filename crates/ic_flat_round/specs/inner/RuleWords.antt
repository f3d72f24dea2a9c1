-- For private functions: what is made of a rule's arguments as words when an equation fires.
use Rattle.std.specs.Prelude.{ℕ, ◌+◌, ◌-◌, ◌^◌, List, ◌++◌, map, min, take, drop, length}
use Rattle.ic_term.specs.Tree.{Tree}
use Rattle.ic_rules.specs.Renaming.{renamed}
use Rattle.ic_round.specs.Firing.{against}
use Rattle.ic_flat.specs.declared.word.Word.{Word}
use Rattle.ic_flat.specs.declared.word.Word.TheVariants.{Name, Agent}
use Rattle.ic_flat.specs.Words.{tree_words}
use Rattle.ic_flat_rules.specs.RuleWords.{pairs_words}

-- a name made higher, to 2^64 - 1 at most
abbrev pub above : ℕ → ℕ → ℕ
above base n = min (base + n) (2 ^ 64 - 1)

abbrev pub raised_word : ℕ → Word → Word
raised_word base (Name n) = Name (above base n)
raised_word base (Agent s arity) = Agent s arity

-- a rule's term with its names made higher
abbrev pub raised_words : ℕ → Tree → List Word
raised_words base u = tree_words (renamed (above base) u)

-- an argument, and then such a term
abbrev pub product_words : ℕ → Tree → Tree → List Word
product_words base t u = tree_words t ++ raised_words base u

-- so many arguments, each against the rule's term
abbrev pub against_words : ℕ → ℕ → List Tree → List Tree → List Word
against_words base count ts us =
    pairs_words (against (take count ts) (map (renamed (above base)) (take count us)))

-- the arguments of two agents, each against its term, where the first agent's terms come first
abbrev pub interaction_words : ℕ → List Tree → List Tree → List Tree → List Word
interaction_words base ts us terms =
    against_words base (length ts) ts terms ++ against_words base (length us) us (drop (length ts) terms)
