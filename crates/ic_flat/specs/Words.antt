use Rattle.std.specs.Prelude.{ℕ, ◌≤◌, ◌==◌, List, [], ◌∷◌, ◌++◌, Bool, true, false, ◌&&◌, length, take, drop, slice_get}
use Rattle.ic_term.specs.Tree.{Tree, name, agent, Trees, no_trees, more_trees, list_of, trees_of}
use Rattle.ic_term.specs.Symbol.{Symbol, has_arity}
use Rattle.ic_flat.specs.declared.word.Word.{Word}
use Rattle.ic_flat.specs.declared.word.Word.TheVariants.{Name, Agent}

-- how many of the terms after it a word takes
abbrev pub arguments : Word → ℕ
arguments (Name n) = 0
arguments (Agent s arity) = arity

-- A name is a term by itself, and an agent takes as many of the terms after it as it has arguments.
abbrev pub with_word : Word → List Tree → List Tree
with_word (Name n) ts = name n ∷ ts
with_word (Agent s arity) ts = agent s (trees_of (take arity ts)) ∷ drop arity ts

-- the terms that words in prefix order write, made from the last word on (Łukasiewicz's notation, which
-- needs no parentheses)
abbrev pub forest : List Word → List Tree
forest [] = []
forest (w ∷ ws) = with_word w (forest ws)

-- each agent has all its arguments after it
abbrev pub IsWhole : List Word → Type 0
IsWhole [] = Unit {0}
IsWhole (w ∷ ws) = (arguments w ≤ length (forest ws)) × IsWhole ws

-- the words of a term in prefix order: an agent's symbol before its arguments
abbrev mutual
  pub tree_words : Tree → List Word
  tree_words (name n) = Name n ∷ []
  tree_words (agent s ts) = Agent s (length (list_of ts)) ∷ trees_words ts

  pub trees_words : Trees → List Word
  trees_words no_trees = []
  trees_words (more_trees t ts) = tree_words t ++ trees_words ts

-- the name that a word is, if it is one
abbrev pub word_names : Word → List ℕ
word_names (Name n) = n ∷ []
word_names (Agent s arity) = []

-- whether the symbol of an agent is known, with as many arguments as its arity
abbrev pub is_word_over : List Symbol → Word → Bool
is_word_over ss (Name n) = true
is_word_over ss (Agent s arity) = has_arity arity (slice_get ss s)

-- whether two words are the same
abbrev pub word_eq : Word → Word → Bool
word_eq (Name m) (Name n) = m == n
word_eq (Agent s a) (Agent r b) = (s == r) && (a == b)
word_eq _ _ = false
