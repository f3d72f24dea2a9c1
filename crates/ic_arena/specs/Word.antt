-- Words, and what a term begins with.
use Rattle.std.specs.Prelude.{ℕ, ◌+◌, ◌==◌, List, Bool, ◌&&◌, count_by}
use Rattle.ic_arena.specs.declared.word.Word.{Word}
use Rattle.ic_arena.specs.declared.word.TheConstants.{NAME}

abbrev pub name_word : ℕ → Word
name_word n = record { tag = NAME; index = n }

-- an agent of this symbol, with the place of its arguments
abbrev pub agent_word : ℕ → ℕ → Word
agent_word s n = record { tag = s + 1; index = n }

-- whether two words are the same
abbrev pub word_eq : Word → Word → Bool
word_eq v w = v.tag == w.tag && v.index == w.index

-- how often a word stands in a list
abbrev pub count : Word → List Word → ℕ
count w ws = count_by (word_eq w) ws
