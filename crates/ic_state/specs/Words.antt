-- Words as numbers and as bytes, in a narrow form or in the wide one (this project's choice).
use Rattle.std.specs.Prelude.{ℕ, ◌+◌, ◌*◌, ◌<◌, ◌^◌, Bool, true, false, List}
use Rattle.ic_flat.specs.declared.word.Word.{Word}
use Rattle.ic_flat.specs.declared.word.Word.TheVariants.{Name, Agent}
use Rattle.ic_state.specs.Numbers.{eight_bytes, four_bytes}

-- the number of the first agent
abbrev pub agents_from : (narrow : Bool) → ℕ
agents_from true = 2 ^ 31
agents_from false = 2 ^ 63

-- how many symbols have numbers
abbrev pub symbol_room : (narrow : Bool) → ℕ
symbol_room true = 2 ^ 24
symbol_room false = 2 ^ 32

-- below how many arguments an agent has a number
abbrev pub argument_room : (narrow : Bool) → ℕ
argument_room true = 2 ^ 7
argument_room false = 2 ^ 31

-- A name is its number. An agent is its symbol, above it how many arguments it has, and the highest bit.
abbrev pub word_number : (narrow : Bool) → Word → ℕ
word_number narrow (Name n) = n
word_number narrow (Agent s arguments) =
    agents_from narrow + arguments * symbol_room narrow + s

-- the words that have a number of their own
abbrev pub IsKeptWord : (narrow : Bool) → Word → Type 0
IsKeptWord narrow (Name n) = n < agents_from narrow
IsKeptWord narrow (Agent s arguments) =
    (s < symbol_room narrow) × (arguments < argument_room narrow)

-- in how many bytes a word stands
abbrev pub width : (narrow : Bool) → ℕ
width true = 4
width false = 8

-- a number in so many bytes
abbrev pub number_bytes : (narrow : Bool) → ℕ → List ℕ
number_bytes true n = four_bytes n
number_bytes false n = eight_bytes n

-- a word in so many bytes
abbrev pub word_bytes : (narrow : Bool) → Word → List ℕ
word_bytes narrow w = number_bytes narrow (word_number narrow w)
