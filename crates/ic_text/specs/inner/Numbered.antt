-- For private functions: a configuration in prefix notation with its symbols as numbers.
use Rattle.std.specs.Prelude.{◌≡◌, ℕ, List, [], ◌∷◌, Bool, true, ◌&&◌, ◌||◌, Option, None, Some, IsTrue, Result, Ok, Err, length, map, nat_le, nat_lt, if◌then◌else◌}
use Rattle.std.specs.List.{list_all}
use Rattle.ic_term.specs.Symbol.{Symbol, is_symbol_text, fits_limits, numbered, with_symbol}
use Rattle.ic_term.specs.declared.symbols.SymbolFault.{SymbolFault}
use Rattle.ic_term.specs.declared.symbols.SymbolFault.TheVariants.{Limit as OverLimit, Arity as OtherArity, Memory as NoMemory}
use Rattle.ic_term.specs.Configuration.{Configuration}
use Rattle.ic_term.specs.declared.config.ConfigFault.{ConfigFault}
use Rattle.ic_term.specs.declared.config.ConfigFault.TheVariants.{Limit as TooMuch, Name as Third, Memory as NoRoom}
use Rattle.ic_text.specs.declared.limits.Limits.{Limits}
use Rattle.ic_text.specs.declared.limits.TheConstants.{MAX_NAME}
use Rattle.ic_text.specs.Limits.{most_symbols}
use Rattle.ic_flat.specs.declared.word.Word.{Word}
use Rattle.ic_text.specs.declared.excess.Excess.{Excess}
use Rattle.ic_flat.specs.declared.word.Word.TheVariants.{Name, Agent}
use Rattle.ic_text.specs.declared.fault.TextFault.{TextFault}
use Rattle.ic_text.specs.declared.fault.TextFault.TheVariants.{Syntax, Limit, Arity, NameCount, Name as ThirdName, Twice, Lopsided, Memory}
use Rattle.ic_text.specs.Name.{is_name, name_number}
use Rattle.ic_text.specs.Sense.{has_its_arity, number_in_table}

-- a word of a configuration is a name or a symbol
abbrev pub IsWord : Symbol → Type 0
IsWord w = IsTrue (is_name w.text || is_symbol_text w.text)

-- a symbol with its number, or why it has none
abbrev pub agent_word : Limits → ℕ → Result ℕ SymbolFault → Result Word SymbolFault
agent_word limits arity (Ok n) =
    if nat_lt n (most_symbols limits) then Ok (Agent n arity) else Err OverLimit
agent_word limits arity (Err e) = Err e

-- a word with its number, where it comes after the symbols of a table
abbrev pub word_found : Limits → List Symbol → Symbol → Result Word SymbolFault
word_found limits table w =
    if is_name w.text
    then (if nat_le (name_number w.text) MAX_NAME then Ok (Name (name_number w.text))
    else Err OverLimit)
    else agent_word limits w.arity (numbered table w.text w.arity)

-- the table after a word, and after a list of words
abbrev pub table_with : List Symbol → Symbol → List Symbol
table_with table w = if is_name w.text then table else with_symbol table w.text w.arity

abbrev pub table_over : List Symbol → List Symbol → List Symbol
table_over table [] = table
table_over table (w ∷ ws) = table_over (table_with table w) ws

-- a word within the limits of one word
abbrev pub is_word_in_limits : Symbol → Bool
is_word_in_limits w =
    if is_name w.text then nat_le (name_number w.text) MAX_NAME else fits_limits w.text w.arity

-- a word is a name, or has the arity that the table has for it
abbrev pub is_word_over : List Symbol → Symbol → Bool
is_word_over table w = if is_name w.text then true else has_its_arity table w

-- a word with its number by a whole table
abbrev pub word_from : List Symbol → Symbol → Word
word_from table w =
    if is_name w.text then Name (name_number w.text)
    else Agent (number_in_table table w.text) w.arity

-- a value, or the first of two refusals
abbrev pub unless_refused : {A : Type 0} → Bool → Bool → A → Result A TextFault
unless_refused in_limits over v =
    if in_limits then (if over then Ok v else Err Arity) else Err Limit

-- the words of a configuration with their numbers, and their table of symbols
abbrev pub numbered_words : Limits → List Symbol → Result (List Symbol × List Word) TextFault
numbered_words limits ws =
    unless_refused
    (list_all is_word_in_limits ws && nat_le (length (table_over [] ws)) (most_symbols limits))
    (list_all (is_word_over (table_over [] ws)) ws)
    (table_over [] ws, map (word_from (table_over [] ws)) ws)

-- the same, unless a limit of how many they are is passed
abbrev pub counted_words : Limits → Option Excess → List Symbol
    → Result (List Symbol × List Word) TextFault
counted_words limits None ws = numbered_words limits ws
counted_words limits (Some excess) ws = Err Limit

-- a word with its number or a refusal, unless a growth was refused
abbrev pub WordAnswers : Result Word SymbolFault → Result Word SymbolFault → Type 0
WordAnswers (Ok word) answer = Ok word ≡ answer
WordAnswers (Err OverLimit) answer = Err OverLimit ≡ answer
WordAnswers (Err (OtherArity n)) answer = Err (OtherArity n) ≡ answer
WordAnswers (Err NoMemory) answer = Unit {0}

-- a refusal, unless it is that memory ran out
abbrev pub Refuses : {A : Type 0} → TextFault → Result A TextFault → Type 0
Refuses Syntax answer = Err Syntax ≡ answer
Refuses Limit answer = Err Limit ≡ answer
Refuses Arity answer = Err Arity ≡ answer
Refuses (NameCount i) answer = Err (NameCount i) ≡ answer
Refuses (ThirdName n) answer = Err (ThirdName n) ≡ answer
Refuses (Twice i) answer = Err (Twice i) ≡ answer
Refuses (Lopsided i) answer = Err (Lopsided i) ≡ answer
Refuses Memory answer = Unit {0}

-- A result, seen by `view`, is this answer, unless a growth was refused.
abbrev pub Gives : {A B : Type 0} → (A → B) → Result A TextFault → Result B TextFault → Type 0
Gives view (Ok v) answer = Ok (view v) ≡ answer
Gives view (Err fault) answer = Refuses fault answer

-- a refusal of a configuration as that of a text
abbrev pub as_text_fault : ConfigFault → TextFault
as_text_fault TooMuch = Limit
as_text_fault (Third n) = ThirdName n
as_text_fault NoRoom = Memory

-- an answer on a configuration as one on a text
abbrev pub as_text_answer : Result Configuration ConfigFault → Result Configuration TextFault
as_text_answer (Ok c) = Ok c
as_text_answer (Err e) = Err (as_text_fault e)
