-- What the words after the program's name ask for, by the table of its words (this project's choice).
use Rattle.std.specs.Prelude.{◌≡◌, ◌≤◌, ℕ, Bool, true, false, List, [], ◌∷◌, map, fold, find, bytes_eq, if◌then◌else◌}
use Rattle.std.specs.Prelude.{Option, Some, None, option_map, option_and_then, unwrap_or, codes}
use Rattle.std.specs.Str.Parse.{IsNumeral, digits_value, without_leading_plus}
use Rattle.clap.specs.Words.{App, Rule, Shape, first_value, found_of, matched_of, new_app, new_rule, raw_values}
use Rattle.clap.specs.Words.{rows_of, subcommand_of, with_rule, with_subcommand}
use Rattle.clap.specs.Walk.{is_empty}
use Rattle.clap.specs.Lexer.{usize_max}
use Rattle.clap.specs.Simple.{on_top}
use Rattle.clap.specs.declared.builder.action.ArgAction.TheVariants.{SetTrue}
use Rattle.clap.specs.declared.builder.range.ValueRange.{ValueRange}
use Rattle.clap.specs.declared.builder.value_parser.ValueParser.TheVariants.{Unsigned, Names}
use Rattle.clap.specs.declared.parser.matches.ValueSource.{ValueSource}
use Rattle.clap.specs.declared.parser.matches.ValueSource.TheVariants.{DefaultValue, CommandLine}
use Rattle.ic_args.specs.declared.rows.Argument.{Argument}
use Rattle.ic_args.specs.declared.rows.Argument.TheVariants as row
use Rattle.ic_args.specs.declared.rows.Entry.{Entry}
use Rattle.ic_args.specs.declared.rows.Number.{Number}
use Rattle.ic_args.specs.declared.table.Word.{Word}
use Rattle.ic_args.specs.declared.values.Values.{Values}
use Rattle.ic_args.specs.declared.words.Request.{Request}
use Rattle.ic_args.specs.declared.words.Request.TheVariants as request
use Rattle.ic_args.specs.declared.words.WordsFault.{WordsFault}
use Rattle.ic_args.specs.declared.words.WordsFault.TheVariants as fault

-- ---- what the parser is told of the table

-- a text that there may be, as a list
abbrev pub listed : Option (List ℕ) → List (List ℕ)
listed None = []
listed (Some text) = text ∷ []

-- how many words may stand at a place
abbrev pub range_for : (several needed : Bool) → Option ValueRange
range_for false needed = None
range_for true true = Some (record { start_inclusive = 1; end_inclusive = usize_max })
range_for true false = Some (record { start_inclusive = 0; end_inclusive = usize_max })

-- an argument, as the parser is told of it
abbrev pub rule_for : Argument → Rule
rule_for (row.Flag flag) = record (new_rule flag.name.now) {
  long = Some flag.name.now;
  action = Some SetTrue;
}
rule_for (row.Text text) = record (new_rule text.name.now) {
  long = Some text.name.now;
  value_names = 1;
  required = text.needed;
  is_free = is_empty text.apart.now;
}
rule_for (row.Number number) = record (new_rule number.name.now) {
  long = Some number.name.now;
  value_names = 1;
  defaults = listed (option_map (λ text. text.now) number.default);
  parser = Some (Unsigned number.least number.most);
  is_free = is_empty number.apart.now;
}
rule_for (row.Choice choice) = record (new_rule choice.name.now) {
  long = Some choice.name.now;
  value_names = 1;
  defaults = choice.default.now ∷ [];
  parser = Some (Names choice.among);
}
rule_for (row.Place place) = record (new_rule place.name.now) {
  value_names = 1;
  required = place.needed;
  range = range_for place.several place.needed;
}

-- a word of the program
abbrev pub app_for : Entry → App
app_for entry = fold with_rule (new_app entry.name.now) (map rule_for entry.arguments.now)

-- the words are those after the program's name, one of the program's has to stand there, and help is a
-- word of the table
abbrev pub with_settings : Shape → Shape
with_settings s = record s {
  has_version = true;
  no_binary_name = true;
  disable_help_subcommand = true;
  subcommand_required = true;
  arg_required_else_help = true;
}

-- the program, of which no word is known
abbrev pub program : App
program = on_top with_settings (new_app (codes "icserve"))

-- a command line with a word more
abbrev pub with_entry : App → Entry → App
with_entry whole entry = with_subcommand whole (app_for entry).top

-- the command line of the program, by a table of its words
abbrev pub command_line : List Entry → App
command_line table = fold with_entry program table

-- ---- what the words ask for

-- the word of this name
abbrev pub word_of : List Entry → List ℕ → Option Word
word_of table name =
    option_map (λ entry. entry.word) (find (λ entry. bytes_eq entry.name.now name) table)

-- what the parser met after the word
abbrev pub text_met : Values → List ℕ → Option (List ℕ)
text_met values name = first_value (found_of values.met) name

abbrev pub texts_met : Values → List ℕ → List (List ℕ)
texts_met values name = unwrap_or (option_map raw_values (matched_of (found_of values.met) name)) []

-- a value comes from the words, and is no default
abbrev pub source_given : Option ValueSource → Bool
source_given None = false
source_given (Some DefaultValue) = false
source_given (Some CommandLine) = true

-- the words give an argument
abbrev pub is_given : Values → List ℕ → Bool
is_given values name =
    source_given (option_and_then (λ a. a.source) (matched_of (found_of values.met) name))

-- a text or the version is to be shown; or a word is to be done, which the parser meets in the words, with
-- the values that it meets after it
abbrev pub IsAsked : (table : List Entry) (words : List (List ℕ)) → Request → Type 0
IsAsked table words (request.Shown text) = Unit {0}
IsAsked table words (request.Word word values) = (name : List ℕ) × (word_of table name ≡ Some word)
    × (subcommand_of (command_line table) words ≡ Some (name, rows_of (found_of values.met)))

-- the text is this one
abbrev pub is_text : List ℕ → Option (List ℕ) → Bool
is_text text None = false
is_text text (Some other) = bytes_eq other text

-- a word is met where its name stands first
abbrev pub IsFirst : (table : List Entry) → Entry → Type 0
IsFirst table entry = (rest : List (List ℕ))
    → option_map (λ met. met.0) (subcommand_of (command_line table) (entry.name.now ∷ rest))
    ≡ Some entry.name.now

-- the path that a text is, none where it is `-`: then standard input is meant
abbrev pub file_of : Option (List ℕ) → Option (List ℕ)
file_of text = if is_text (codes "-") text then None else text

-- ---- numbers

-- the text is this number in decimal digits, before which a plus may stand
abbrev pub IsDecimal : List ℕ → ℕ → Type 0
IsDecimal text number = IsNumeral 10 (without_leading_plus text)
    × (number ≡ digits_value 10 (without_leading_plus text))

-- the number of a row: what its text says, or its default where there is no text. A text that says a number out
-- of the row's bounds the parser refuses
abbrev pub IsNumberOf : Number → Option (List ℕ) → ℕ → Type 0
IsNumberOf row text number = (n : ℕ)
    → IsDecimal (unwrap_or text (unwrap_or (option_map (λ default. default.now) row.default) [])) n
    → row.least ≤ n → n ≤ row.most → number ≡ n

-- the lasting numbers of the faults
abbrev pub words_fault_number : WordsFault → ℕ
words_fault_number (fault.Words text) = 1
words_fault_number fault.Memory = 2
