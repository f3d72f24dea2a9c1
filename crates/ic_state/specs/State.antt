-- A state as bytes (this project's choice).
use Rattle.std.specs.Prelude.{◌≡◌, ℕ, ◌<◌, ◌^◌, Bool, true, false, List, [], ◌∷◌, ◌++◌, Option, None, Some, IfSome, length}
use Rattle.std.specs.List.{flat_map, AllByRecursion}
use Rattle.ic_flat.specs.declared.word.Word.{Word}
use Rattle.ic_state.specs.declared.state.State.{State}
use Rattle.ic_state.specs.declared.state.StateHead.{StateHead}
use Rattle.ic_state.specs.declared.form.TheConstants.{FORMAT, NARROW_FORMAT}
use Rattle.ic_state.specs.declared.rounds.TheConstants.{BY_ROUNDS}
use Rattle.ic_state.specs.Numbers.{eight_bytes}
use Rattle.ic_state.specs.Words.{word_bytes, IsKeptWord}

-- A text with the rules of a reduction, the words that were reached and how many terms their interface has, how many
-- interactions were made, in all and by each rule, whether it has ended, and for how many milliseconds it has gone on. Where it
-- goes by rounds, so many of them are over. Its words are written in the narrow form or in the wide one.
pub record Kept : Type 0 where
  pub text : List ℕ
  pub words : List Word
  pub terms : ℕ
  pub interactions : ℕ
  pub by_rule : List ℕ
  pub ended : Bool
  pub millis : ℕ
  pub rounds : Option ℕ
  pub narrow : Bool

-- what a value of the program says
abbrev pub kept_by : State → Kept
kept_by s = record {
  text = s.text.items;
  words = s.words.items;
  terms = s.terms;
  interactions = s.interactions;
  by_rule = s.by_rule.items;
  ended = s.ended;
  millis = s.millis;
  rounds = s.rounds;
  narrow = s.narrow;
}

abbrev pub ended_number : Bool → ℕ
ended_number true = 1
ended_number false = 0

-- the number with which a state of each form begins
abbrev pub format_number : (narrow : Bool) → ℕ
format_number true = NARROW_FORMAT
format_number false = FORMAT

-- what stands first where a reduction goes by rounds: a number that says so, and how many are over
abbrev pub rounds_numbers : Option ℕ → List ℕ
rounds_numbers None = []
rounds_numbers (Some made) = BY_ROUNDS ∷ made ∷ []

-- the numbers that stand before the lists, each in eight bytes
abbrev pub head_numbers : Kept → List ℕ
head_numbers k =
    format_number k.narrow ∷ k.terms ∷ k.interactions ∷ ended_number k.ended
    ∷ length k.by_rule ∷ length k.words ∷ k.millis ∷ []

-- these numbers, the counts of the rules, the words, and the text
abbrev pub plain_bytes : Kept → List ℕ
plain_bytes k =
    flat_map eight_bytes (head_numbers k)
    ++ (flat_map eight_bytes k.by_rule ++ (flat_map (word_bytes k.narrow) k.words ++ k.text))

-- A state is all this, after what is said of rounds.
abbrev pub state_bytes : Kept → List ℕ
state_bytes k = flat_map eight_bytes (rounds_numbers k.rounds) ++ plain_bytes k

-- in how many bytes the numbers stand that come before the lists
abbrev pub front_length : Option ℕ → ℕ
front_length None = 56
front_length (Some made) = 72

-- each of its numbers fits its bytes
pub record IsKept (k : Kept) : Type 0 where
  pub terms : k.terms < 2 ^ 64
  pub interactions : k.interactions < 2 ^ 64
  pub rules : length k.by_rule < 2 ^ 64
  pub count : length k.words < 2 ^ 64
  pub millis : k.millis < 2 ^ 64
  pub by_rule : AllByRecursion (λ n. n < 2 ^ 64) k.by_rule
  pub words : AllByRecursion (IsKeptWord k.narrow) k.words
  pub rounds : IfSome k.rounds (λ n. n < 2 ^ 64)

-- what the first numbers of a state say of it
pub record IsHeadOf (head : StateHead) (k : Kept) : Type 0 where
  pub interactions : head.interactions ≡ k.interactions
  pub ended : head.ended ≡ k.ended
  pub rules : head.rules ≡ length k.by_rule
  pub words : head.words ≡ length k.words
  pub millis : head.millis ≡ k.millis
  pub rounds : head.rounds ≡ k.rounds
  pub narrow : head.narrow ≡ k.narrow
