-- For private functions: the numbers of names that are written.
use Rattle.std.specs.Prelude.{◌≡◌, ℕ, ◌+◌, ◌*◌, ◌^◌, ◌<◌, List, length}
use Rattle.ic_arena.specs.declared.word.Word.{Word}
use Rattle.ic_arena.specs.declared.word.TheConstants.{GIVEN}
use Rattle.ic_meaning.specs.Words.{Numbers}
use Rattle.ic_readback.specs.declared.token.Token.{Token}
use Rattle.ic_readback.specs.declared.token.Token.TheVariants.{Name, Agent}

-- The numbers by which names are written: given ones by their own, and places by numbers from 2^62 on.
abbrev pub written_numbers : (arities given : List ℕ) → Numbers
written_numbers arities given = record {
  arities = arities;
  given = given;
  of_place = λ w. 2 ^ 62 + (w.tag * 2 ^ 32 + w.index);
}

-- a word of which the name has a number: a given name that there is, or a place
pub record HasNumber (given : List ℕ) (w : Word) : Type 0 where
  pub in_range : w.tag ≡ GIVEN → w.index < length given
  pub fits : w.index < 2 ^ 32

abbrev pub IsNumbered : List ℕ → Token → Type 0
IsNumbered given (Name w) = HasNumber given w
IsNumbered given (Agent s) = Unit {0}
