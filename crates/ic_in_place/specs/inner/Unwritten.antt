-- For private functions: what is read back and isn't numbered anew, and what is told of it.
use Rattle.std.specs.Prelude.{◌≡◌, ℕ, ◌+◌, ◌*◌, List, IsTrue, length}
use Rattle.std.specs.List.{list_all}
use Rattle.std.specs.Arc.{arc_value}
use Rattle.std.specs.Option.{option_map}
use Rattle.ic_term.specs.Configuration.{Configuration}
use Rattle.ic_term.specs.Symbol.{Symbol}
use Rattle.ic_rules.specs.System.{SystemParts}
use Rattle.ic_flat.specs.declared.word.Word.{Word}
use Rattle.ic_flat.specs.Words.{forest, is_word_over, IsWhole}
use Rattle.ic_flat.specs.Flat.{configuration_of}
use Rattle.ic_naming.specs.Naming.{renumbered}
use Rattle.ic_in_place.specs.Counting.{TellsNameSteps}
use Rattle.ic_in_place.specs.Reducing.{IsReached}
use Rattle.ic_in_place.specs.Reductions.{stuck_at}
use Rattle.ic_in_place.specs.declared.running.Bounds.{Bounds}
use Rattle.ic_in_place.specs.declared.stream.Outcome.{Outcome}

-- Words write a configuration up to its names: numbered anew, both are the same. So many of their terms are in its interface,
-- and they have so many equations.
pub record WritesAlike (symbols : List Symbol) (words : List Word) (terms equations : ℕ)
    (c : Configuration) : Type 0 where
  pub whole : IsWhole words
  pub over : IsTrue (list_all (is_word_over symbols) words)
  pub counted : length (forest words) ≡ terms + 2 * equations
  pub alike : renumbered (configuration_of words terms 0) ≡ renumbered c

-- An outcome tells of a configuration that is reached.
pub record IsTold (s : SystemParts) (bounds : Bounds) (outcome : Outcome) : Type 0 where
  pub answer : Configuration
  pub reached : IsReached s bounds answer outcome.end outcome.interactions outcome.by_rule.items
  pub name_steps : TellsNameSteps s.rules.rules s.config outcome.interactions
      (length answer.equations) outcome.end outcome.name_steps
  pub stuck : option_map (λ text. text.items) outcome.stuck
      ≡ stuck_at outcome.end s.rules.symbols answer
  pub rules : arc_value outcome.rules ≡ s.rules
