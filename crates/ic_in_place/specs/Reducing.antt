-- What a system is reduced to in place (this project's choice).
use Rattle.std.specs.Prelude.{◌≡◌, ℕ, ◌+◌, ◌*◌, ◌<◌, ◌≤◌, List, ◌++◌, IsTrue, length}
use Rattle.std.specs.List.{list_all, AllByRecursion}
use Rattle.ic_term.specs.Tree.{Tree, name, agent, names, Pair}
use Rattle.ic_term.specs.Configuration.{Configuration, configuration_names, occurrences}
use Rattle.ic_term.specs.Symbol.{Symbol}
use Rattle.ic_rules.specs.Rule.{Rule}
use Rattle.ic_rules.specs.System.{SystemParts}
use Rattle.ic_flat.specs.declared.word.Word.{Word}
use Rattle.ic_flat.specs.Words.{forest, is_word_over, IsWhole}
use Rattle.ic_flat.specs.Flat.{configuration_of}
use Rattle.ic_naming.specs.Naming.{renumbered}
use Rattle.ic_round.specs.Quiet.{IsQuiet}
use Rattle.ic_round.specs.Steps.{Interaction}
use Rattle.ic_reaching.specs.Reaching.{Reaches}
use Rattle.ic_text.specs.declared.limits.TheConstants.{MAX_NAME}
use Rattle.ic_in_place.specs.declared.running.Bounds.{Bounds}
use Rattle.ic_in_place.specs.declared.running.End.{End}
use Rattle.ic_in_place.specs.declared.running.End.TheVariants.{Quiet, Steps, Nodes, Limit, Memory}
use Rattle.ic_in_place.specs.Counting.{AreCounts}

-- a term is an agent, or a name that occurs once
abbrev pub IsAgentOrFree : Configuration → Tree → Type 0
IsAgentOrFree c (name x) = occurrences x (configuration_names c) ≡ 1
IsAgentOrFree c (agent s ts) = Unit {0}

-- A circle is an equation of a name with a term that has this name once.
abbrev pub IsCircle : Pair → Type 0
IsCircle e = (x : ℕ) × (e.left ≡ name x) × (occurrences x (names e.right) ≡ 1)

-- Nothing is left that could be put for a name. Each side of the first equations is an agent, or a name that occurs once, and
-- all others are circles.
pub record IsPutTogether (c : Configuration) : Type 0 where
  pub ends : List Pair
  pub circles : List Pair
  pub parts : c.equations ≡ ends ++ circles
  pub are_ends : AllByRecursion (λ e. IsAgentOrFree c e.left × IsAgentOrFree c e.right) ends
  pub are_circles : AllByRecursion IsCircle circles

-- an interaction is possible
abbrev pub CanInteract : List Rule → Configuration → Type 0
CanInteract rs c = (d : Configuration) × (place : ℕ) × Interaction rs c d place

-- What an end says of the configuration that was reached, and of how many interactions were made.
abbrev pub EndsBy : List Rule → Bounds → Configuration → ℕ → End → Type 0
EndsBy rs bounds c interactions Quiet = IsQuiet rs c × IsPutTogether c
EndsBy rs bounds c interactions Steps =
    (interactions ≡ bounds.steps) × CanInteract rs c × IsPutTogether c
EndsBy rs bounds c interactions Nodes = interactions < bounds.steps
EndsBy rs bounds c interactions Limit = interactions < bounds.steps
EndsBy rs bounds c interactions Memory = Unit {0}

-- A configuration is reached from that of a system by so many interactions, at most as many as may be made, so many of them by
-- each rule. This is why no more were made. Nothing is said of threads, or of machines.
pub record IsReached (s : SystemParts) (bounds : Bounds) (answer : Configuration) (end : End)
    (interactions : ℕ) (by_rule : List ℕ) : Type 0 where
  pub fired : List ℕ
  pub reached : Reaches s.rules.rules s.config answer fired
  pub counted : interactions ≡ length fired
  pub within : interactions ≤ bounds.steps
  pub ended : EndsBy s.rules.rules bounds answer interactions end
  pub counts : AreCounts (length s.rules.rules) fired by_rule

-- Words write a configuration with its names numbered anew, so many of their terms in its interface, and so many equations.
pub record Writes (symbols : List Symbol) (words : List Word) (terms equations : ℕ)
    (c : Configuration) : Type 0 where
  pub whole : IsWhole words
  pub over : IsTrue (list_all (is_word_over symbols) words)
  pub counted : length (forest words) ≡ terms + 2 * equations
  pub written : configuration_of words terms (MAX_NAME + 1) ≡ renumbered c
