-- What nets of generations keep, and which plans they fire.
use Rattle.std.specs.Prelude.{◌≡◌, ◌↔◌, ℕ, List, [], ◌∷◌, Some, map, slice_get, IsPermutation, IsTrue}
use Rattle.ic_term.specs.Configuration.{Configuration, configuration_names, occurrences}
use Rattle.ic_term.specs.Symbol.{is_over}
use Rattle.ic_rules.specs.Rule.{Rule}
use Rattle.ic_rules.specs.RuleSet.{Rules}
use Rattle.ic_round.specs.Naming.{HasNames}
use Rattle.ic_round.specs.Rounds.{round}
use Rattle.ic_generations.specs.Firings.{rules_of}
use Rattle.ic_arena.specs.declared.word.Word.{Word}
use Rattle.ic_arena.specs.Piece.{Piece}
use Rattle.ic_meaning.specs.Words.{Numbers}
use Rattle.ic_meaning.specs.Nets.{net_of, AreNetPieces}
use Rattle.ic_meaning.specs.Plans.{rule_number}

-- What a net in pieces keeps: it is over the symbols, it has names, and those that occur once were given.
pub record KeepsNet (rs : Rules) (n : Numbers) (i : List Word) (ps : List Piece) : Type 0 where
  pub pieces : AreNetPieces n.arities i ps
  pub over : IsTrue (is_over rs.symbols (net_of n i ps))
  pub names : HasNames (net_of n i ps)
  pub free : (x : ℕ) → (occurrences x (configuration_names (net_of n i ps)) ≡ 1)
      ↔ ((j : ℕ) × (slice_get n.given j ≡ Some x))

-- Plans fired generation by generation as rules fire round by round.
abbrev pub FireAsRounds : List Rule → List ℕ → List (List ℕ) → Configuration → Type 0
FireAsRounds rs numbers [] c = Unit {0}
FireAsRounds rs numbers (fired ∷ more) c =
    IsPermutation (map (rule_number numbers) fired) (rules_of rs c.equations)
    × FireAsRounds rs numbers more (round rs c)
