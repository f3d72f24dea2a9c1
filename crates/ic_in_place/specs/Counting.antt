-- How often each rule fired, and how many steps put a term for a name.
use Rattle.std.specs.Prelude.{◌≡◌, ◌⊎◌, ℕ, zero, suc, ◌+◌, ◌^◌, ◌<◌, ◌==◌, List, [], ◌∷◌, ◌++◌, Option, None, SomeIff, length, map, count_by, slice_index_or, IsPermutation}
use Rattle.ic_term.specs.Configuration.{Configuration}
use Rattle.ic_rules.specs.Rule.{Rule}
use Rattle.ic_round.specs.Quiet.{IsQuiet}
use Rattle.ic_round.specs.Rounds.{iterate}
use Rattle.ic_confluence.specs.Kinds.{Kind, naming, firing, Chain}
use Rattle.ic_generations.specs.Firings.{rules_of}
use Rattle.ic_in_place.specs.declared.running.End.{End}
use Rattle.ic_in_place.specs.declared.running.End.TheVariants.{Quiet, Steps, Nodes, Limit, Memory}

-- of each of so many rules, how often its number is among those that fired
pub record AreCounts (rules : ℕ) (fired by_rule : List ℕ) : Type 0 where
  pub all : length by_rule ≡ rules
  pub each : (i : ℕ) → i < rules → slice_index_or by_rule i 0 ≡ count_by (λ j. j == i) fired

-- the rules by which pairs fire in so many rounds, one round after another
abbrev pub rules_in : List Rule → (rounds : ℕ) → Configuration → List ℕ
rules_in rs zero c = []
rules_in rs (suc n) c = rules_in rs n c ++ rules_of rs (iterate rs n c).equations

-- So many interactions were made, so many of each rule, where so many rounds are over: those of these rounds, and some since. These
-- are a part of the next round: with the rest of it they are what it fires. Between two rounds there are none since.
pub record AreOfRounds (rs : List Rule) (c : Configuration) (rounds : ℕ) (end : End)
    (interactions : ℕ) (by_rule : List ℕ) : Type 0 where
  pub since : List ℕ
  pub all : interactions ≡ length (rules_in rs rounds c ++ since)
  pub counts : AreCounts (length rs) (rules_in rs rounds c ++ since) by_rule
  pub rest : List ℕ
  pub part : IsPermutation (since ++ rest) (rules_of rs (iterate rs rounds c).equations)
  pub whole : (end ≡ Quiet) ⊎ (end ≡ Steps) → since ≡ []

-- how many of these steps put a term for a name
abbrev pub name_steps : List Kind → ℕ
name_steps [] = 0
name_steps (naming ∷ kinds) = suc (name_steps kinds)
name_steps (firing i ∷ kinds) = name_steps kinds

-- how many arguments the rule at a place has
abbrev pub arguments_at : List Rule → ℕ → ℕ
arguments_at rs i = slice_index_or (map (λ r. length (r.left_args ++ r.right_args)) rs) i 0

-- Of the steps of some order, from a configuration to where no step is possible, so many put a term for a name.
pub record AreNameSteps (rs : List Rule) (c : Configuration) (n : ℕ) : Type 0 where
  pub kinds : List Kind
  pub end : Configuration
  pub chain : Chain rs kinds c end
  pub quiet : IsQuiet rs end
  pub count : name_steps kinds ≡ n

-- At a quiet end that is told exactly if it and the interactions and the equations of the answer are together below 2^64.
abbrev pub TellsNameSteps : List Rule → Configuration → (interactions left : ℕ) → End → Option ℕ → Type 0
TellsNameSteps rs c interactions left Quiet told =
    (n : ℕ) × AreNameSteps rs c n × SomeIff told (n + interactions + left < 2 ^ 64) n
TellsNameSteps rs c interactions left Steps told = told ≡ None
TellsNameSteps rs c interactions left Nodes told = told ≡ None
TellsNameSteps rs c interactions left Limit told = told ≡ None
TellsNameSteps rs c interactions left Memory told = told ≡ None
