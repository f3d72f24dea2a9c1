-- For private functions: terms whose agents are made in a builder.
use Rattle.std.specs.Prelude.{◌≡◌, ℕ, ◌+◌, List, [], Some, length, map, slice_get}
use Rattle.std.specs.List.{flat_map, AllByRecursion}
use Rattle.ic_term.specs.Configuration.{Configuration}
use Rattle.ic_flat.specs.declared.word.Word.{Word}
use Rattle.ic_flat.specs.declared.word.Word.TheVariants.{Name, Agent}
use Rattle.ic_flat.specs.Words.{word_names}
use Rattle.ic_machine.specs.declared.plan.Link.{Link}
use Rattle.ic_machine.specs.Building.{Building, Builds}
use Rattle.ic_machine.specs.Plan.{Made, Planned}
use Rattle.ic_machine.specs.Runs.{IsStart}
use Rattle.ic_meaning.specs.Plans.{StandsForNet}
use Rattle.ic_plans.specs.inner.Flattening.{IsRead, WouldBeFlat}

-- the symbol of an agent is known, with this arity
abbrev pub IsKnown : List ℕ → Word → Type 0
IsKnown arities (Name x) = Unit {0}
IsKnown arities (Agent s n) = slice_get arities s ≡ Some n

-- A builder has made the agents of words, and these registers have their terms.
pub record AreLaid (arities : List ℕ) (registers : ℕ → ℕ) (given names : ℕ) (ws : List Word) (b : Building)
    (operands : List ℕ) : Type 0 where
  pub made : List Made
  pub builds : Builds given names made b
  pub arities_are : b.arities ≡ arities
  pub count : length b.registers ≡ length arities + given + names + length made
  pub flat : WouldBeFlat arities registers (length arities + given + names) ws made operands

-- A builder has names alone, and these registers are those of the names of words, whose symbols are known.
pub record CanLay (reads : List ℕ) (ws : List Word) (b : Building) : Type 0 where
  pub given : ℕ
  pub names : ℕ
  pub registers : ℕ → ℕ
  pub reads_are : reads ≡ map registers (flat_map word_names ws)
  pub read : AllByRecursion (IsRead b.arities registers (length b.arities + given + names)) ws
  pub builds : Builds given names [] b
  pub count : length b.registers ≡ length b.arities + given + names

-- A builder has made a plan's names and agents. With these links the plan stands for a configuration, and a machine can begin
-- with it.
pub record IsLaidOut (arities given : List ℕ) (c : Configuration) (names : ℕ) (interface : List ℕ) (links : List Link)
    (b : Building) : Type 0 where
  pub plan : Planned
  pub names_are : plan.names ≡ names
  pub links_are : plan.links ≡ links
  pub arities_are : b.arities ≡ arities
  pub builds : Builds (length given) plan.names plan.made b
  pub start : IsStart arities (length given) plan interface
  pub stands : StandsForNet arities given c plan interface
