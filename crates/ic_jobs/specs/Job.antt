-- A job of the table.
use Rattle.std.specs.Prelude.{◌≡◌, ℕ, ◌+◌, ◌≤◌, ◌==◌, ◌↔◌, ◌&&◌, List, Bool, Option, Some, IsTrue, IfSome, nat_lt, if◌then◌else◌}
use Rattle.std.specs.Str.{bytes_eq}
use Rattle.std.specs.Cmp.Lexicographic.{pointwise}
use Rattle.ic_term.specs.Symbol.{AreSymbols, is_over}
use Rattle.ic_term.specs.Configuration.{Configuration, IsConfiguration, configuration_eq}
use Rattle.ic_rules.specs.JobName.{is_job_name}
use Rattle.ic_rules.specs.RuleSet.{Rules, AreServed, IsRuleSet, rules_eq}
use Rattle.ic_rules.specs.System.{SystemParts}
use Rattle.ic_round.specs.Rounds.{fits, round}
use Rattle.ic_round.specs.Quiet.{IsQuiet, is_quiet}
use Rattle.ic_flights.specs.declared.limits.TheConstants.{MAX_ROUNDS}
use Rattle.ic_jobs.specs.declared.state.State.{State}
use Rattle.ic_jobs.specs.declared.state.State.TheVariants.{Running, Done, Spent}
use Rattle.ic_jobs.specs.State.{state_eq}
use Rattle.ic_jobs.specs.Budget.{IsBudget, is_used_up, budget_eq}

-- A job: its name, its rules and configuration, how many rounds it has made, its state, and how many
-- rounds it makes at most, where that is set.
pub record JobParts : Type 0 where
  pub name : List ℕ
  pub rules : Rules
  pub config : Configuration
  pub rounds : ℕ
  pub state : State
  pub budget : Option ℕ

-- What each job keeps. It is done exactly where its configuration is quiet, and spent exactly where
-- it isn't quiet and its rounds are its budget.
pub record IsJob (j : JobParts) : Type 0 where
  pub name : IsTrue (is_job_name j.name)
  pub symbols : AreSymbols j.rules.symbols
  pub rules : IsRuleSet j.rules
  pub served : AreServed j.rules
  pub config : IsConfiguration j.config
  pub over : IsTrue (is_over j.rules.symbols j.config)
  pub counted : j.rounds ≤ MAX_ROUNDS
  pub budget : IfSome j.budget IsBudget
  pub within : IfSome j.budget (λ most. j.rounds ≤ most)
  pub done : (j.state ≡ Done) ↔ IsQuiet j.rules.rules j.config
  pub spent : (j.state ≡ Spent) ↔ ((¬ IsQuiet j.rules.rules j.config) × (j.budget ≡ Some j.rounds))

-- the state of a job as it begins: done where its configuration is quiet
abbrev pub open_state : Rules → Configuration → State
open_state rules c = if is_quiet rules.rules c then Done else Running

-- the state of a job after a round: done where its configuration is quiet, else spent where its
-- budget is used up
abbrev pub state_after : Rules → Configuration → ℕ → Option ℕ → State
state_after rules c rounds budget =
    if is_quiet rules.rules c then Done else (if is_used_up budget rounds then Spent else Running)

-- a job as it begins: with a system and a budget or none, and no rounds made
abbrev pub begun : List ℕ → SystemParts → Option ℕ → JobParts
begun name system budget = record {
  name = name;
  rules = system.rules;
  config = system.config;
  rounds = 0;
  state = open_state system.rules system.config;
  budget = budget;
}

-- what a job has to reduce now: its rules and its whole configuration
abbrev pub system_of : JobParts → SystemParts
system_of j = record { rules = j.rules; config = j.config }

-- a further round can be made: the configuration fits, and rounds are left
abbrev pub can_move : JobParts → Bool
can_move j = fits j.rules.rules j.config && nat_lt j.rounds MAX_ROUNDS

-- a job after one more round
abbrev pub moved : JobParts → JobParts
moved j = record j {
  config = round j.rules.rules j.config;
  rounds = j.rounds + 1;
  state = state_after j.rules (round j.rules.rules j.config) (j.rounds + 1) j.budget;
}

-- a job in another state
abbrev pub in_state : State → JobParts → JobParts
in_state s j = record j { state = s }

-- whether two jobs are the same
abbrev pub job_eq : JobParts → JobParts → Bool
job_eq j k =
    bytes_eq j.name k.name && j.rounds == k.rounds && state_eq j.state k.state
    && budget_eq j.budget k.budget && configuration_eq j.config k.config && rules_eq j.rules k.rules

-- whether two tables have the same jobs in the same order
abbrev pub table_eq : List JobParts → List JobParts → Bool
table_eq = pointwise job_eq
