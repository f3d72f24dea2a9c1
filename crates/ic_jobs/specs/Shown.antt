-- What replies tell of jobs.
use Rattle.std.specs.Prelude.{ℕ, List, map}
use Rattle.ic_term.specs.Configuration.{Configuration}
use Rattle.ic_rules.specs.RuleSet.{Rules}
use Rattle.ic_jobs.specs.declared.state.State.{State}
use Rattle.ic_jobs.specs.Job.{JobParts}

-- A job as a reply shows it.
pub record ShownParts : Type 0 where
  pub name : List ℕ
  pub state : State
  pub rounds : ℕ
  pub rules : Rules
  pub config : Configuration

abbrev pub shown : JobParts → ShownParts
shown j = record {
  name = j.name;
  state = j.state;
  rounds = j.rounds;
  rules = j.rules;
  config = j.config;
}

-- the name, state and rounds of each job, in the order of the table
abbrev pub listed : List JobParts → List (List ℕ × State × ℕ)
listed t = map (λ j. (j.name, j.state, j.rounds)) t
