-- A round of a job that was made.
use Rattle.std.specs.Prelude.{◌≡◌, ℕ, ◌<◌, List, IsTrue, refl}
use Rattle.std.specs.Coded.{Coded, code_by, coded×, coded_ℕ, coded_list}
use Rattle.ic_term.specs.Symbol.{is_over}
use Rattle.ic_term.specs.Configuration.{Configuration}
use Rattle.ic_term.specs.lemmas.Codings.{coded_configuration}
use Rattle.ic_rules.specs.RuleSet.{Rules}
use Rattle.ic_rules.specs.lemmas.Codings.{coded_rules}
use Rattle.ic_round.specs.Rounds.{fits, round}
use Rattle.ic_flights.specs.Flight.{FlightParts}
use Rattle.ic_flights.specs.declared.limits.TheConstants.{MAX_ROUNDS}

-- A job's name, its rules, its configuration before and after the round, and how many rounds it had
-- made before.
pub record PlayedParts : Type 0 where
  pub name : List ℕ
  pub rules : Rules
  pub before : Configuration
  pub after : Configuration
  pub rounds : ℕ

-- What each made round keeps: `after` is the round of `before`, which fits.
pub record IsPlayed (p : PlayedParts) : Type 0 where
  pub over_before : IsTrue (is_over p.rules.symbols p.before)
  pub over_after : IsTrue (is_over p.rules.symbols p.after)
  pub fitting : IsTrue (fits p.rules.rules p.before)
  pub made : p.after ≡ round p.rules.rules p.before
  pub counted : p.rounds < MAX_ROUNDS

-- the round of a flight
abbrev pub round_of : FlightParts → PlayedParts
round_of f = record {
  name = f.name;
  rules = f.rules;
  before = f.config;
  after = round f.rules.rules f.config;
  rounds = f.rounds;
}

-- a made round is stored as the tuple of its fields
abbrev pub coded_played : Coded PlayedParts
coded_played =
    code_by (List ℕ × (Rules × (Configuration × (Configuration × ℕ))))
    (coded× (coded_list coded_ℕ)
    (coded× coded_rules (coded× coded_configuration (coded× coded_configuration coded_ℕ))))
    (λ p. (p.name, (p.rules, (p.before, (p.after, p.rounds)))))
    (λ p. record {
      name = p.0;
      rules = p.1.0;
      before = p.1.1.0;
      after = p.1.1.1.0;
      rounds = p.1.1.1.1;
    })
    (λ _. refl)
