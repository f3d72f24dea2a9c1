-- A round of a job that is to be made.
use Rattle.std.specs.Prelude.{ℕ, ◌≤◌, ◌==◌, ◌||◌, List, Bool, not, IsTrue, refl}
use Rattle.std.specs.Coded.{Coded, code_by, coded×, coded_ℕ, coded_list}
use Rattle.ic_term.specs.Symbol.{is_over}
use Rattle.ic_term.specs.Configuration.{Configuration}
use Rattle.ic_term.specs.lemmas.Codings.{coded_configuration}
use Rattle.ic_rules.specs.RuleSet.{Rules}
use Rattle.ic_rules.specs.lemmas.Codings.{coded_rules}
use Rattle.ic_round.specs.Rounds.{fits}
use Rattle.ic_flights.specs.declared.limits.TheConstants.{MAX_ROUNDS}

-- A job's place in its table and its name, its rules and configuration, and how many rounds it has
-- made.
pub record FlightParts : Type 0 where
  pub place : ℕ
  pub name : List ℕ
  pub rules : Rules
  pub config : Configuration
  pub rounds : ℕ

-- What each flight keeps.
pub record IsFlight (f : FlightParts) : Type 0 where
  pub over : IsTrue (is_over f.rules.symbols f.config)
  pub counted : f.rounds ≤ MAX_ROUNDS

-- no further round can be made: the configuration doesn't fit, or all rounds are used up
abbrev pub is_blocked : FlightParts → Bool
is_blocked f = not (fits f.rules.rules f.config) || f.rounds == MAX_ROUNDS

-- a flight is stored as the tuple of its fields
abbrev pub coded_flight : Coded FlightParts
coded_flight =
    code_by (ℕ × (List ℕ × (Rules × (Configuration × ℕ))))
    (coded× coded_ℕ
    (coded× (coded_list coded_ℕ) (coded× coded_rules (coded× coded_configuration coded_ℕ))))
    (λ f. (f.place, (f.name, (f.rules, (f.config, f.rounds)))))
    (λ p. record {
      place = p.0;
      name = p.1.0;
      rules = p.1.1.0;
      config = p.1.1.1.0;
      rounds = p.1.1.1.1;
    })
    (λ _. refl)
