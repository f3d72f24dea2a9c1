-- How jobs, and what is shown of them, are stored, and that nothing is lost.
use Rattle.std.specs.Prelude.{ℕ, List, Option, refl}
use Rattle.std.specs.Coded.{Coded, code_by, coded×, coded_ℕ, coded_list, coded_option}
use Rattle.ic_term.specs.Configuration.{Configuration}
use Rattle.ic_term.specs.lemmas.Codings.{coded_configuration}
use Rattle.ic_rules.specs.RuleSet.{Rules}
use Rattle.ic_rules.specs.lemmas.Codings.{coded_rules}
use Rattle.ic_jobs.specs.declared.state.State.{State}
use Rattle.ic_jobs.specs.Job.{JobParts}
use Rattle.ic_jobs.specs.Shown.{ShownParts}
use Rattle.ic_jobs.specs.lemmas.StateLaws.{coded_state}

-- a job is stored as the tuple of its fields
abbrev pub coded_job : Coded JobParts
coded_job =
    code_by (List ℕ × (Rules × (Configuration × (ℕ × (State × Option ℕ)))))
    (coded× (coded_list coded_ℕ) (coded× coded_rules (coded× coded_configuration
    (coded× coded_ℕ (coded× coded_state (coded_option coded_ℕ))))))
    (λ j. (j.name, (j.rules, (j.config, (j.rounds, (j.state, j.budget))))))
    (λ p. record {
      name = p.0;
      rules = p.1.0;
      config = p.1.1.0;
      rounds = p.1.1.1.0;
      state = p.1.1.1.1.0;
      budget = p.1.1.1.1.1;
    })
    (λ _. refl)

-- a shown job is stored as the tuple of its fields
abbrev pub coded_shown : Coded ShownParts
coded_shown =
    code_by (List ℕ × (State × (ℕ × (Rules × Configuration))))
    (coded× (coded_list coded_ℕ)
    (coded× coded_state (coded× coded_ℕ (coded× coded_rules coded_configuration))))
    (λ s. (s.name, (s.state, (s.rounds, (s.rules, s.config)))))
    (λ p. record {
      name = p.0;
      state = p.1.0;
      rounds = p.1.1.0;
      rules = p.1.1.1.0;
      config = p.1.1.1.1;
    })
    (λ _. refl)
