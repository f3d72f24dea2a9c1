-- How rules, rule sets and systems are stored, and that nothing is lost.
use Rattle.std.specs.Prelude.{ℕ, List, refl}
use Rattle.std.specs.Coded.{Coded, code_by, coded×, coded_ℕ, coded_list}
use Rattle.ic_term.specs.Tree.{Tree}
use Rattle.ic_term.specs.Configuration.{Configuration}
use Rattle.ic_term.specs.Symbol.{Symbol}
use Rattle.ic_term.specs.lemmas.Codings.{coded_configuration, coded_symbol}
use Rattle.ic_term.specs.lemmas.TreeLaws.{coded_tree}
use Rattle.ic_rules.specs.Rule.{Rule}
use Rattle.ic_rules.specs.RuleSet.{Rules}
use Rattle.ic_rules.specs.System.{SystemParts}

-- a rule is stored as the tuple of its fields
abbrev pub coded_rule : Coded Rule
coded_rule = code_by (ℕ × (ℕ × (List Tree × (List Tree × ℕ))))
    (coded× coded_ℕ
    (coded× coded_ℕ (coded× (coded_list coded_tree) (coded× (coded_list coded_tree) coded_ℕ))))
    (λ r. (r.left, (r.right, (r.left_args, (r.right_args, r.names)))))
    (λ p. record {
      left = p.0;
      right = p.1.0;
      left_args = p.1.1.0;
      right_args = p.1.1.1.0;
      names = p.1.1.1.1;
    }) (λ _. refl)

-- a rule set is stored as the pair of its lists
abbrev pub coded_rules : Coded Rules
coded_rules = code_by (List Symbol × List Rule)
    (coded× (coded_list coded_symbol) (coded_list coded_rule)) (λ r. (r.symbols, r.rules))
    (λ p. record { symbols = p.0; rules = p.1 }) (λ _. refl)

-- a system is stored as the pair of its fields
abbrev pub coded_system : Coded SystemParts
coded_system = code_by (Rules × Configuration) (coded× coded_rules coded_configuration)
    (λ s. (s.rules, s.config)) (λ p. record { rules = p.0; config = p.1 }) (λ _. refl)
