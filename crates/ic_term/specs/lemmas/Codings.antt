-- How configurations and symbols are stored, and that nothing is lost.
use Rattle.std.specs.Prelude.{ℕ, List, refl}
use Rattle.std.specs.Coded.{Coded, code_by, coded×, coded_ℕ, coded_list}
use Rattle.ic_term.specs.Tree.{Tree, Pair}
use Rattle.ic_term.specs.Configuration.{Configuration}
use Rattle.ic_term.specs.Symbol.{Symbol}
use Rattle.ic_term.specs.lemmas.TreeLaws.{coded_tree, coded_pair}

-- a configuration is stored as the tuple of its fields
abbrev pub coded_configuration : Coded Configuration
coded_configuration = code_by (List Tree × (List Pair × ℕ))
    (coded× (coded_list coded_tree) (coded× (coded_list coded_pair) coded_ℕ))
    (λ c. (c.interface, (c.equations, c.next))) (λ p. record {
      interface = p.0;
      equations = p.1.0;
      next = p.1.1;
    }) (λ _. refl)

-- a symbol is stored as the pair of its fields
abbrev pub coded_symbol : Coded Symbol
coded_symbol = code_by (List ℕ × ℕ) (coded× (coded_list coded_ℕ) coded_ℕ) (λ s. (s.text, s.arity))
    (λ p. record { text = p.0; arity = p.1 }) (λ _. refl)
