-- The test of equality of configurations is equality.
use Rattle.std.specs.Prelude.{◌≡◌, ◌==◌, true, refl}
use Rattle.std.specs.Bool.{Decides}
use Rattle.std.specs.Cmp.{IsEquivalence, decided, unsigned_Decides}
use Rattle.std.specs.Cmp.Lexicographic.{pointwise, pointwise_decides}
use Rattle.std.proofs.Common.{sym, ◌∙◌, ap}
use Rattle.std.proofs.lemmas.Bool.{and_parts, and_from}
use Rattle.ic_term.specs.Tree.{tree_eq, pair_eq}
use Rattle.ic_term.specs.lemmas.TreeLaws.{tree_eq-Decides, pair_eq-Decides}
use Rattle.ic_term.specs.Configuration.{Configuration, configuration_eq}

configuration_eq-true : (c d : Configuration) → configuration_eq c d ≡ true → c ≡ d
configuration_eq-true c d e =
    let last = and_parts _ (pointwise pair_eq c.equations d.equations) e in
    let first = and_parts (c.next == d.next) (pointwise tree_eq c.interface d.interface) last.0 in
    let next = (unsigned_Decides c.next d.next).0 first.0 in
    let interface = (pointwise_decides tree_eq-Decides c.interface d.interface).0 first.1 in
    let equations = (pointwise_decides pair_eq-Decides c.equations d.equations).0 last.1 in
    λ i. record { interface = interface i; equations = equations i; next = next i }

configuration_eq-refl : (c : Configuration) → configuration_eq c c ≡ true
configuration_eq-refl c =
    and_from _ _ (and_from _ _ ((unsigned_Decides c.next c.next).1 refl) ((pointwise_decides tree_eq-Decides c.interface c.interface).1 refl))
    ((pointwise_decides pair_eq-Decides c.equations c.equations).1 refl)

pub configuration_eq-Decides : (c d : Configuration) → Decides (configuration_eq c d) (c ≡ d)
configuration_eq-Decides c d =
    (configuration_eq-true c d, λ e. ap (configuration_eq c) (sym e) ∙ configuration_eq-refl c)

pub configuration_eq-equivalence : IsEquivalence configuration_eq
configuration_eq-equivalence = decided configuration_eq configuration_eq-Decides
