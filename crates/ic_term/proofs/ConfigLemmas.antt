-- What makes a configuration.
use Rattle.std.proofs.Common.{◌≡◌, ◌↔◌, false, Ok, Err, refl, sym, ◌∙◌, Some, Option, cond, ℕ, ◌⊎◌, inl, inr, length, ap, ◌<◌, ◌≤◌, Bool, true, IsTrue, List, [], ◌∷◌, None, nat_lt, arith}
use Rattle.std.proofs.lemmas.Grind.{common_steps}
use Rattle.std.specs.List.{list_all, AllByRecursion}
use Rattle.ic_term.specs.Configuration.{Configuration, IsConfiguration, IsWide, is_small_enough, is_wide_enough, third_occurrence, restored, restored_if, wide_restored, is_within, is_within_wide, is_numbered_within, unless_third, configuration_names, configuration_nodes}
use Rattle.ic_term.specs.declared.limits.TheConstants.{MAX_NODES, MAX_INTERFACE, MAX_NEXT, MAX_WIDE_NODES}
use Rattle.ic_term.specs.declared.config.ConfigFault.TheVariants.{Limit}
use Rattle.ic_term.proofs.ThirdOccurrence.{twice_from_none, none_from_twice}

pub below_from_test : (next : ℕ) (names : List ℕ) → list_all (λ n. nat_lt n next) names ≡ true → AllByRecursion (λ n. n < next) names
below_from_test next [] h = tt
below_from_test next (n ∷ names) h =
    let rest : list_all (λ m. nat_lt m next) names ≡ true = grind (arith, common_steps) in
    ((let here : n < next = grind (arith, common_steps) in here), below_from_test next names rest)

pub configuration_from_tests : (c : Configuration) → IsTrue (is_small_enough c.interface c.equations) → c.next ≤ MAX_NEXT
    → list_all (λ n. nat_lt n c.next) (configuration_names c) ≡ true → third_occurrence (configuration_names c) ≡ None → IsConfiguration c
configuration_from_tests c small next below none = record {
  nodes = grind (arith, common_steps);
  interface = grind (arith, common_steps);
  next = next;
  below = below_from_test c.next (configuration_names c) below;
  twice = twice_from_none [] (configuration_names c) none (λ q. omega arith);
}

test_from_below : (next : ℕ) (names : List ℕ) → AllByRecursion (λ n. n < next) names → list_all (λ n. nat_lt n next) names ≡ true
test_from_below next [] h = refl
test_from_below next (n ∷ names) h = let rest = test_from_below next names h.1 in let here = h.0 in grind (arith, common_steps)

accepted : (c : Configuration) (within : Bool) (third : Option ℕ) → cond within (unless_third c third) (Err Limit) ≡ Ok c → (within ≡ true) × (third ≡ None)
accepted c true None e = (refl, refl)
accepted c true (Some n) e = cc
accepted c false third e = cc

-- `restored` takes exactly the configurations
pub restored_exactly : (c : Configuration) → (restored c ≡ Ok c) ↔ IsConfiguration c
restored_exactly c = (sound c, complete c)
  where
    complete : (c : Configuration) → IsConfiguration c → restored c ≡ Ok c
    complete c is =
        let below = test_from_below c.next (configuration_names c) is.below in
        let none = none_from_twice [] (configuration_names c) is.twice in
        let within : is_within c ≡ true = grind (arith, common_steps, is.nodes, is.interface, is.next, below) in
        rw (within, none) refl

    sound : (c : Configuration) → restored c ≡ Ok c → IsConfiguration c
    sound c is =
        let tests = accepted c (is_within c) (third_occurrence (configuration_names c)) is in
        let within = tests.0 in
        let small : IsTrue (is_small_enough c.interface c.equations) = grind (arith, common_steps, within) in
        let next : c.next ≤ MAX_NEXT = grind (arith, common_steps, within) in
        let below : list_all (λ n. nat_lt n c.next) (configuration_names c) ≡ true = grind (arith, common_steps, within) in
        configuration_from_tests c small next below tests.1

-- ---- wide ones

wide_from_tests : (c : Configuration) → configuration_nodes c ≤ MAX_WIDE_NODES → c.next ≤ MAX_NEXT
    → list_all (λ n. nat_lt n c.next) (configuration_names c) ≡ true → third_occurrence (configuration_names c) ≡ None → IsWide c
wide_from_tests c nodes next below none = record {
  nodes = nodes;
  next = next;
  below = below_from_test c.next (configuration_names c) below;
  twice = twice_from_none [] (configuration_names c) none (λ q. omega arith);
}

-- `wide_restored` takes exactly the wide ones
pub wide_restored_exactly : (c : Configuration) → (wide_restored c ≡ Ok c) ↔ IsWide c
wide_restored_exactly c = (sound c, complete c)
  where
    complete : (c : Configuration) → IsWide c → wide_restored c ≡ Ok c
    complete c is =
        let below = test_from_below c.next (configuration_names c) is.below in
        let none = none_from_twice [] (configuration_names c) is.twice in
        let within : is_within_wide c ≡ true = grind (arith, common_steps, is.nodes, is.next, below) in
        rw (within, none) refl

    sound : (c : Configuration) → wide_restored c ≡ Ok c → IsWide c
    sound c is =
        let tests = accepted c (is_within_wide c) (third_occurrence (configuration_names c)) is in
        let within = tests.0 in
        let nodes : configuration_nodes c ≤ MAX_WIDE_NODES = grind (arith, common_steps, within) in
        let next : c.next ≤ MAX_NEXT = grind (arith, common_steps, within) in
        let below : list_all (λ n. nat_lt n c.next) (configuration_names c) ≡ true = grind (arith, common_steps, within) in
        wide_from_tests c nodes next below tests.1

pub wide_each : (c : Configuration) → IsConfiguration c → IsWide c
wide_each c is = record {
  nodes = (let few = is.nodes in omega arith);
  next = is.next;
  below = is.below;
  twice = is.twice;
}

pub wide_narrow : (c : Configuration) → IsWide c → configuration_nodes c ≤ MAX_NODES → length c.interface ≤ MAX_INTERFACE → IsConfiguration c
wide_narrow c is nodes interface = record {
  nodes = nodes;
  interface = interface;
  next = is.next;
  below = is.below;
  twice = is.twice;
}

-- where the narrow limits are kept, the wide one is
pub wide_alike : (c : Configuration) → configuration_nodes c ≤ MAX_NODES → length c.interface ≤ MAX_INTERFACE → wide_restored c ≡ restored c
wide_alike c nodes interface =
    let small : is_small_enough c.interface c.equations ≡ true = grind (arith, common_steps, nodes, interface) in
    let wide : is_wide_enough c.interface c.equations ≡ true = grind (arith, common_steps, nodes) in
    ap (λ sizes. restored_if (is_numbered_within sizes c) c) (wide ∙ sym small)

pub narrow_refused : (c : Configuration) → (MAX_NODES < configuration_nodes c) ⊎ (MAX_INTERFACE < length c.interface) → restored c ≡ Err Limit
narrow_refused c past =
    let large : is_small_enough c.interface c.equations ≡ false = elim past [
      | inl nodes ↦ grind (arith, common_steps, nodes)
      | inr interface ↦ grind (arith, common_steps, interface)
    ] in
    ap (λ sizes. restored_if (is_numbered_within sizes c) c) large
