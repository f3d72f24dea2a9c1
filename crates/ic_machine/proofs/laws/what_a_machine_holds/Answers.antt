use Rattle.std.proofs.Common.{◌≡◌, ℕ, ◌≤◌, length, subst}
use Rattle.std.specs.List.{AllByRecursion}
use Rattle.ic_machine.specs.Net.{Net, in_use, places_of, IsAtPlace, IsPair}
use Rattle.ic_machine.proofs.AtPlaces.{tables_at_places}
use Rattle.ic_machine.proofs.Grown.{net_fits, net_tables}
use Rattle.ic_machine.proofs.laws.what_a_machine_holds.Goals as goal

pub returns-clause-pairs : goal.returns-clause-pairs
returns-clause-pairs c = subst (λ (n : Net). AllByRecursion IsPair n.pending) c.machine.view_is c.machine.invariant.pairs

pub returns-clause-aside : goal.returns-clause-aside
returns-clause-aside c = subst (λ (n : Net). AllByRecursion IsPair n.aside) c.machine.view_is c.machine.invariant.aside

pub returns-clause-places : goal.returns-clause-places
returns-clause-places c =
    subst (λ (n : Net). AllByRecursion IsAtPlace n.places) c.machine.view_is
    (tables_at_places c.machine.inside.tables.names.entries c.machine.inside.tables.heaps.items)

pub returns-clause-symbols : goal.returns-clause-symbols
returns-clause-symbols c = subst (λ (n : Net). length n.agents ≡ length n.arities) c.machine.view_is (net_tables c.machine.inside)

pub returns-clause-room : goal.returns-clause-room
returns-clause-room c = subst (λ (n : Net). (kind : ℕ) → in_use kind n.places ≤ places_of kind n) c.machine.view_is (net_fits c.machine.inside)
